-- A world to which a session was added is, once that is removed, as it was.
use Rattle.std.proofs.Common.{◌≡◌, ◌≤◌, ◌+◌, ◌∙◌, ◌∷◌, ℕ, zero, suc, List, [], None, Some, length, map, refl}
use Rattle.std.proofs.Common.{ap, arith}
use Rattle.std.specs.Prelude.{◌==◌, nat_lt}
use Rattle.std.specs.List.{insert, position_from}
use Rattle.std.proofs.lemmas.Iterator.Adapters.{position_from-zero}
use Rattle.std.proofs.lemmas.Bool.{eq-eqb}
use Rattle.std.proofs.lemmas.List.{length-map}
use Rattle.bfd_demux.proofs.Indexing.{fits}
use Rattle.bfd_demux.proofs.Lookups.{length-filter-le}
use Rattle.bfd_session.specs.declared.event.SessionConfig.{SessionConfig}
use Rattle.bfd_session.specs.Changes.{place_for}
use Rattle.bfd_session.specs.Kinds.{Running, configs_of, discr_of}
use Rattle.bfd_session.specs.Rows.{place_of, row_of, row_of_reflector, table_of}
use Rattle.bfd_session.specs.Step.{started}
use Rattle.bfd_session.proofs.Changes.{map_inserted, taken_out}
use Rattle.bfd_instance.proofs.Joining.{Others, others}
use Rattle.bfd_instance.specs.World.{World, session_fault, without_at, world_with, world_without}

-- where no other has its discriminator, a session is found at its place
found_from : (p n : ℕ) (c : SessionConfig) (cs : List SessionConfig) → p ≤ length cs → Others (discr_of c) cs
    → position_from (λ d. discr_of c == discr_of d) n (insert cs p c) ≡ Some (n + p)
found_from zero n c [] within o = rw (eq-eqb (discr_of c) (discr_of c) refl) (ap Some (omega arith))
found_from zero n c (d ∷ cs) within o = rw (eq-eqb (discr_of c) (discr_of c) refl) (ap Some (omega arith))
found_from (suc p) n c [] within o = absurd (omega (arith, within))
found_from (suc p) n c (d ∷ cs) within o = rw o.0 (found_from p (n + 1) c cs (omega (arith, within)) o.1 ∙ ap Some (omega arith))

found : (p : ℕ) (c : SessionConfig) (cs : List SessionConfig) → p ≤ length cs → Others (discr_of c) cs
    → place_of (discr_of c) (insert cs p c) ≡ Some p
found p c cs within o = position_from-zero (λ (d : SessionConfig). discr_of c == discr_of d) (insert cs p c) ∙ found_from p 0 c cs within o
    ∙ ap Some (omega arith)

pub undone : (c : SessionConfig) (w : World) → session_fault c w ≡ None → world_without (discr_of c) (world_with c w) ≡ w
undone c w clear =
    let cs : List SessionConfig = configs_of w.sessions in
    let p : ℕ = place_for (discr_of c) cs in
    let fit = fits (row_of c) (table_of cs w.pool) clear in
    let o : Others (discr_of c) cs = others (discr_of c) cs (map row_of_reflector w.pool) fit.discr in
    let within : p ≤ length cs = length-filter-le (λ (d : SessionConfig). nat_lt (discr_of d) (discr_of c)) cs in
    let within_sessions : p ≤ length w.sessions = omega (arith, within, length-map w.sessions (λ (s : Running). s.config)) in
    ap (λ xs. without_at (place_of (discr_of c) xs) (world_with c w)) (map_inserted (λ (s : Running). s.config) w.sessions p (started c))
    ∙ ap (λ o. without_at o (world_with c w)) (found p c cs within o)
    ∙ ap (λ (ss : List Running). record w { sessions = ss }) (taken_out w.sessions p (started c) within_sessions)
