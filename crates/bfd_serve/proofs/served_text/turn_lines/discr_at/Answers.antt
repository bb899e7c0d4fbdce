-- The session at a place has the discriminator of the configuration at that place.
use Rattle.bfd_serve.proofs.ServedTextCommon.{◌≡◌, ℕ, zero, suc, List, [], ◌∷◌, length, get_or, true, false, refl, sym, arith, nat_lt}
use Rattle.bfd_serve.proofs.ServedTextCommon.{slice_get, Running, configs_of, discr_of, discr_at}
use Rattle.std.proofs.lemmas.Bool.Decides.{nat_tests}
use Rattle.bfd_serve.proofs.served_text.turn_lines.discr_at.Goals as goal

found : (ss : List Running) (k : ℕ) {s : Running} → true ≡ nat_lt k (length ss) → s ≡ get_or ss k s
    → discr_at (slice_get (configs_of ss) k) ≡ discr_of s.config
found [] k below is = absurd (grind (arith, nat_tests))
found (x ∷ ss) zero below is = cc
found (x ∷ ss) (suc k) below is = found ss k (grind (arith, nat_tests)) is

missing : (ss : List Running) (k : ℕ) → false ≡ nat_lt k (length ss) → discr_at (slice_get (configs_of ss) k) ≡ 0
missing [] k h = refl
missing (x ∷ ss) zero h = absurd (grind (arith, nat_tests))
missing (x ∷ ss) (suc k) h = missing ss k (grind (arith, nat_tests))

pub returns-in-Some : goal.returns-in-Some
returns-in-Some c = cc (found c.args.sessions.now c.args.place c.in-Some.ensures.lookup.0 c.in-Some.ensures.lookup.1)

pub returns-in-None : goal.returns-in-None
returns-in-None c = sym (missing c.args.sessions.now c.args.place c.in-None.ensures.lookup.0)
