-- A session that stands at a place and has a discriminator is the one that is found by it, since they ascend.
use Rattle.std.proofs.Common.{◌≡◌, ◌<◌, ◌+◌, ◌∙◌, ◌∷◌, ℕ, zero, suc, true, List, [], Some, arith, get_or, length, nat_lt, refl, sym, ap}
use Rattle.std.specs.Prelude.{◌==◌, slice_get}
use Rattle.std.specs.List.{AllByRecursion, position_from}
use Rattle.std.proofs.lemmas.Bool.{eq-eqb, ne_eqb}
use Rattle.std.proofs.lemmas.Bool.Decides.{nat_tests}
use Rattle.std.proofs.lemmas.Option.{slice_get_read}
use Rattle.std.proofs.lemmas.Iterator.Adapters.{position_from-zero}
use Rattle.bfd_session.specs.declared.event.SessionConfig.{SessionConfig}
use Rattle.bfd_session.specs.Kinds.{Running, configs_of, discr_of}
use Rattle.bfd_session.specs.Rows.{Ascends, place_of}

-- what was read at a place within a list stands there
pub there : {X : Type 0} (xs : List X) (k : ℕ) (x : X) → true ≡ nat_lt k (length xs) → x ≡ get_or xs k x → slice_get xs k ≡ Some x
there xs k x below is = slice_get_read xs (length xs) k x refl (grind (arith, nat_tests)) is

above : (low : ℕ) (ss : List Running) (place : ℕ) (s : Running) → AllByRecursion (λ later. low < discr_of later) (configs_of ss)
    → slice_get ss place ≡ Some s → low < discr_of s.config
above low [] place s all there = absurd (cc)
above low (t ∷ ss) zero s all there = (let same : t ≡ s = cc in rw (← same) all.0)
above low (t ∷ ss) (suc place) s all there = above low ss place s all.1 there

found_from : (ss : List Running) (place n discr : ℕ) (s : Running) → Ascends (configs_of ss) → slice_get ss place ≡ Some s
    → discr_of s.config ≡ discr → position_from (λ (c : SessionConfig). discr == discr_of c) n (configs_of ss) ≡ Some (n + place)
found_from [] place n discr s up there has = absurd (cc)
found_from (t ∷ ss) zero n discr s up there has =
    let same : t ≡ s = cc in
    rw (eq-eqb discr (discr_of t.config) (sym has ∙ ap (λ (x : Running). discr_of x.config) (sym same))) (ap Some (omega arith))
found_from (t ∷ ss) (suc place) n discr s up there has =
    let low : discr_of t.config < discr_of s.config = above (discr_of t.config) ss place s up.0 there in
    rw (ne_eqb discr (discr_of t.config) (λ e. omega (arith, low, has, e)))
    (found_from ss place (n + 1) discr s up.1 there has ∙ ap Some (omega arith))

pub found : (ss : List Running) (place discr : ℕ) (s : Running) → Ascends (configs_of ss) → slice_get ss place ≡ Some s
    → discr_of s.config ≡ discr → place_of discr (configs_of ss) ≡ Some place
found ss place discr s up there has =
    position_from-zero (λ (c : SessionConfig). discr == discr_of c) (configs_of ss)
    ∙ found_from ss place 0 discr s up there has ∙ ap Some (omega arith)
