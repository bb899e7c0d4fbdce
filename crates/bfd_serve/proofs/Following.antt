-- A table that ascends and differs, seen from its front: each session against those before it.
use Rattle.bfd_serve.proofs.SpellingCommon.{◌≡◌, ◌<◌, false, List, [], ◌∷◌, ◌++◌, ◌∙◌, AllByRecursion, SessionConfig, each_more, each_to}
use Rattle.bfd_session.specs.Rows.{Ascends, row_of, same_selector, Differs}
use Rattle.bfd_session.specs.Kinds.{discr_of}
use Rattle.bfd_session.proofs.Tables.{same_turned}

-- each session before is below this one, and has other selecting addresses
pub record Follows (done : List SessionConfig) (c : SessionConfig) : Type 0 where
  pub above : AllByRecursion (λ d. discr_of d < discr_of c) done
  pub apart : AllByRecursion (λ d. same_selector c d ≡ false) done

-- each session is after those before it
abbrev pub Ready : List SessionConfig → List SessionConfig → Type 0
Ready done [] = Unit {0}
Ready done (c ∷ cs) = Follows done c × Ready (done ++ c ∷ []) cs

-- all sessions before are below these, and have other selecting addresses
pub record AllBefore (d : SessionConfig) (cs : List SessionConfig) : Type 0 where
  pub below : AllByRecursion (λ c. discr_of d < discr_of c) cs
  pub apart : AllByRecursion (λ c. same_selector d c ≡ false) cs

before_tail : (c : SessionConfig) (cs : List SessionConfig) (d : SessionConfig) → AllBefore d (c ∷ cs) → AllBefore d cs
before_tail c cs d h = record { below = h.below.1; apart = h.apart.1 }

before_above : (c : SessionConfig) (cs : List SessionConfig) (d : SessionConfig) → AllBefore d (c ∷ cs) → discr_of d < discr_of c
before_above c cs d h = h.below.0

before_apart : (c : SessionConfig) (cs : List SessionConfig) (d : SessionConfig) → AllBefore d (c ∷ cs) → same_selector c d ≡ false
before_apart c cs d h = same_turned (row_of c).kind (row_of d).kind ∙ h.apart.0

-- so it is in a table that ascends and differs
pub ready : (done cs : List SessionConfig) → AllByRecursion (λ d. AllBefore d cs) done → Ascends cs → Differs cs → Ready done cs
ready done [] before up apart = tt
ready done (c ∷ cs) before up apart = (
  record { above = each_to done (before_above c cs) before; apart = each_to done (before_apart c cs) before },
  ready (done ++ c ∷ []) cs
      (each_more (λ d. AllBefore d cs) done (c ∷ []) (each_to done (before_tail c cs) before)
      (record { below = up.0; apart = apart.0 }, tt)) up.1 apart.1,
)
