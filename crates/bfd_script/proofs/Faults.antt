-- The table of a script has no fault.
use Rattle.bfd_script.proofs.Common.{◌==◌, ◌<◌, ◌≤◌, ◌+◌, None, ◌≡◌, List, [], ◌∷◌, length, AllByRecursion, or_parts, Reflector}
use Rattle.bfd_script.proofs.Common.{SessionConfig, discr_of, table_of, IsElsewhere, no_fault_with, build_fault, has_discr, IsReflector}
use Rattle.bfd_script.proofs.Common.{AreApart, AreConfigs, ArePool}

-- no reflector has a session's discriminator, stated for the sessions

first_apart : (c : SessionConfig) (cs : List SessionConfig) (pool : List Reflector) → AreApart (c ∷ cs) pool → IsElsewhere pool c
first_apart c cs [] apart = tt
first_apart c cs (r ∷ pool) apart = ((or_parts (r.discr == discr_of c) (has_discr r.discr cs) apart.0).0, first_apart c cs pool apart.1)

rest_apart : (c : SessionConfig) (cs : List SessionConfig) (pool : List Reflector) → AreApart (c ∷ cs) pool → AreApart cs pool
rest_apart c cs [] apart = tt
rest_apart c cs (r ∷ pool) apart = ((or_parts (r.discr == discr_of c) (has_discr r.discr cs) apart.0).1, rest_apart c cs pool apart.1)

elsewhere : (cs : List SessionConfig) (pool : List Reflector) → AreApart cs pool → AllByRecursion (IsElsewhere pool) cs
elsewhere [] pool apart = tt
elsewhere (c ∷ cs) pool apart = (first_apart c cs pool apart, elsewhere cs pool (rest_apart c cs pool apart))

some_discrs : (pool : List Reflector) → AllByRecursion IsReflector pool → AllByRecursion (λ r. 0 < r.discr) pool
some_discrs [] rows = tt
some_discrs (r ∷ pool) rows = (rows.0.discr, some_discrs pool rows.1)

-- the table of a script's sessions and reflectors has no fault
pub no_fault : (configs : List SessionConfig) (pool : List Reflector) → AreConfigs configs → ArePool pool → AreApart configs pool
    → length configs + length pool ≤ 65536 → build_fault (table_of configs pool) ≡ None
no_fault configs pool sound climbs apart few =
    no_fault_with configs pool sound.ascends sound.differs sound.fit climbs.ascends (some_discrs pool climbs.rows)
    (elsewhere configs pool apart) few
