-- Sessions and reflectors that ascend stand in order.
use Rattle.bfd_engine.proofs.Common.{◌<◌, ◌≤◌, ℕ, List, [], ◌∷◌, map, arith, AllByRecursion, SessionConfig, discr_of, Ascends, Climbs}
use Rattle.bfd_engine.proofs.Common.{IsSorted, Reflector}
use Rattle.bfd_sbfd.specs.Reflect.{Ascends as PoolAscends}

module _ {X : Type 0} (discr : X → ℕ) where
  no_lower : (d : ℕ) (xs : List X) → AllByRecursion (λ later. d < discr later) xs → AllByRecursion (λ e. d ≤ e) (map discr xs)
  no_lower d [] h = tt
  no_lower d (x ∷ xs) h = (omega (arith, h.0), no_lower d xs h.1)

configs_climb : (cs : List SessionConfig) → Ascends cs → Climbs (map discr_of cs)
configs_climb [] h = tt
configs_climb (c ∷ cs) h = (no_lower discr_of (discr_of c) cs h.0, configs_climb cs h.1)

pool_climbs : (rs : List Reflector) → PoolAscends rs → Climbs (map (λ (r : Reflector). r.discr) rs)
pool_climbs [] h = tt
pool_climbs (r ∷ rs) h = (no_lower (λ r. r.discr) r.discr rs h.0, pool_climbs rs h.1)

-- where both ascend, the table is sorted
pub sorted : (configs : List SessionConfig) (pool : List Reflector) → Ascends configs → PoolAscends pool → IsSorted configs pool
sorted configs pool ascends climbs = (configs_climb configs ascends, pool_climbs pool climbs)
