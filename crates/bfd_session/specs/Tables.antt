-- A table of sessions and reflectors.
use Rattle.std.specs.Prelude.{◌≡◌, ◌≤◌, ℕ, List, [], ◌∷◌, length, map}
use Rattle.std.specs.List.{AllByRecursion}
use Rattle.bfd_sbfd.specs.declared.reflecting.Reflector.{Reflector}
use Rattle.bfd_sbfd.specs.Reflect.{Ascends as PoolAscends}
use Rattle.bfd_demux.specs.declared.row.Row.{Row}
use Rattle.bfd_session.specs.declared.event.SessionConfig.{SessionConfig}
use Rattle.bfd_session.specs.Kinds.{discr_of}
use Rattle.bfd_session.specs.Rows.{Ascends, table_of}

-- numbers in ascending order, equal ones allowed
abbrev pub Climbs : List ℕ → Type 0
Climbs [] = Unit {0}
Climbs (d ∷ ds) = AllByRecursion (λ e. d ≤ e) ds × Climbs ds

-- sessions and reflectors, each in ascending order of discriminator; building the table reports equal ones
abbrev pub IsSorted : List SessionConfig → List Reflector → Type 0
IsSorted configs pool = Climbs (map discr_of configs) × Climbs (map (λ reflector. reflector.discr) pool)

-- the sessions' configurations and the reflectors of a table
pub record Members : Type 0 where
  pub configs : List SessionConfig
  pub pool : List Reflector

abbrev pub members : List SessionConfig → List Reflector → Members
members configs pool = record { configs = configs; pool = pool }

-- these rows are those of the sessions and the reflectors, which ascend, of at most 65,536 sessions
pub record IsTableOf (configs : List SessionConfig) (pool : List Reflector) (rows : List Row) : Type 0 where
  pub rows_are : rows ≡ table_of configs pool
  pub ascends : Ascends configs
  pub climbs : PoolAscends pool
  pub few : length configs ≤ 65536
