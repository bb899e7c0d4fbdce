-- What is true of each script that the grammar accepts.
use Rattle.std.specs.Prelude.{◌≡◌, ◌≤◌, ◌+◌, true, false, List, length}
use Rattle.std.specs.List.{AllByRecursion}
use Rattle.bfd_session.specs.Rows.{Ascends, AreFit, Differs}
use Rattle.bfd_sbfd.specs.Reflect as pool
use Rattle.bfd_sbfd.specs.declared.reflecting.Reflector.{Reflector}
use Rattle.bfd_session.specs.declared.event.SessionConfig.{SessionConfig}
use Rattle.bfd_script.specs.declared.line.entries.Line.{Line}
use Rattle.bfd_script.specs.Ranges.{IsRow, IsReflector, IsEvent}
use Rattle.bfd_script.specs.Reading.{Lists, is_named}
use Rattle.bfd_script.specs.Rows.{has_discr}

-- a table of sessions: strictly ascending by discriminator, each within its ranges, no two with the same selecting
-- addresses, and at most 65,536
pub record AreConfigs (configs : List SessionConfig) : Type 0 where
  pub ascends : Ascends configs
  pub differs : Differs configs
  pub fit : AreFit configs
  pub rows : AllByRecursion IsRow configs
  pub few : length configs ≤ 65536

-- a pool of reflectors: strictly ascending by discriminator, each within its ranges
pub record ArePool (reflectors : List Reflector) : Type 0 where
  pub ascends : pool.Ascends reflectors
  pub rows : AllByRecursion IsReflector reflectors

-- no reflector has the discriminator of a session
abbrev pub AreApart : List SessionConfig → List Reflector → Type 0
AreApart configs reflectors = AllByRecursion (λ r. has_discr r.discr configs ≡ false) reflectors

-- events: each as its line gives it, and at most 200,000
pub record AreEvents (events : List Line) : Type 0 where
  pub lines : AllByRecursion IsEvent events
  pub few : length events ≤ 200000

-- each event that names a session names one of these
abbrev pub AreNamed : List SessionConfig → List Line → Type 0
AreNamed configs events = AllByRecursion (λ e. is_named e configs ≡ true) events

-- a script that the grammar accepts; sessions and reflectors together are at most 65,536
pub record IsScript (script : Lists) : Type 0 where
  pub configs : AreConfigs script.configs
  pub pool : ArePool script.pool
  pub apart : AreApart script.configs script.pool
  pub few : length script.configs + length script.pool ≤ 65536
  pub events : AreEvents script.events
  pub named : AreNamed script.configs script.events
