-- A replay on its way, as its calls see it.
use Rattle.std.specs.Prelude.{◌≡◌, ◌≤◌, ◌+◌, ◌*◌, List, length}
use Rattle.bfd_rules.specs.declared.outputs.Out.{Out}
use Rattle.bfd_rules.specs.EventFrame.{Outputs}
use Rattle.bfd_sbfd.specs.declared.reflecting.Reflector.{Reflector}
use Rattle.bfd_session.specs.declared.event.SessionConfig.{SessionConfig}
use Rattle.bfd_session.specs.Kinds.{Running, configs_of}
use Rattle.bfd_session.specs.Rows.{Ascends}
use Rattle.bfd_session.specs.Tables.{Members}
use Rattle.bfd_script.specs.Sound.{AreConfigs, ArePool, AreApart}
use Rattle.bfd_instance.specs.World.{World}

-- the world, and the outputs of the last event
pub record Stage : Type 0 where
  pub world : World
  pub items : List Out

-- sessions and reflectors that form a table, as those of a script do
pub record IsTable (sessions : List SessionConfig) (reflectors : List Reflector) : Type 0 where
  pub configs : AreConfigs sessions
  pub pool : ArePool reflectors
  pub apart : AreApart sessions reflectors
  pub few : length sessions + length reflectors ≤ 65536

-- the table is that of the sessions, which ascend, and there is room for five outputs of each
pub record IsStage (sessions : List Running) (table : Members) (outs : Outputs) : Type 0 where
  pub configs : table.configs ≡ configs_of sessions
  pub ascends : Ascends table.configs
  pub room_for_all : 5 * length sessions + 5 ≤ outs.room
