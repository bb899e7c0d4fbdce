-- A world at the start and after an event, and its table.
use Rattle.bfd_instance.proofs.Common.{None, ◌≡◌, ◌+◌, ◌*◌, ℕ, ◌∙◌, List, length, map, ap, sym, arith, Reflector, SessionConfig, Running}
use Rattle.bfd_instance.proofs.Common.{Answer, Line, configs_of, table_of, started, turned, world_of, happens, Outputs}
use Rattle.std.proofs.lemmas.List.{length-map}
use Rattle.bfd_demux.specs.Rows.{build_fault}
use Rattle.bfd_session.specs.Tables.{Members, members}
use Rattle.bfd_session.proofs.Starting.{started_configs}
use Rattle.bfd_script.proofs.Faults as script
use Rattle.bfd_instance.specs.Stage.{IsStage, IsTable}
use Rattle.bfd_instance.proofs.SameConfigs.{happens_keeps}

pub stage_opened : (configs : List SessionConfig) (pool : List Reflector) {sessions : List Running} {table : Members} (outs : Outputs)
    → IsTable configs pool → sessions ≡ map started configs → table ≡ members configs pool → outs.room ≡ 5 * length configs + 5
    → IsStage sessions table outs
stage_opened configs pool outs are made is room = record {
  configs = cc (started_configs configs);
  ascends = rw is are.configs.ascends;
  room_for_all = omega (arith, room, ap length made, length-map configs started);
}

-- the table of sessions and reflectors that make one has no fault
pub no_fault : (configs : List SessionConfig) (pool : List Reflector) → IsTable configs pool → build_fault (table_of configs pool) ≡ None
no_fault configs pool are = script.no_fault _ pool are.configs are.pool are.apart are.few

-- an event leaves the configurations and the room
pub stage_kept : (olds news : List Running) (table : Members) (before after : Outputs) (line : Line) (last now : ℕ) (answer : Answer)
    → IsStage olds table before
    → turned news table.pool now after.items answer ≡ happens line (world_of olds table.pool last) → after.room ≡ before.room
    → IsStage news table after
stage_kept olds news table before after line last now answer stage e room =
    let same : configs_of news ≡ configs_of olds = ap (λ t. configs_of t.world.sessions) e
    ∙ happens_keeps line (world_of olds table.pool last) in
    let few : length news ≡ length olds = cc (length-map news (λ s. s.config), length-map olds (λ s. s.config)) in
    record {
      configs = stage.configs ∙ sym same;
      ascends = stage.ascends;
      room_for_all = omega (arith, stage.room_for_all, few, room);
    }
