-- The parts and the states of the whole script.
use Rattle.bfd_replay.proofs.WorkerCommon.{◌≡◌, List, SessionConfig, Reflector, rules, ◌∙◌, arith, length-map, script_with}
use Rattle.bfd_replay.proofs.Gathered.{room_enough, met_queues, short_queues, happenings_long, are_parts, have_replayed}
use Rattle.bfd_session.specs.Tables.{Members, members}
use Rattle.bfd_replay.proofs.worker.replaying.worked.Goals as goal

-- the engine's sessions are those of the script
configs_are : {cs known : List SessionConfig} {pool : List Reflector} {table : Members} → known ≡ table.configs → table ≡ members cs pool
    → known ≡ cs
configs_are its is = cc

pub run_all-requires-clause-long : goal.run_all-requires-clause-long
run_all-requires-clause-long g c = λ κs within. cc (
  c.in_ok-made.ensures.planned.queues.long,
  c.in_ok-engine.ensures.shards,
  c.in_ok-made.ensures.new.long,
)

pub run_all-requires-clause-met : goal.run_all-requires-clause-met
run_all-requires-clause-met g c = λ κs within. met_queues c.in_ok-engine.engine
    (cc (c.in_ok-engine.ensures.shards, c.in_ok-made.ensures.new.long)) c.requires.shards.0 c.in_ok-made.ensures.planned.queues
    (rw (configs_are c.in_ok-engine.ensures.configs c.in_ok-made.ensures.planned.table) c.in_ok-made.ensures.planned.met)

pub run_all-requires-clause-room : goal.run_all-requires-clause-room
run_all-requires-clause-room g c = λ κs within s. room_enough c.in_ok-engine.engine s
    (configs_are c.in_ok-engine.ensures.configs c.in_ok-made.ensures.planned.table) (search rules)

pub run_all-requires-clause-short : goal.run_all-requires-clause-short
run_all-requires-clause-short g c = λ κs within s. omega (arith, c.longest-most.ensures.all s, c.in_ok-engine.ensures.limit)

pub run_all-requires-clause-small : goal.run_all-requires-clause-small
run_all-requires-clause-small g c =
    let a = c.longest-most.ensures.least 200000 (λ s.
    omega (
      arith,
      short_queues s c.in_ok-made.ensures.planned.queues,
      c.requires.few,
      happenings_long c.args.configs.items c.args.pool.items c.args.events.items,
    )) in λ κs within. omega (arith, a, c.in_ok-engine.ensures.limit)

pub in_order-requires-clause-some : goal.in_order-requires-clause-some
in_order-requires-clause-some g c =
    omega (arith, c.in_ok-states.ensures.reported.long, length-map c.in_ok-states.all.items (λ parts. parts.items), c.requires.workers.0)

pub in_order-requires-clause-wide : goal.in_order-requires-clause-wide
in_order-requires-clause-wide g c = λ i h. c.in_ok-states.ensures.reported.wide i
    (omega (arith, c.in_ok-states.ensures.reported.long, length-map c.in_ok-states.all.items (λ parts. parts.items), h))
    ∙ c.in_ok-engine.ensures.shards ∙ c.in_ok-made.ensures.new.long

pub returns-clause-parts : goal.returns-clause-parts
returns-clause-parts g c = are_parts c.in_ok-parts.parts.items c.requires.shards.0
    (cc (c.in_ok-engine.ensures.shards, c.in_ok-made.ensures.new.long))
    (configs_are c.in_ok-engine.ensures.configs c.in_ok-made.ensures.planned.table)
    c.requires.table.configs.ascends c.in_ok-made.ensures.planned.queues c.in_ok-states.ensures.reported c.in_ok-parts.ensures.long
    (λ s h. cc (c.in_ok-parts.ensures.each s h, length-map c.in_ok-states.all.items (λ parts. parts.items)))
    c.in_ok-parts.ensures.last c.in_ok-made.ensures.planned.apart

pub returns-clause-states : goal.returns-clause-states
returns-clause-states g c =
    have_replayed (script_with c.args.configs.items c.args.pool.items c.args.events.items)
    (cc (c.in_ok-engine.ensures.shards, c.in_ok-made.ensures.new.long)) (configs_are c.in_ok-engine.ensures.configs
    c.in_ok-made.ensures.planned.table) c.in_ok-made.ensures.planned.queues c.in_ok-states.ensures.states
