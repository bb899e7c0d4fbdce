-- Several workers take their shards each.
use Rattle.bfd_replay.proofs.WorkerCommon.{rules, ◌≡◌, ◌==◌, false, subst, sym, ne_eqb}
use Rattle.std.specs.Prelude.{IfOk}
use Rattle.bfd_replay.specs.Replayed.{HaveReplayed, taker}
use Rattle.bfd_replay.proofs.front.replay_to.Goals as goal

pub returns-else-workers-eq1-clause-states : goal.returns-else-workers-eq1-clause-states
returns-else-workers-eq1-clause-states g c =
    let several : (c.args.workers == 1) ≡ false = ne_eqb c.args.workers 1 (search rules) in
    subst (λ b. IfOk c.replay_by_workers.result (λ r. HaveReplayed c.args.script c.args.shards (taker b c.args.workers)
    r.closed.value.items))
    (sym several) c.replay_by_workers.ensures.states
