-- New shards are of the shares.
use Rattle.bfd_engine.proofs.Common.{◌∙◌, rules, arith, map, length-map, IsMade, Ok}
use Rattle.bfd_engine.proofs.Opening.{made_each, opened}
use Rattle.bfd_engine.proofs.States.{of, all_long, made_at, shares_of_new}
use Rattle.bfd_engine.proofs.engine.Engine.of_shards.Goals as goal

pub each-requires-after_bounds : goal.each-requires-after_bounds
each-requires-after_bounds g c κs within i x h is =
    let n = c.requires.new.each i x h in
    rw is (n.journal, omega (arith, n.limit))

pub engine_of-requires-clause-opened : goal.engine_of-requires-clause-opened
engine_of-requires-clause-opened g c =
    let states = c.args.states.items in
    let shards = c.in_ok-shards.shards.items in
    let all = c.in_ok-shards.ensures in
    let o = opened c.args.limit (map of states) shards
    (made_each c.args.limit of states shards (all_long shards all (search rules)) (λ k v d h e.
    let j = (c.in_ok-made.ensures.each k (Ok d) h).1 in
    made_at (IsMade c.args.limit (of v)) shards k d all (rw (← e, j.job_is v) j.call.met))) c.in_ok-opened.ensures in
    record {
      parts = _;
      shares = rw (o.locks_long ∙ length-map states of) (shares_of_new states c.requires.new);
      opened = o;
    }
