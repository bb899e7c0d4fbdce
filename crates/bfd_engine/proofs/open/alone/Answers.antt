-- The shards are new ones of the sessions, and so may be put behind locks.
use Rattle.bfd_engine.proofs.Common.{◌∙◌, length-map, AreNewStates}
use Rattle.bfd_engine.proofs.States.{of, may_lock, shares_of_new}
use Rattle.bfd_engine.proofs.open.alone.Goals as goal

pub make_in_turn-requires-clause-sessions : goal.make_in_turn-requires-clause-sessions
make_in_turn-requires-clause-sessions g c = rw c.as_slice.ensures.value
    (record { few = rw (← c.requires.its) c.pool.ensures.few; fit = c.requires.fit })

pub lock_in_turn-requires : goal.lock_in_turn-requires
lock_in_turn-requires g c = may_lock c.args.limit c.in_ok-states.states.items c.in_ok-states.ensures

pub engine_of-requires-clause-opened : goal.engine_of-requires-clause-opened
engine_of-requires-clause-opened g c =
    let states = c.in_ok-states.states.items in
    let new : AreNewStates c.args.shards c.args.configs.items states = rw (← c.as_slice.ensures.value) c.in_ok-states.ensures in
    let o = c.in_ok-opened.ensures in
    record {
      parts = _;
      shares = rw (o.locks_long ∙ length-map states of ∙ new.long, c.requires.its) (shares_of_new states new);
      opened = o;
    }
