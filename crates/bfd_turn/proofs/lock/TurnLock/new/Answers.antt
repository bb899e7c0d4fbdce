use Rattle.bfd_turn.proofs.Loads.{opens}
use Rattle.bfd_turn.proofs.lock.TurnLock.new.Goals as goal

pub new-requires : goal.new-requires
new-requires g c = rw (c.in_ok-push.ensures.items, c.of.ensures, c.new-slots.ensures.items)
    (opens g.V.Recorded.noted g.V.Recorded.caller g.V.Recorded.base c.requires.fresh c.requires.turns)
