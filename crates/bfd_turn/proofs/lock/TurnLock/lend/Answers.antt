use Rattle.bfd_turn.proofs.Common.{rules, Some}
use Rattle.bfd_turn.proofs.lock.TurnLock.lend.Goals as goal

pub exchange-lent-requires : goal.exchange-lent-requires
exchange-lent-requires g c = (search rules, (Some c.requires.slot.0, cc))
