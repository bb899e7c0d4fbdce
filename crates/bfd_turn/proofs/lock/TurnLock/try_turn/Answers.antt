use Rattle.bfd_turn.proofs.Common.{rules, ap, ◌∙◌, arith}
use Rattle.bfd_turn.proofs.Loads.{looks}
use Rattle.bfd_turn.proofs.TakeAndRelease.{takes_turn}
use Rattle.bfd_turn.proofs.lock.TurnLock.try_turn.Goals as goal

pub load-read-requires : goal.load-read-requires
load-read-requires g c = let seat = c.into_seat-seat.result.0 in (
  search rules,
  search rules,
  looks g.V.Recorded.noted g.V.Recorded.caller g.V.Recorded.base c.self.inside.table.shared.table_id.slots
      seat.id seat.me.0 seat.me.1 c.into_seat-seat.ensures.idle.0,
)

pub compare_exchange-found-requires : goal.compare_exchange-found-requires
compare_exchange-found-requires g c = let seat = c.load-read.new.seat in (
  search rules,
  search rules,
  takes_turn g.V.Recorded.noted g.V.Recorded.caller g.V.Recorded.base c.self.inside.table.shared.table_id.slots seat.id seat.me.0 seat.me.1
      c.load-read.result
      (ap (λ m. m.0.role) c.load-read.ensures.2.0 ∙ c.into_seat-seat.ensures.idle.0) (omega arith) (omega arith),
)
