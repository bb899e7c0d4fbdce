use Rattle.bfd_turn.proofs.Common.{rules, sym, ap, ◌∙◌}
use Rattle.bfd_turn.proofs.Kept.{sits, sits_known}
use Rattle.bfd_turn.proofs.Sharing.{joins_at}
use Rattle.bfd_turn.proofs.Loads.{looks}
use Rattle.bfd_turn.proofs.lock.TurnLock.join.Goals as goal

pub join_seat-requires : goal.join_seat-requires
join_seat-requires g c =
    let seat = c.into_seat-seat.result in let other = c.into_seat-other.result.0 in let e =
    sym (ap (λ b. b.views) c.replace.ensures.value) ∙ c.into_seat-seat.ensures.2 in (
      search rules,
      search rules,
      search rules,
      search rules,
      joins_at g.V.Recorded.noted g.V.Recorded.caller g.V.Recorded.base seat.id seat.me.0 other.id other.me.0 (sits c.first.invariant e)
          (sits_known e (ap (λ p. p.1) c.first.view_is)) c.requires.first.1 c.into_seat-other.ensures.idle.0
          (sym (ap (λ p. p.1) c.into_seat-other.ensures.seat.0)) c.requires.other.1,
    )

pub load-requires : goal.load-requires
load-requires g c =
    let seat = c.join_seat.new.seat in let e = sym (ap (λ b. b.views) c.replace.ensures.value) ∙ c.into_seat-seat.ensures.2 in (
      search rules,
      search rules,
      looks g.V.Recorded.noted g.V.Recorded.caller g.V.Recorded.base c.self.inside.table.shared.table_id.slots seat.id seat.me.0 seat.me.1
          (ap (λ m. m.0.role) c.join_seat.ensures.2 ∙ sits c.first.invariant e),
    )
