use Rattle.bfd_turn.proofs.Common.{rules, sym, ap, ◌∙◌}
use Rattle.bfd_turn.proofs.Kept.{sits, sits_known}
use Rattle.bfd_turn.proofs.Sharing.{splits_at}
use Rattle.bfd_turn.proofs.Loads.{checks}
use Rattle.bfd_turn.proofs.lock.TurnLock.split_as.Goals as goal

pub split_seat-other-requires : goal.split_seat-other-requires
split_seat-other-requires g c =
    let seat = c.into_seat-seat.result in let e = sym (ap (λ b. b.views) c.replace.ensures.value) ∙ c.into_seat-seat.ensures.2 in (
      search rules,
      search rules,
      splits_at g.V.Recorded.noted g.V.Recorded.caller g.V.Recorded.base seat.id seat.me.0 (sits c.first.invariant e)
          (sits_known e (ap (λ p. p.1) c.first.view_is)) c.requires.first.1 c.requires.picked c.requires.number.0 c.requires.number.1,
    )

pub load-requires : goal.load-requires
load-requires g c = let seat = c.split_seat-other.result in (
  search rules,
  search rules,
  checks g.V.Recorded.noted g.V.Recorded.caller g.V.Recorded.base c.self.inside.table.shared.table_id.slots
      seat.id seat.me.0 seat.me.1 (ap (λ m. m.0.role) c.split_seat-other.ensures.4),
)
