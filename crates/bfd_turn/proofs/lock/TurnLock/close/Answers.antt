use Rattle.bfd_turn.proofs.Common.{sym}
use Rattle.std.specs.Slots.{slots_items}
use Rattle.bfd_turn.proofs.Sharing.{finds, finds_at}
use Rattle.bfd_turn.proofs.lock.TurnLock.close.Goals as goal

pub unreachable-requires : goal.unreachable-requires
unreachable-requires g c =
    let seat = c.into_seat-seat.result.0 in let closed = c.close_with-closed.result in
    let f = finds g.V.Recorded.noted g.V.Recorded.caller g.V.Recorded.base seat.id seat.me.0 c.args.pass.1 (slots_items closed.words)
    (slots_items closed.slots) c.take-slot.result c.into_seat-seat.ensures.idle.0
    (sym (cc)) c.requires.pass.1 c.requires.joined c.close_with-closed.ensures.values.2 c.take-slot.ensures.value in
    c.in_default.not-Some f.0 f.1

pub returns : goal.returns
returns g c =
    let seat = c.into_seat-seat.result.0 in let closed = c.close_with-closed.result in
    let f = finds_at g.V.Recorded.noted g.V.Recorded.caller g.V.Recorded.base
    (finds g.V.Recorded.noted g.V.Recorded.caller g.V.Recorded.base seat.id seat.me.0 c.args.pass.1 (slots_items closed.words)
    (slots_items closed.slots) c.take-slot.result c.into_seat-seat.ensures.idle.0
    (sym (cc)) c.requires.pass.1 c.requires.joined c.close_with-closed.ensures.values.2 c.take-slot.ensures.value) c.in-Some.is in
    record { notes = f.notes_are; base = f.base_is; word = f.word; kept = f.kept; unmade = f.unmade }
