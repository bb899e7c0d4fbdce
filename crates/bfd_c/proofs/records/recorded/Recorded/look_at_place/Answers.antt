-- The session and the record at a place are present, and of one kind.
use Rattle.std.proofs.Common.{◌≡◌, ℕ, List, Some, refl}
use Rattle.std.specs.Prelude.{slice_get}
use Rattle.bfd_session.specs.Kinds.{Running}
use Rattle.bfd_instance.specs.World.{World}
use Rattle.bfd_c.specs.declared.records.looking.Look.{Look}
use Rattle.bfd_c.specs.declared.records.kept.Record.{Record}
use Rattle.bfd_c.specs.Looks.{look_at, look_in}
use Rattle.bfd_c.proofs.Finding.{there}
use Rattle.bfd_c.proofs.Keeping.{kind_there}
use Rattle.bfd_c.proofs.records.recorded.Recorded.look_at_place.Goals as goal

seen_there : (w : World) (rs : List Record) (place : ℕ) (s : Running) (r : Record) (l : Look) → slice_get w.sessions place ≡ Some s
    → slice_get rs place ≡ Some r
    → l ≡ look_at s r → Some l ≡ look_in (Some place) w rs
seen_there w rs place s r l at_s at_r is = rw (at_s, at_r, is) refl

pub seen-requires : goal.seen-requires
seen-requires g c =
    let s = c.in_ok-seat.ensures.lookup in let r = c.in_ok-kept.ensures.lookup in
    rw (c.session.ensures, c.record.ensures)
    (kind_there c.deref.result.now c.sessions.result.now c.args.place c.in_ok-kept.kept.now c.in_ok-seat.seat.now
    (rw (c.deref.ensures.value, c.sessions.ensures.value) c.self.invariant)
    (there c.deref.result.now c.args.place c.in_ok-kept.kept.now r.0 r.1)
    (there c.sessions.result.now c.args.place c.in_ok-seat.seat.now s.0 s.1))

pub returns : goal.returns
returns g c =
    let s = c.in_ok-seat.ensures.lookup in let r = c.in_ok-kept.ensures.lookup in
    rw (← c.self.view_is)
    (seen_there c.self.inside.instance.world c.self.inside.records.items c.args.place c.in_ok-seat.seat.now c.in_ok-kept.kept.now
    c.seen.result
    (rw (← c.sessions.ensures.value) (there c.sessions.result.now c.args.place c.in_ok-seat.seat.now s.0 s.1))
    (rw (← c.deref.ensures.value) (there c.deref.result.now c.args.place c.in_ok-kept.kept.now r.0 r.1))
    (rw (c.session.ensures, c.record.ensures) at c.seen.ensures))
