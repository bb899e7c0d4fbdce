-- What was read is what the payload holds, so M is set in both or in neither.
use Rattle.bfd_session.proofs.Common.{rules, ◌≡◌, Bool, true, false, refl, subst, Option, None, Some, IsTrue, ◌↔◌, Ok, Arrival, Port}
use Rattle.bfd_session.proofs.Common.{Control, Test, fields_of, first_failing, read_of, unless, IsFor}
use mathlib.Core.Bool.{beq}
use Rattle.bfd_session.proofs.answering.is_for.Goals as goal

-- what was read failed no test, and has these fields
record IsRead (failing : Option Test) (fields packet : Control) : Type 0 where
  passes : failing ≡ None
  multi : packet.multi ≡ fields.multi

is_read : (failing : Option Test) (fields : Control) {packet : Control} → Ok packet ≡ unless failing fields → IsRead failing fields packet
is_read None fields e = record { passes = refl; multi = cc }
is_read (Some test) fields e = cc

same : (a b : Bool) → IsTrue (beq a b) → a ≡ b
same true false h = cc
same false true h = cc
same a b h = refl

alike : (a b : Bool) → a ≡ b → IsTrue (beq a b)
alike true false h = cc
alike false true h = cc
alike a b h = refl

decides : (port : Port) (multi : Bool) (arrival : Arrival) {packet : Control} → arrival.port ≡ port
    → Ok packet ≡ read_of arrival.port arrival.payload → IsTrue (beq packet.multi multi) ↔ IsFor port multi arrival
decides port multi arrival {packet} on e =
    let read = is_read (first_failing arrival.port arrival.payload) (fields_of arrival.payload) e in (
      λ h. record { port = on; header = read.passes; multi = cc (same packet.multi multi h) },
      λ h. alike packet.multi multi (cc),
    )

pub returns-in-Ok : goal.returns-in-Ok
returns-in-Ok c = decides c.args.port c.args.multi c.args.arrival.now (search rules)
    (subst (λ bytes. Ok c.in-Ok.packet ≡ read_of c.args.arrival.now.port bytes) c.as_slice.ensures.value c.in-Ok.ensures)
