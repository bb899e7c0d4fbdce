-- An engine behind a handle, and how a call changes it. A call's code is 0 if it did its work, 1 if the handle is closed, and 2 when
-- out of memory. It is 3 if a value is outside its range, 4 if nothing is left, 5 if a text is no table, and 6 if it has event lines.
use Rattle.std.specs.Prelude.{ℕ, List, [], ◌∷◌, Option, None, Some, Result, Ok, Err, map}
use Rattle.bfd_lanes.specs.Places.{least}
use Rattle.bfd_rules.specs.declared.outputs.Out.{Out}
use Rattle.bfd_sbfd.specs.declared.reflecting.Reflector.{Reflector}
use Rattle.bfd_session.specs.declared.event.SessionConfig.{SessionConfig}
use Rattle.bfd_session.specs.declared.event.Answer.{Answer}
use Rattle.bfd_session.specs.declared.event.Answer.TheVariants.{Handled}
use Rattle.bfd_session.specs.Due.{due}
use Rattle.bfd_session.specs.Kinds.{Running}
use Rattle.bfd_script.specs.declared.line.entries.Line.{Line}
use Rattle.bfd_script.specs.declared.fields.fault.BadLine.{BadLine}
use Rattle.bfd_script.specs.Reading.{Lists}
use Rattle.bfd_instance.specs.World.{World, discr_reached, happens, opened}
use Rattle.bfd_c.specs.declared.records.kept.Record.{Record}
use Rattle.bfd_c.specs.Records.{fresh, recorded}

-- an engine: its sessions and reflectors with the greatest tick so far, and the record of each session. Of the last event: the
-- outputs that are left to be read, its answer, and the discriminator of the session to which it came, or 0
pub record Instance : Type 0 where
  pub world : World
  pub left : List Out
  pub answer : Answer
  pub discr : ℕ
  pub records : List Record

-- the engine of a table, before the first event
abbrev pub new_instance : List SessionConfig → List Reflector → Instance
new_instance configs pool = record { world = opened configs pool; left = []; answer = Handled; discr = 0; records = map fresh configs }

-- the engine after an event
abbrev pub instance_after : Line → Instance → Instance
instance_after line e = record {
  world = (happens line e.world).world;
  left = (happens line e.world).outcome.items;
  answer = (happens line e.world).outcome.answer;
  discr = discr_reached line e.world;
  records = recorded line e.world e.records;
}

-- the engine after an event that was asked for, or unchanged if one of the values is outside its range; and the code
abbrev pub asked : Option Line → Instance → Instance × ℕ
asked None e = (e, 3)
asked (Some line) e = (instance_after line e, 0)

-- what a handle holds after a call of the engine behind it, and the code
abbrev pub held_by : (Instance → Instance × ℕ) → Option Instance → Option Instance × ℕ
held_by call None = (None, 1)
held_by call (Some e) = (Some (call e).0, (call e).1)

-- the same of an event that was asked for
abbrev pub called : Option Line → Option Instance → Option Instance × ℕ
called line held = held_by (asked line) held

-- what a handle that held this holds after it was opened with a script, which must be a table alone; and the code
abbrev pub opened_with : Lists → List Line → Option Instance → Option Instance × ℕ
opened_with s [] held = (Some (new_instance s.configs s.pool), 0)
opened_with s (event ∷ events) held = (held, 6)

-- after it was opened with a text
abbrev pub opened_by : Result Lists BadLine → Option Instance → Option Instance × ℕ
opened_by (Err bad) held = (held, 5)
opened_by (Ok s) held = opened_with s s.events held

-- after it was opened with one session; without one, a value is outside its range
abbrev pub opened_for : Option SessionConfig → Option Instance → Option Instance × ℕ
opened_for None held = (held, 3)
opened_for (Some config) held = (Some (new_instance (config ∷ []) []), 0)

-- the least tick that a session needs next
abbrev pub soonest : List Running → Option ℕ
soonest sessions = least (map due sessions)

-- the first of the outputs that are left
abbrev pub first_of : List Out → Option Out
first_of [] = None
first_of (out ∷ outs) = Some out
