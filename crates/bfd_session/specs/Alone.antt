-- A session by itself after an event at a moment, and after a tick. `last` is the greatest tick before them.
use Rattle.std.specs.Prelude.{ℕ, ◌*◌, max, List}
use Rattle.bfd_rules.specs.declared.outputs.Out.{Out}
use Rattle.bfd_session.specs.declared.event.Event.{Event}
use Rattle.bfd_session.specs.declared.event.Answer.{Answer}
use Rattle.bfd_session.specs.Kinds.{Running}
use Rattle.bfd_session.specs.Step.{next, emits, reply, tick_next, tick_emits}

-- what one event gave: its outputs, in the order in which they were emitted, and its answer
pub record Outcome : Type 0 where
  pub items : List Out
  pub answer : Answer

-- the effective moment of a session's own event: no earlier than the last tick and its last own event
abbrev pub effective : ℕ → ℕ → Running → ℕ
effective moment last s = max moment (max (1000 * last) s.vars.at)

-- the session after an own event
abbrev pub stepped : ℕ → ℕ → Event → Running → Running
stepped moment last event s = next (effective moment last s) event s

-- the outcome of the session's own event
abbrev pub step_outcome : ℕ → ℕ → Event → Running → Outcome
step_outcome moment last event s = record {
  items = emits (effective moment last s) event s;
  answer = reply (effective moment last s) event s;
}

-- a session after the tick `last`: the limit is the tick's moment, and the effective moment no earlier than its last own event
abbrev pub ticked : ℕ → Running → Running
ticked last s = tick_next (1000 * last) (max (1000 * last) s.vars.at) s

abbrev pub tick_items : ℕ → Running → List Out
tick_items last s = tick_emits (1000 * last) (max (1000 * last) s.vars.at) s
