-- The frame of an event: what a rule does to variables, mark and outputs.
use Rattle.std.specs.Prelude.{ℕ, ◌==◌, Bool, true, false, not, ◌&&◌, ◌||◌, if◌then◌else◌, Option, None, Some, is_none, List, [], ◌∷◌, ◌++◌}
use Rattle.bfd_packet.specs.declared.arrival.Datagram.{Datagram}
use Rattle.bfd_packet.specs.declared.control.State.{State}
use Rattle.bfd_num.specs.Numbers.{next_j}
use Rattle.bfd_rules.specs.declared.variables.Vars.{Vars}
use Rattle.bfd_rules.specs.declared.variables.Mark.{Mark}
use Rattle.bfd_rules.specs.declared.outputs.Out.{Out}
use Rattle.bfd_rules.specs.declared.outputs.Out.TheVariants.{Changed, Sent}
use Rattle.bfd_rules.specs.Quantities.{tx_interval, may_send, same_state}
use Rattle.bfd_rules.specs.Jitter.{pick}

-- outputs in order, the room that is left for more, and the room at first
pub record Outputs : Type 0 where
  pub items : List Out
  pub spare : ℕ
  pub room : ℕ

-- an event on its way: the variables, what is kept from its start, and the outputs so far
pub record Course : Type 0 where
  pub vars : Vars
  pub mark : Mark
  pub outs : List Out

abbrev pub course : Vars → Mark → List Out → Course
course v m os = record { vars = v; mark = m; outs = os }

-- an own event keeps its effective moment; a tick keeps none
abbrev pub stamped : Option ℕ → Vars → Vars
stamped None v = v
stamped (Some eff) v = record v { at = eff }

-- what an event keeps from its start
abbrev pub begins : Vars → Mark
begins v =
    record { state = v.state; diag = v.diag; interval = tx_interval v; one = v.mult == 1; moved = false; answered = false }

-- a change of the session's state is reported
abbrev pub changed_between : ℕ → Vars → Vars → List Out
changed_between discr before after =
    if same_state before.state after.state then [] else Changed discr before.state after.state after.diag ∷ []

-- the session enters a state with this diagnostic
abbrev pub enters : State → ℕ → Vars → Vars
enters state diag v = record v { state = state; diag = diag }

-- the variables become v, and a change of the state is reported
unfoldable pub changes : ℕ → Vars → Course → Course
changes discr v s = record s { vars = v; outs = s.outs ++ changed_between discr s.vars v }

-- a datagram is sent
unfoldable pub sends : ℕ → Datagram → Course → Course
sends discr datagram s = record s { outs = s.outs ++ Sent discr datagram ∷ [] }

-- the state or diagnostic isn't the one that the event began with, or that its periodic packet carried
abbrev pub is_news : Mark → Vars → Bool
is_news m v = not (same_state v.state m.state && (v.diag == m.diag))

-- a periodic packet carries the present state and diagnostic to the peer, and moves the base
abbrev pub announces : Vars → Mark → Mark
announces v m = record m { moved = true; state = v.state; diag = v.diag }

-- news that is still to be sent: no packet with F has carried it, and a packet may be sent (section 6.8.7)
abbrev pub is_unannounced : Bool → Mark → Vars → Bool
is_unannounced active m v = is_news m v && not m.answered && may_send active v

-- one packet outside the period was sent: it moves the base
abbrev pub based : ℕ → Course → Course
based eff s = record s { vars = record s.vars { base = eff }; mark = record s.mark { moved = true } }

-- Detect Mult became 1 in this event, or stopped being 1
abbrev pub one_changed : Mark → Vars → Bool
one_changed m v = if m.one then not (v.mult == 1) else v.mult == 1

-- the due tick is drawn again: a packet moved the base, there is no due tick, or an input of the draw has changed
abbrev pub draws : Mark → Vars → Bool
draws m v = m.moved || is_none v.tx_due || not (tx_interval v == m.interval) || one_changed m v

-- at an event's end a due tick is present if and only if periodic packets may be sent (section 6.8.7)
unfoldable pub drawn : Bool → Mark → Vars → Vars
drawn active m v =
    if may_send active v
    then (if draws m v then record v { tx_due = Some (pick v.base (tx_interval v) v.mult v.j); j = next_j v.j } else v)
    else record v { tx_due = None }

-- the same at the end of an event
unfoldable pub redrawn : Bool → Course → Course
redrawn active s = record s { vars = drawn active s.mark s.vars }
