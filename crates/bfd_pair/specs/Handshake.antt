-- How a side enters Up: only by the other side's answer to a packet of its own (RFC 5880 sections 6.2 and 6.8.6).
use Rattle.std.specs.Prelude.{◌≡◌, ℕ, Bool, true, false, ◌||◌, Some, List, [], ◌∷◌, ◌++◌, ◌<◌, length}
use Rattle.bfd_packet.specs.Layout.{fields_of}
use Rattle.bfd_packet.specs.States.{is_init_or_up}
use Rattle.bfd_rules.specs.declared.outputs.Out.{Out}
use Rattle.bfd_rules.specs.declared.outputs.Out.TheVariants.{Changed, Sent}
use Rattle.bfd_rules.specs.Quantities.{is_up}
use Rattle.bfd_session.specs.declared.event.SessionConfig.{SessionConfig}
use Rattle.bfd_session.specs.declared.event.Answer.TheVariants.{Handled}
use Rattle.bfd_session.specs.Kinds.{discr_of}
use Rattle.bfd_pair.specs.declared.event.Side.{Side}
use Rattle.bfd_pair.specs.declared.event.PairEvent.{PairEvent}
use Rattle.bfd_pair.specs.declared.event.PairEvent.TheVariants.{Give}
use Rattle.bfd_pair.specs.declared.event.PairAnswer.TheVariants.{Did}
use Rattle.bfd_pair.specs.Run.{other, side_of, packet_at, pair_run, turn}

-- one of these outputs reports a change to Up
abbrev pub reports_up : List Out → Bool
reports_up [] = false
reports_up (Changed discr old new diag ∷ items) = is_up new || reports_up items
reports_up (Sent discr datagram ∷ items) = reports_up items

-- the side's state is Up after these events
abbrev pub is_up_after : SessionConfig → SessionConfig → Side → List PairEvent → Bool
is_up_after left right side events = is_up (side_of side (pair_run left right events)).session.vars.state

-- somewhere in the past the side was given a packet that the other side had sent, and handled it
pub record Heard (left right : SessionConfig) (side : Side) (past : List PairEvent) : Type 0 where
  pub before : List PairEvent
  pub later : List PairEvent
  pub moment : ℕ
  pub number : ℕ
  pub split : past ≡ before ++ Give side moment number ∷ later
  pub bytes : List ℕ
  pub sent : packet_at number (side_of (other side) (pair_run left right before)).sent ≡ Some bytes
  pub handled : (turn (Give side moment number) (pair_run left right before)).answer ≡ Did Handled

-- how many packets the side had sent when it was given that packet
abbrev pub sent_by_then : (left right : SessionConfig) (side : Side) (past : List PairEvent) → Heard left right side past → ℕ
sent_by_then left right side past h = length (side_of side (pair_run left right h.before)).sent

-- this event after this past gives the side a packet of the other side. The packet's state is Init or Up, and its Your Discriminator
-- is the side's discriminator. In the past the other side handled a packet of this side, and it hadn't sent the given packet before that
pub record IsHandshake (left right : SessionConfig) (side : Side) (event : PairEvent) (past : List PairEvent) : Type 0 where
  pub moment : ℕ
  pub number : ℕ
  pub gives : event ≡ Give side moment number
  pub bytes : List ℕ
  pub sent : packet_at number (side_of (other side) (pair_run left right past)).sent ≡ Some bytes
  pub state : is_init_or_up (fields_of bytes).state ≡ true
  pub your : (fields_of bytes).your ≡ discr_of (side_of side (pair_run left right past)).session.config
  pub heard : Heard left right (other side) past
  pub answers : sent_by_then left right (other side) past heard < number
