-- What a session shows of itself.
use Rattle.std.specs.Prelude.{ℕ}
use Rattle.bfd_rules.specs.declared.variables.Poll.{Poll}
use Rattle.bfd_rules.specs.declared.variables.Poll.TheVariants.{Idle, Wanted, Running as UnderWay}
use Rattle.bfd_rules.specs.declared.variables.Vars.{Vars}
use Rattle.bfd_rules.specs.Quantities as quantities
use Rattle.bfd_sbfd.specs.Waiting as initiator
use Rattle.bfd_mp.specs.Waiting as tail
use Rattle.bfd_session.specs.declared.event.SessionConfig.{SessionConfig}
use Rattle.bfd_session.specs.declared.event.SessionConfig.TheVariants.{PointToPoint, Initiator, Head, Tail}
use Rattle.bfd_session.specs.declared.event.Shown.{Shown}
use Rattle.bfd_session.specs.Kinds.{discr_of}

-- the number that shows a Poll Sequence
abbrev pub poll_number : Poll → ℕ
poll_number Idle = 0
poll_number Wanted = 1
poll_number (UnderWay first) = 2

-- the Desired Min TX Interval that the session advertises: a head's is the same in every state, and a tail, which sends nothing, has 0
abbrev pub advertised : SessionConfig → Vars → ℕ
advertised (PointToPoint c) v = quantities.adv_tx v
advertised (Initiator c) v = quantities.adv_tx v
advertised (Head c) v = v.tx
advertised (Tail c) v = 0

-- its Detection Time; a head, which hears nothing, has 0
abbrev pub waits : SessionConfig → Vars → ℕ
waits (PointToPoint c) v = quantities.detection_time v
waits (Initiator c) v = initiator.wait v
waits (Head c) v = 0
waits (Tail c) v = tail.wait v

-- a session with this discriminator shows these two and its variables
abbrev pub shows : ℕ → ℕ → ℕ → Vars → Shown
shows discr adv_tx detect v = record {
  discr = discr;
  state = v.state;
  diag = v.diag;
  remote_state = v.remote_state;
  remote_discr = v.remote_discr;
  adv_tx = adv_tx;
  used_tx = v.used_tx;
  used_rx = v.used_rx;
  detect = detect;
  poll = poll_number v.poll;
}

-- what a session shows
abbrev pub shown : SessionConfig → Vars → Shown
shown c v = shows (discr_of c) (advertised c v) (waits c v) v
