-- What C reads of a session at a look, field by field. What is absent is 0.
use Rattle.std.specs.Prelude.{ℕ, ◌==◌, Bool, true, false, Option, None, Some}
use Rattle.bfd_packet.specs.Layout.{state_number}
use Rattle.bfd_c.specs.declared.records.looking.Look.{Look}
use Rattle.bfd_c.specs.Looks.{look_of}
use Rattle.bfd_c.specs.declared.looking.SessionState.{SessionState}
use Rattle.bfd_c.specs.Engines.{Instance}
use Rattle.bfd_c.specs.Sizes.{session_state_size, sized}

abbrev pub moment_for_c : Option ℕ → ℕ
moment_for_c None = 0
moment_for_c (Some moment) = moment

abbrev pub flag_for_c : Bool → ℕ
flag_for_c false = 0
flag_for_c true = 1

-- what it shows; the peer's values, as they were received last; the moments; and the counts
abbrev pub state_for_c : Look → SessionState
state_for_c l = record {
  size = session_state_size;
  discr = l.shown.discr;
  state = state_number l.shown.state;
  diag = l.shown.diag;
  remote_state = state_number l.shown.remote_state;
  poll = l.shown.poll;
  remote_discr = l.shown.remote_discr;
  adv_tx = l.shown.adv_tx;
  used_tx = l.shown.used_tx;
  used_rx = l.shown.used_rx;
  peer_tx = l.vars.remote_tx;
  peer_rx = l.vars.remote_min_rx;
  peer_echo = l.vars.remote_min_echo;
  peer_mult = l.vars.remote_mult;
  peer_diag = l.kept.peer_diag;
  peer_demand = flag_for_c l.vars.remote_demand;
  detect = l.shown.detect;
  detect_end = moment_for_c l.ends;
  heard = moment_for_c l.kept.heard;
  changed = moment_for_c l.kept.changed;
  received = l.kept.received;
  sent = l.kept.sent;
  ups = l.kept.ups;
  downs = l.kept.downs;
  dropped = l.kept.dropped;
}

-- what the struct holds afterwards, and the code: 10 if no session has the discriminator
abbrev pub state_by : Option Look → SessionState → SessionState × ℕ
state_by None before = (before, 10)
state_by (Some l) before = (state_for_c l, 0)

abbrev pub state_in : ℕ → Instance → SessionState → SessionState × ℕ
state_in discr e before = sized (before.size == session_state_size) (λ code. (before, code))
    (state_by (look_of discr e.world e.records) before)

abbrev pub state_read : ℕ → Option Instance → SessionState → SessionState × ℕ
state_read discr None before = (before, 1)
state_read discr (Some e) before = state_in discr e before
