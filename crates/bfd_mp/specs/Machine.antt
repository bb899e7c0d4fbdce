-- Heads and tails as their calls see them (RFC 8562 section 5.4, RFC 5880 section 6.8.1).
use Rattle.std.specs.Prelude.{true, false, None}
use Rattle.bfd_packet.specs.declared.control.State.TheVariants.{Down, Up}
use Rattle.bfd_rules.specs.declared.variables.Poll.TheVariants.{Idle}
use Rattle.bfd_rules.specs.declared.variables.Vars.{Vars}
use Rattle.bfd_rules.specs.EventFrame.{begins, drawn}
use Rattle.bfd_mp.specs.declared.config.HeadConfig.{HeadConfig}
use Rattle.bfd_mp.specs.declared.config.TailConfig.{TailConfig}
use Rattle.bfd_mp.specs.Sound.{IsHeadConfig, IsHeadSteady, IsTailConfig, IsTailSound}

-- the configuration and the variables of a head
pub record HeadMachine : Type 0 where
  pub config : HeadConfig
  pub vars : Vars

-- and of a tail
pub record TailMachine : Type 0 where
  pub config : TailConfig
  pub vars : Vars

-- what every head keeps, also between the parts of an event
pub record IsHead (m : HeadMachine) : Type 0 where
  pub config : IsHeadConfig m.config
  pub steady : IsHeadSteady m.vars

-- what every tail keeps, also between the parts of an event
pub record IsTail (m : TailMachine) : Type 0 where
  pub config : IsTailConfig m.config
  pub sound : IsTailSound m.config m.vars

-- the variables of a head at the start, before the first due tick is drawn: it starts Up
abbrev pub head_initial : HeadConfig → Vars
head_initial c = record {
  state = Up;
  remote_state = Down;
  diag = 0;
  remote_discr = 0;
  remote_min_rx = 1;
  remote_demand = false;
  remote_min_echo = 0;
  remote_tx = 0;
  remote_mult = 0;
  tx = c.tx;
  rx = 0;
  echo_every = 0;
  mult = c.mult;
  demand = false;
  poll = Idle;
  used_tx = c.tx;
  used_rx = 0;
  heard = None;
  seq_heard = None;
  seq = record { xmit = c.seed; rcv = 0; known = false };
  sending = 0;
  left = 0;
  base = 0;
  tx_due = None;
  j = c.seed;
  at = 0;
}

-- the variables of a head at the start
unfoldable pub head_made : HeadConfig → Vars
head_made c = drawn true (begins (head_initial c)) (head_initial c)

-- the variables of a tail at the start
abbrev pub tail_made : TailConfig → Vars
tail_made c = record {
  state = Down;
  remote_state = Down;
  diag = 0;
  remote_discr = c.head;
  remote_min_rx = 0;
  remote_demand = false;
  remote_min_echo = 0;
  remote_tx = 0;
  remote_mult = 0;
  tx = 0;
  rx = 0;
  echo_every = 0;
  mult = 1;
  demand = false;
  poll = Idle;
  used_tx = 0;
  used_rx = 0;
  heard = None;
  seq_heard = None;
  seq = record { xmit = 0; rcv = 0; known = false };
  sending = 0;
  left = 0;
  base = 0;
  tx_due = None;
  j = 0;
  at = 0;
}
