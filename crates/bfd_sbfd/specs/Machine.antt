-- An initiator as its calls see it.
use Rattle.std.specs.Prelude.{max, true, false, None}
use Rattle.bfd_packet.specs.declared.control.State.TheVariants.{Down}
use Rattle.bfd_rules.specs.declared.variables.Poll.TheVariants.{Idle}
use Rattle.bfd_rules.specs.declared.variables.Vars.{Vars}
use Rattle.bfd_rules.specs.EventFrame.{begins, drawn}
use Rattle.bfd_sbfd.specs.declared.config.InitiatorConfig.{InitiatorConfig}
use Rattle.bfd_sbfd.specs.Sound.{IsInitiatorConfig, IsInitiatorSteady}

-- the configuration and the variables of an initiator
pub record Machine : Type 0 where
  pub config : InitiatorConfig
  pub vars : Vars

-- what every initiator keeps, also between the parts of an event
pub record IsMachine (m : Machine) : Type 0 where
  pub config : IsInitiatorConfig m.config
  pub steady : IsInitiatorSteady m.config m.vars

-- the variables at the start, before the first due tick is drawn (RFC 7880 section 6.2, RFC 5880 section 6.8.1)
abbrev pub initial : InitiatorConfig → Vars
initial c = record {
  state = Down;
  remote_state = Down;
  diag = 0;
  remote_discr = c.target;
  remote_min_rx = 1;
  remote_demand = false;
  remote_min_echo = 0;
  remote_tx = 0;
  remote_mult = 0;
  tx = c.tx;
  rx = 0;
  echo_every = 0;
  mult = c.mult;
  demand = false;
  poll = Idle;
  used_tx = max c.tx 1000000;
  used_rx = 0;
  heard = None;
  seq_heard = None;
  seq = record { xmit = c.seed; rcv = 0; known = false };
  sending = 0;
  left = 0;
  base = 0;
  tx_due = None;
  j = c.seed;
  at = 0;
}

-- the variables at the start
unfoldable pub made : InitiatorConfig → Vars
made c = drawn true (begins (initial c)) (initial c)
