-- A point-to-point session as its calls see it.
use Rattle.std.specs.Prelude.{ℕ, max, false, None}
use Rattle.bfd_packet.specs.declared.control.State.TheVariants.{Down}
use Rattle.bfd_rules.specs.declared.config.Config.{Config}
use Rattle.bfd_rules.specs.declared.variables.Poll.TheVariants.{Idle}
use Rattle.bfd_rules.specs.declared.variables.Vars.{Vars}
use Rattle.bfd_rules.specs.EventFrame.{begins, drawn, enters}
use Rattle.bfd_rules.specs.Sound.{IsConfig, IsSteady}

-- the configuration and the variables of a session
pub record Machine : Type 0 where
  pub config : Config
  pub vars : Vars

-- what every such session keeps, also between the parts of an event
pub record IsMachine (m : Machine) : Type 0 where
  pub config : IsConfig m.config
  pub steady : IsSteady m.config m.vars

-- the variables at the start, before the first due tick is drawn (section 6.8.1)
abbrev pub initial : Config → Vars
initial c = record {
  state = Down;
  remote_state = Down;
  diag = 0;
  remote_discr = 0;
  remote_min_rx = 1;
  remote_demand = false;
  remote_min_echo = 0;
  remote_tx = 0;
  remote_mult = 0;
  tx = c.tx;
  rx = c.rx;
  echo_every = c.echo;
  mult = c.mult;
  demand = false;
  poll = Idle;
  used_tx = max c.tx 1000000;
  used_rx = c.rx;
  heard = None;
  seq_heard = None;
  seq = record { xmit = c.seed; rcv = 0; known = false };
  sending = 0;
  left = 0;
  base = 0;
  tx_due = None;
  j = c.seed;
  at = 0;
}

-- the variables at the start
unfoldable pub made : Config → Vars
made c = drawn c.active (begins (initial c)) (initial c)

-- the session fails for another reason than silence, as when the Echo function has failed (section 6.8.5)
abbrev pub failed : ℕ → Vars → Vars
failed diag v = enters Down diag v
