-- The configurations of an initiator, and the variables that it can have (RFC 7880 section 6.2, RFC 5880 section
-- 6.8.1): what holds after each rule, and what holds between events.
use Rattle.std.specs.Prelude.{◌≡◌, ◌≤◌, ◌<◌, ◌↔◌, ◌^◌, Bool, true, false, None, IsTrue, IsSome, IfSome}
use Rattle.bfd_packet.specs.declared.control.State.{State}
use Rattle.bfd_packet.specs.declared.control.State.TheVariants.{AdminDown, Down, Init, Up}
use Rattle.bfd_num.specs.Numbers.{moment_bound}
use Rattle.bfd_rules.specs.declared.variables.Poll.TheVariants.{Idle}
use Rattle.bfd_rules.specs.declared.variables.Vars.{Vars}
use Rattle.bfd_rules.specs.Quantities.{adv_tx, may_send}
use Rattle.bfd_sbfd.specs.declared.config.InitiatorConfig.{InitiatorConfig}

-- a configuration within its ranges
pub record IsInitiatorConfig (c : InitiatorConfig) : Type 0 where
  pub discr : 0 < c.discr
  pub target : 0 < c.target
  pub iface : c.iface < 65536
  pub tx_least : 10000 ≤ c.tx
  pub tx_most : c.tx ≤ 60000000
  pub some_mult : 0 < c.mult
  pub most_mult : c.mult < 256

-- an initiator is never in Init (RFC 7880 section 7.3.1)
abbrev pub is_initiator_state : State → Bool
is_initiator_state AdminDown = true
is_initiator_state Down = true
is_initiator_state Init = false
is_initiator_state Up = true

-- what an initiator leaves as it was at the start: the discriminator that it seeks, and what it doesn't use
pub record IsFixed (c : InitiatorConfig) (v : Vars) : Type 0 where
  pub target : v.remote_discr ≡ c.target
  pub rx : v.rx ≡ 0
  pub used_rx : v.used_rx ≡ 0
  pub echo_every : v.echo_every ≡ 0
  pub poll : v.poll ≡ Idle
  pub demand : v.demand ≡ false
  pub remote_demand : v.remote_demand ≡ false
  pub remote_min_echo : v.remote_min_echo ≡ 0
  pub remote_tx : v.remote_tx ≡ 0
  pub remote_mult : v.remote_mult ≡ 0
  pub seq_heard : v.seq_heard ≡ None
  pub sending : v.sending ≡ 0
  pub left : v.left ≡ 0

-- what holds of its variables except the interval in use: configured values are in their ranges, the diagnostic has 5 bits,
-- the reflector's interval has 32, and moments are below 2^60. In Up an answer was heard
pub record IsInitiatorPlain (c : InitiatorConfig) (v : Vars) : Type 0 where
  pub states : IsTrue (is_initiator_state v.state)
  pub tx_least : 10000 ≤ v.tx
  pub tx_most : v.tx ≤ 60000000
  pub some_mult : 0 < v.mult
  pub most_mult : v.mult < 256
  pub diag_below : v.diag < 32
  pub peer_rx_below : v.remote_min_rx < 2 ^ 32
  pub heard_below : IfSome v.heard (λ m. m < moment_bound)
  pub due_below : IfSome v.tx_due (λ t. t < moment_bound)
  pub base_below : v.base < moment_bound
  pub at_below : v.at < moment_bound
  pub up_heard : v.state ≡ Up → IsSome v.heard
  pub fixed : IsFixed c v

-- what holds after each rule: the advertised interval is the one in use
pub record IsInitiatorSteady (c : InitiatorConfig) (v : Vars) : Type 0 where
  pub plain : IsInitiatorPlain c v
  pub in_use : v.used_tx ≡ adv_tx v

-- what holds between events: a due tick is present if and only if periodic packets may be sent; an initiator is active
pub record IsInitiatorSound (c : InitiatorConfig) (v : Vars) : Type 0 where
  pub steady : IsInitiatorSteady c v
  pub due : IsSome v.tx_due ↔ IsTrue (may_send true v)
