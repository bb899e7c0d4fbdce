-- The configurations of heads and tails, and the variables that they can have (RFC 8562 section 5.4): what holds
-- after each rule, and what holds between events.
use Rattle.std.specs.Prelude.{◌≡◌, ◌≤◌, ◌<◌, ◌^◌, Bool, true, false, None, IsTrue, IsSome, IfSome}
use Rattle.bfd_packet.specs.declared.control.State.{State}
use Rattle.bfd_packet.specs.declared.control.State.TheVariants.{AdminDown, Down, Init, Up}
use Rattle.bfd_num.specs.Numbers.{moment_bound}
use Rattle.bfd_rules.specs.declared.variables.Poll.TheVariants.{Idle}
use Rattle.bfd_rules.specs.declared.variables.Vars.{Vars}
use Rattle.bfd_mp.specs.declared.config.HeadConfig.{HeadConfig}
use Rattle.bfd_mp.specs.declared.config.TailConfig.{TailConfig}
use Rattle.bfd_mp.specs.Counting.{poll_of}

-- a configuration of a head within its ranges
pub record IsHeadConfig (c : HeadConfig) : Type 0 where
  pub discr : 0 < c.discr
  pub iface : c.iface < 65536
  pub tx_least : 10000 ≤ c.tx
  pub tx_most : c.tx ≤ 60000000
  pub some_mult : 0 < c.mult
  pub most_mult : c.mult < 256

-- a configuration of a tail within its ranges
pub record IsTailConfig (c : TailConfig) : Type 0 where
  pub discr : 0 < c.discr
  pub head : 0 < c.head
  pub iface : c.iface < 65536

-- a head is Up, or AdminDown by a command
abbrev pub is_head_state : State → Bool
is_head_state AdminDown = true
is_head_state Down = false
is_head_state Init = false
is_head_state Up = true

-- there is no Init in a multipoint session (RFC 8562 section 5.5)
abbrev pub is_tail_state : State → Bool
is_tail_state AdminDown = true
is_tail_state Down = true
is_tail_state Init = false
is_tail_state Up = true

-- what neither kind uses is as it was at the start: Required Min RX, Echo, Demand mode and authentication
pub record IsUnused (v : Vars) : Type 0 where
  pub rx : v.rx ≡ 0
  pub used_rx : v.used_rx ≡ 0
  pub echo_every : v.echo_every ≡ 0
  pub demand : v.demand ≡ false
  pub remote_demand : v.remote_demand ≡ false
  pub remote_min_echo : v.remote_min_echo ≡ 0
  pub seq_heard : v.seq_heard ≡ None
  pub sending : v.sending ≡ 0

-- a head receives nothing
pub record IsUnheard (v : Vars) : Type 0 where
  pub remote_state : v.remote_state ≡ Down
  pub remote_discr : v.remote_discr ≡ 0
  pub remote_min_rx : v.remote_min_rx ≡ 1
  pub remote_tx : v.remote_tx ≡ 0
  pub remote_mult : v.remote_mult ≡ 0
  pub heard : v.heard ≡ None

-- a tail knows its head from the start, and sends nothing
pub record IsSilent (c : TailConfig) (v : Vars) : Type 0 where
  pub remote_discr : v.remote_discr ≡ c.head
  pub remote_min_rx : v.remote_min_rx ≡ 0
  pub tx : v.tx ≡ 0
  pub used_tx : v.used_tx ≡ 0
  pub mult : v.mult ≡ 1
  pub poll : v.poll ≡ Idle
  pub left : v.left ≡ 0
  pub base : v.base ≡ 0
  pub tx_due : v.tx_due ≡ None
  pub j : v.j ≡ 0

-- what holds of a head after each rule: configured values are in their ranges, the diagnostic has 5 bits, and moments are
-- below 2^60. The interval in use is the configured one, or no longer than it while packets with P are still to be sent. In
-- AdminDown no packets with P are to be sent
pub record IsHeadSteady (v : Vars) : Type 0 where
  pub states : IsTrue (is_head_state v.state)
  pub tx_least : 10000 ≤ v.tx
  pub tx_most : v.tx ≤ 60000000
  pub some_mult : 0 < v.mult
  pub most_mult : v.mult < 256
  pub diag_below : v.diag < 32
  pub used_least : 10000 ≤ v.used_tx
  pub used_most : v.used_tx ≤ v.tx
  pub used_settled : v.left ≡ 0 → v.used_tx ≡ v.tx
  pub left_below : v.left < 256
  pub none_down : v.state ≡ AdminDown → v.left ≡ 0
  pub polls : v.poll ≡ poll_of v.left
  pub due_below : IfSome v.tx_due (λ t. t < moment_bound)
  pub base_below : v.base < moment_bound
  pub at_below : v.at < moment_bound
  pub unheard : IsUnheard v
  pub unused : IsUnused v

-- what holds of a head between events: a due tick is present, since a head sends in every state
pub record IsHeadSound (v : Vars) : Type 0 where
  pub steady : IsHeadSteady v
  pub due : IsSome v.tx_due

-- what holds of a tail after each rule, and so between events: the diagnostic has 5 bits, the head's Detect Mult 8 and its
-- interval 32, and moments are below 2^60. When a packet was heard, the head's Detect Mult is known. In Up a packet was heard
pub record IsTailSound (c : TailConfig) (v : Vars) : Type 0 where
  pub states : IsTrue (is_tail_state v.state)
  pub diag_below : v.diag < 32
  pub peer_mult_below : v.remote_mult < 256
  pub peer_tx_below : v.remote_tx < 2 ^ 32
  pub heard_mult : IsSome v.heard → 0 < v.remote_mult
  pub heard_below : IfSome v.heard (λ m. m < moment_bound)
  pub at_below : v.at < moment_bound
  pub up_heard : v.state ≡ Up → IsSome v.heard
  pub silent : IsSilent c v
  pub unused : IsUnused v
