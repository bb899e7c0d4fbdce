-- The variables that a point-to-point session can have, in three stages (RFC 5880 section 6.8.1): what the
-- raw variables of a rule satisfy, what holds after each rule, and what holds between events.
use Rattle.std.specs.Prelude.{◌≡◌, ◌≤◌, ◌<◌, ◌↔◌, ℕ, ◌==◌, nat_le, Bool, true, ◌&&◌, ◌||◌, Option, None, Some, IsTrue, IsSome, IfSome}
use Rattle.std.specs.Prelude.{length, ◌^◌}
use Rattle.bfd_packet.specs.declared.control.State.TheVariants.{Up}
use Rattle.bfd_packet.specs.KeyChain.{KeyChain}
use Rattle.bfd_num.specs.Numbers.{moment_bound}
use Rattle.bfd_rules.specs.declared.config.Role.{Role}
use Rattle.bfd_rules.specs.declared.config.Role.TheVariants.{Single, Multi}
use Rattle.bfd_rules.specs.declared.config.Config.{Config}
use Rattle.bfd_rules.specs.declared.variables.Vars.{Vars}
use Rattle.bfd_rules.specs.Quantities.{is_idle, poll_started, adv_tx, may_send}
use Rattle.bfd_rules.specs.Renewal.{is_settled_tx}

-- an interval that may be configured, in microseconds
abbrev pub is_interval : ℕ → Bool
is_interval n = nat_le 10000 n && nat_le n 60000000

-- an interval of the Echo function that may be configured: none, or a single hop's
abbrev pub is_echo_interval : Role → ℕ → Bool
is_echo_interval Single n = (n == 0) || is_interval n
is_echo_interval Multi n = n == 0

-- a place of the key list, or 0 without authentication
abbrev pub IsPlace : Option KeyChain → ℕ → Type 0
IsPlace None place = place ≡ 0
IsPlace (Some keys) place = place < length keys.list

-- a configuration within its ranges
pub record IsConfig (c : Config) : Type 0 where
  pub discr : 0 < c.discr
  pub iface : c.iface < 65536
  pub tx_least : 10000 ≤ c.tx
  pub tx_most : c.tx ≤ 60000000
  pub rx_least : 10000 ≤ c.rx
  pub rx_most : c.rx ≤ 60000000
  pub some_mult : 0 < c.mult
  pub most_mult : c.mult < 256
  pub echo_range : IsTrue (is_echo_interval c.role c.echo)

-- what the raw variables of a rule satisfy: configured values are in their ranges, the diagnostic has 5 bits, and the
-- interval in use is at least 10,000. The peer's interval has 32 bits and its Detect Mult 8, and moments are below 2^60.
-- In Up a packet was heard. There is a key to send with
pub record IsPlain (c : Config) (v : Vars) : Type 0 where
  pub tx_least : 10000 ≤ v.tx
  pub tx_most : v.tx ≤ 60000000
  pub rx_least : 10000 ≤ v.rx
  pub rx_most : v.rx ≤ 60000000
  pub some_mult : 0 < v.mult
  pub most_mult : v.mult < 256
  pub echo_range : IsTrue (is_echo_interval c.role v.echo_every)
  pub diag_below : v.diag < 32
  pub used_least : 10000 ≤ v.used_tx
  pub peer_rx_below : v.remote_min_rx < 2 ^ 32
  pub peer_mult_below : v.remote_mult < 256
  pub heard_below : IfSome v.heard (λ m. m < moment_bound)
  pub seq_below : IfSome v.seq_heard (λ m. m < moment_bound)
  pub poll_below : IfSome (poll_started v.poll) (λ m. m < moment_bound)
  pub due_below : IfSome v.tx_due (λ t. t < moment_bound)
  pub base_below : v.base < moment_bound
  pub at_below : v.at < moment_bound
  pub up_heard : v.state ≡ Up → IsSome v.heard
  pub place : IsPlace c.keys v.sending
  pub none_left : v.left ≡ 0

-- what Renewal establishes: which intervals are in use
pub record IsRenewed (v : Vars) : Type 0 where
  pub settled_tx : is_settled_tx v ≡ true → v.used_tx ≡ adv_tx v
  pub tx_at_most : v.used_tx ≤ adv_tx v
  pub settled_rx : is_idle v.poll ≡ true → v.used_rx ≡ v.rx
  pub rx_at_least : v.rx ≤ v.used_rx

-- when a packet or a sequence number was heard, the peer's Detect Mult is known
pub record HasPeerMult (v : Vars) : Type 0 where
  pub heard_mult : IsSome v.heard → 0 < v.remote_mult
  pub seq_mult : IsSome v.seq_heard → 0 < v.remote_mult

-- what holds after each rule
pub record IsSteady (c : Config) (v : Vars) : Type 0 where
  pub plain : IsPlain c v
  pub renewed : IsRenewed v
  pub peer : HasPeerMult v

-- what holds between events: a due tick is present if and only if periodic packets may be sent
pub record IsSound (c : Config) (v : Vars) : Type 0 where
  pub steady : IsSteady c v
  pub due : IsSome v.tx_due ↔ IsTrue (may_send c.active v)
