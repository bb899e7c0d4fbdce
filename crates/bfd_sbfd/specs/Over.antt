-- What a tick leaves: nothing that has come due by its limit.
use Rattle.std.specs.Prelude.{◌≡◌, ◌≤◌, ℕ, true, false, IsSome}
use Rattle.bfd_num.specs.Numbers.{floor_tick}
use Rattle.bfd_num.specs.Due.{has_come}
use Rattle.bfd_rules.specs.declared.variables.Vars.{Vars}
use Rattle.bfd_rules.specs.declared.variables.Mark.{Mark}
use Rattle.bfd_rules.specs.Quantities.{may_send, tx_interval}
use Rattle.bfd_rules.specs.EventFrame.{begins, is_news, one_changed}
use Rattle.bfd_sbfd.specs.declared.config.InitiatorConfig.{InitiatorConfig}
use Rattle.bfd_sbfd.specs.Sound.{IsInitiatorSound}
use Rattle.bfd_sbfd.specs.Waiting.{deadline}

-- no deadline and no due tick has come by the limit, in microseconds
pub record IsOver (limit : ℕ) (v : Vars) : Type 0 where
  pub late : has_come limit (deadline v) ≡ false
  pub due_later : has_come (floor_tick limit) v.tx_due ≡ false

-- the due tick stands as it was drawn, and hasn't come
pub record IsStill (limit : ℕ) (m : Mark) (v : Vars) : Type 0 where
  pub due_later : has_come (floor_tick limit) v.tx_due ≡ false
  pub there : IsSome v.tx_due
  pub interval_kept : tx_interval v ≡ m.interval
  pub one_kept : one_changed m v ≡ false

-- an event with this limit begins: sound variables, and their mark
pub record IsBegun (c : InitiatorConfig) (limit eff : ℕ) (m : Mark) (v : Vars) : Type 0 where
  pub reached : limit ≤ eff
  pub sound : IsInitiatorSound c v
  pub made : m ≡ begins v

-- what settling leaves for the end of the event: no deadline has come, and no packet with F was sent. A packet that moved the
-- base moved it to this moment. The due tick stands as it was drawn if no packet moved the base, there is no news, and packets
-- may be sent
pub record IsSettled (limit eff : ℕ) (m : Mark) (v : Vars) : Type 0 where
  pub late : has_come limit (deadline v) ≡ false
  pub unanswered : m.answered ≡ false
  pub based : m.moved ≡ true → v.base ≡ eff
  pub still : m.moved ≡ false → is_news m v ≡ false → may_send true v ≡ true → IsStill limit m v
