-- What a tick leaves: nothing that has come due by its limit, in microseconds.
use Rattle.std.specs.Prelude.{◌≡◌, ◌≤◌, ℕ, true, false, IsSome}
use Rattle.bfd_num.specs.Numbers.{floor_tick}
use Rattle.bfd_num.specs.Due.{has_come}
use Rattle.bfd_rules.specs.declared.variables.Vars.{Vars}
use Rattle.bfd_rules.specs.declared.variables.Mark.{Mark}
use Rattle.bfd_rules.specs.Quantities.{tx_interval}
use Rattle.bfd_rules.specs.EventFrame.{begins, one_changed}
use Rattle.bfd_mp.specs.Sound.{IsHeadSound}
use Rattle.bfd_mp.specs.Waiting.{deadline}

-- no due tick of a head has come
pub record IsHeadOver (limit : ℕ) (v : Vars) : Type 0 where
  pub due_later : has_come (floor_tick limit) v.tx_due ≡ false

-- neither the deadline of a tail nor a due tick has come
pub record IsTailOver (limit : ℕ) (v : Vars) : Type 0 where
  pub late : has_come limit (deadline v) ≡ false
  pub due_later : has_come (floor_tick limit) v.tx_due ≡ false

-- a head's due tick stands as it was drawn, and hasn't come
pub record IsStill (limit : ℕ) (m : Mark) (v : Vars) : Type 0 where
  pub due_later : has_come (floor_tick limit) v.tx_due ≡ false
  pub there : IsSome v.tx_due
  pub interval_kept : tx_interval v ≡ m.interval
  pub one_kept : one_changed m v ≡ false

-- an event of a head with this limit begins: sound variables, and their mark
pub record IsBegun (limit eff : ℕ) (m : Mark) (v : Vars) : Type 0 where
  pub reached : limit ≤ eff
  pub sound : IsHeadSound v
  pub made : m ≡ begins v

-- what settling leaves for the end of a head's event: no packet with F was sent. A packet that moved the base
-- moved it to this moment. If none did, the due tick stands as it was drawn
pub record IsSettled (limit eff : ℕ) (m : Mark) (v : Vars) : Type 0 where
  pub unanswered : m.answered ≡ false
  pub based : m.moved ≡ true → v.base ≡ eff
  pub still : m.moved ≡ false → IsStill limit m v
