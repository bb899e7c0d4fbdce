-- The due tick that an event draws, and the one that it leaves.
use Rattle.std.proofs.Common.{◌≡◌, ◌^◌, ◌-◌, ◌<◌, ◌≤◌, ◌+◌, ◌*◌, ◌/◌, ◌%◌, ◌||◌, ◌==◌, not, ℕ, Bool, true, false, refl, Option, None, Some}
use Rattle.std.proofs.Common.{is_none, IsSome, arith, if◌then◌else◌}
use Rattle.std.proofs.lemmas.Bool.{or_parts}
use Rattle.bfd_num.specs.Numbers.{moment_bound, floor_tick, ceil_tick}
use Rattle.bfd_rules.specs.declared.variables.Mark.{Mark}
use Rattle.bfd_rules.specs.declared.variables.Vars.{Vars}
use Rattle.bfd_rules.specs.Quantities.{tx_interval}
use Rattle.bfd_rules.specs.Jitter.{pick}
use Rattle.bfd_rules.specs.EventFrame.{draws, one_changed}

share_most : (one : Bool) (interval : ℕ) → (if one then 9 * interval / 10 else interval) ≤ interval
share_most true interval = omega arith
share_most false interval = omega arith

-- a tick between these two lies below the bound of moments
between_below : {base interval share : ℕ} (j : ℕ) → base < 2 ^ 60 → interval < 2 ^ 32 → share ≤ interval
    → let e : ℕ = (base + (3 * interval + 3) / 4 + 999) / 1000 in e + j % ((base + share) / 1000 - e + 1) < 2 ^ 60
between_below {base} {interval} {share} j h few least =
    let e : ℕ = (base + (3 * interval + 3) / 4 + 999) / 1000 in
    omega arith

-- a due tick that is drawn lies below the bound of moments
pub picked_below : (v : Vars) → tx_interval v < 2 ^ 32 → v.base < moment_bound → pick v.base (tx_interval v) v.mult v.j < moment_bound
unfolding pick ceil_tick floor_tick
picked_below v few base = between_below v.j base few (share_most (v.mult == 1) (tx_interval v))

is_there : (o : Option ℕ) → is_none o ≡ false → IsSome o
is_there None h = cc
is_there (Some x) h = refl

-- a due tick that isn't redrawn is present
pub stands_there : (m : Mark) (v : Vars) → draws m v ≡ false → IsSome v.tx_due
stands_there m v h =
    let outer = or_parts (m.moved || is_none v.tx_due || not (tx_interval v == m.interval)) (one_changed m v) h in
    let middle = or_parts (m.moved || is_none v.tx_due) (not (tx_interval v == m.interval)) outer.0 in
    let inner = or_parts m.moved (is_none v.tx_due) middle.0 in
    is_there v.tx_due inner.1
