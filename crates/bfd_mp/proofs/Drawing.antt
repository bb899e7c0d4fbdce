-- The due tick that an event of a head leaves keeps the variables sound; nothing keeps a head from sending.
use Rattle.bfd_mp.proofs.Common.{◌≡◌, ◌^◌, ◌<◌, ℕ, Bool, true, false, refl, Option, Some, IfSome, arith, if◌then◌else◌, moment_bound}
use Rattle.bfd_mp.proofs.Common.{next_j, Vars, may_send, tx_interval, draws, drawn, IsHeadSteady, IsHeadSound, common_steps, Mark}
use Rattle.bfd_rules.specs.Jitter.{pick}
use Rattle.bfd_rules.proofs.Drawing.{picked_below, stands_there}

-- a head may always send
pub may_always : {v : Vars} → IsHeadSteady v → may_send true v ≡ true
may_always h = rw (h.unheard.remote_min_rx, h.unused.remote_demand) refl

interval_few : {v : Vars} → IsHeadSteady v → tx_interval v < 2 ^ 32
interval_few steady = grind (arith, common_steps)

due_steady : {v : Vars} (due : Option ℕ) (j : ℕ) → IfSome due (λ t. t < moment_bound) → IsHeadSteady v
    → IsHeadSteady (record v { tx_due = due; j = j })
due_steady due j h steady = grind (arith, common_steps)

drawn_by : (m : Mark) {v : Vars} (anew : Bool) → draws m v ≡ anew → IsHeadSteady v
    → IsHeadSound (if anew then record v { tx_due = Some (pick v.base (tx_interval v) v.mult v.j); j = next_j v.j } else v)
drawn_by m {v} true anew steady = record {
  steady = due_steady (Some (pick v.base (tx_interval v) v.mult v.j)) (next_j v.j) (picked_below v (interval_few steady) steady.base_below)
      steady;
  due = refl;
}
drawn_by m {v} false anew steady = record { steady = steady; due = stands_there m v anew }

pub drawn_sound : (m : Mark) {v : Vars} → IsHeadSteady v → IsHeadSound (drawn true m v)
unfolding drawn
drawn_sound m {v} steady = rw (may_always steady) (drawn_by m (draws m v) refl steady)
