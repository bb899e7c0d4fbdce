-- The due tick that an event leaves keeps the variables sound.
use Rattle.bfd_sbfd.proofs.Common.{◌≡◌, ◌^◌, ◌<◌, ℕ, Bool, true, false, refl, Option, None, Some, IfSome, arith, if◌then◌else◌}
use Rattle.bfd_sbfd.proofs.Common.{moment_bound, next_j, Vars, may_send, tx_interval, draws, drawn, InitiatorConfig, IsInitiatorPlain}
use Rattle.bfd_sbfd.proofs.Common.{IsInitiatorSteady}
use Rattle.bfd_sbfd.proofs.Common.{IsInitiatorSound, common_steps}
use Rattle.bfd_rules.specs.declared.variables.Mark.{Mark}
use Rattle.bfd_rules.specs.Jitter.{pick}
use Rattle.bfd_rules.proofs.Drawing.{picked_below, stands_there}

interval_few : {c : InitiatorConfig} {v : Vars} → IsInitiatorSteady c v → tx_interval v < 2 ^ 32
interval_few steady = grind (arith, common_steps)

due_plain : {c : InitiatorConfig} {v : Vars} (due : Option ℕ) (j : ℕ) → IfSome due (λ t. t < moment_bound) → IsInitiatorPlain c v
    → IsInitiatorPlain c (record v { tx_due = due; j = j })
due_plain due j h plain = grind (arith, common_steps)

due_steady : {c : InitiatorConfig} {v : Vars} (due : Option ℕ) (j : ℕ) → IfSome due (λ t. t < moment_bound) → IsInitiatorSteady c v
    → IsInitiatorSteady c (record v { tx_due = due; j = j })
due_steady due j h steady = record { plain = due_plain due j h steady.plain; in_use = steady.in_use }

drawn_by : {c : InitiatorConfig} (m : Mark) {v : Vars} (may anew : Bool) → may_send true v ≡ may → draws m v ≡ anew → IsInitiatorSteady c v
    → IsInitiatorSound c (if may then (if anew then record v { tx_due = Some (pick v.base (tx_interval v) v.mult v.j); j = next_j v.j } else
    v)
    else record v { tx_due = None })
drawn_by m {v} true true is anew steady = record {
  steady = due_steady (Some (pick v.base (tx_interval v) v.mult v.j)) (next_j v.j)
      (picked_below v (interval_few steady) steady.plain.base_below) steady;
  due = (λ _. is, λ _. refl);
}
drawn_by m {v} true false is anew steady = record { steady = steady; due = (λ _. is, λ _. stands_there m v anew) }
drawn_by m {v} false anew is _ steady = record {
  steady = due_steady None v.j tt steady;
  due = (λ h. cc, λ h. cc);
}

pub drawn_sound : (c : InitiatorConfig) (m : Mark) (v : Vars) → IsInitiatorSteady c v → IsInitiatorSound c (drawn true m v)
unfolding drawn
drawn_sound c m v steady = drawn_by m (may_send true v) (draws m v) refl refl steady
