-- What each call does to the potential, and what a list of calls may take.
use Rattle.bfd_levels.proofs.Common.{◌≡◌, inl, inr, ℕ, zero, suc, ◌+◌, ◌*◌, ◌<◌, ◌≤◌, max, Bool, true, false, cond, List, [], ◌∷◌, map}
use Rattle.bfd_levels.proofs.Common.{replicate, refl, ap, arith, nat_le, slice_set, Option, None, Some, nat_tests, cases_lt, without}
use Rattle.bfd_levels.proofs.Common.{height, weight, potential, Clocked, potential_of}
use Rattle.bfd_levels.specs.Calls.{WheelCall, Set, Clear, Advance, Made, wheel_after, KeepsSteps, KeepsAll, after_all, steps_of, call_share}
use Rattle.bfd_levels.specs.Calls.{shares}
use Rattle.bfd_levels.proofs.Digits.{height-le, height_later}

-- ---- one due tick is written

write_adds : (now id w : ℕ) (d : Option ℕ) (ds : List (Option ℕ)) → weight now d ≤ w
    → potential now (slice_set ds id d) ≤ potential now ds + w
write_adds now id w d [] h = omega arith
write_adds now zero w d (e ∷ ds) h = omega arith
write_adds now (suc id) w d (e ∷ ds) h = omega (arith, write_adds now id w d ds h)

-- a due tick that is set adds at most 9
pub set_adds : (w : Clocked) (id due : ℕ) → potential_of (wheel_after (Set id due) w) ≤ potential_of w + 9
set_adds w id due = write_adds w.clock id 9 (Some due) w.dues (omega (arith, height-le due w.clock))

-- one that is cleared adds nothing
pub clear_falls : (w : Clocked) (id : ℕ) → potential_of (wheel_after (Clear id) w) ≤ potential_of w
clear_falls w id = omega (arith, write_adds w.clock id 0 None w.dues (omega arith))

-- the same of what a call left
pub set_rises : (w : Clocked) {clock : ℕ} {dues : List (Option ℕ)} (id due : ℕ) → clock ≡ w.clock → dues ≡ slice_set w.dues id (Some due)
    → potential clock dues ≤ potential_of w + 9
set_rises w {dues} id due time is = (let b = ap (λ k. potential k dues) time in omega (arith, set_adds w id due, ap (potential w.clock) is))

pub clears_falls : (w : Clocked) {clock : ℕ} {dues : List (Option ℕ)} (id : ℕ) → clock ≡ w.clock → dues ≡ slice_set w.dues id None
    → potential clock dues ≤ potential_of w
clears_falls w {dues} id time is = (let b = ap (λ k. potential k dues) time in omega (arith, clear_falls w id, ap (potential w.clock) is))

-- ---- the clock goes on

height_max : {due : ℕ} (now : ℕ) {t : ℕ} → t < due → height due (max now t) ≤ height due now
height_max {due} now {t} ahead = elim (cases_lt now t) [
  | inl less ↦ (let e : max now t ≡ t = omega arith in omega (arith, ap (height due) e, height_later due now t (omega arith) ahead))
  | inr back ↦ (let e : max now t ≡ now = omega arith in omega (arith, ap (height due) e))
]

without_falls : (now t d : ℕ) (b : Bool) → nat_le d t ≡ b → weight (max now t) (cond b None (Some d)) ≤ weight now (Some d)
without_falls now t d true test = omega arith
without_falls now t d false test = (let l = height_max now (let more : t < d = grind (arith, nat_tests) in more) in omega arith)

weight_falls : (now t : ℕ) (d : Option ℕ) → weight (max now t) (without t d) ≤ weight now d
weight_falls now t None = omega arith
weight_falls now t (Some d) = without_falls now t d (nat_le d t) refl

potential_falls : (now t : ℕ) (ds : List (Option ℕ)) → potential (max now t) (map (without t) ds) ≤ potential now ds
potential_falls now t [] = omega arith
potential_falls now t (d ∷ ds) = omega (arith, weight_falls now t d, potential_falls now t ds)

-- an advance adds nothing
pub advance_falls : (w : Clocked) (t : ℕ) → potential_of (wheel_after (Advance t) w) ≤ potential_of w
advance_falls w t = potential_falls w.clock t w.dues

-- ---- all calls

one_call : (w : Clocked) (steps : ℕ) (call : WheelCall) → KeepsSteps w steps call
    → steps + potential_of (wheel_after call w) + 2 * w.clock ≤ call_share call + potential_of w + 2 * (wheel_after call w).clock
one_call w steps (Set id due) k = omega (arith, set_adds w id due)
one_call w steps (Clear id) k = omega (arith, clear_falls w id)
one_call w steps (Advance t) k = elim (cases_lt t w.clock) [
  | inl earlier ↦ (omega (arith, k.1 earlier, advance_falls w t))
  | inr later ↦ (omega (arith, k.0 later, advance_falls w t))
]

many_calls : (ms : List Made) (w : Clocked) → KeepsAll w ms
    → steps_of ms + potential_of (after_all ms w) + 2 * w.clock ≤ shares ms + potential_of w + 2 * (after_all ms w).clock
many_calls [] w k = omega arith
many_calls (m ∷ ms) w k = omega (arith, one_call w m.steps m.call k.0, many_calls ms (wheel_after m.call w) k.1)

none_potential : (count : ℕ) → potential 0 (replicate count None) ≡ 0
none_potential zero = refl
none_potential (suc count) = omega (arith, none_potential count)

-- from a wheel that was just made
pub all_calls : (count : ℕ) (ms : List Made) → KeepsAll (record { clock = 0; dues = replicate count None }) ms
    → steps_of ms ≤ shares ms + 2 * (after_all ms (record { clock = 0; dues = replicate count None })).clock
all_calls count ms k =
    let start : Clocked = record { clock = 0; dues = replicate count None } in
    omega (arith, many_calls ms start k, none_potential count)
