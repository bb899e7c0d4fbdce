-- Which sequence numbers are outstanding.
use Rattle.std.proofs.Common.{◌≡◌, ◌<◌, ◌+◌, ◌-◌, ◌%◌, ◌^◌, ℕ, Bool, true, false, refl, if◌then◌else◌, nat_lt, arith}
use Rattle.std.proofs.lemmas.Bool.Decides.{nat_tests}
use Rattle.bfd_echo.specs.declared.echo.Echo.{Echo}
use Rattle.bfd_echo.specs.Rules.{returned, sent}
use Rattle.bfd_echo.specs.Sequence.{next_sequence, is_outstanding, steps_to}

-- k numbers on from a number are k steps
steps_to-on : {from k : ℕ} → from < 2 ^ 32 → k < 2 ^ 32 → steps_to from ((from + k) % 2 ^ 32) ≡ k
steps_to-on small few = omega arith

pub kth : (e : Echo) (k : ℕ) → e.back < 2 ^ 32 → k < 2 ^ 32 → is_outstanding e ((e.back + k) % 2 ^ 32) ≡ nat_lt k (steps_to e.back e.next)
kth e k small few = rw (steps_to-on small few) refl

pub unsent : (e : Echo) → is_outstanding e e.next ≡ false
unsent e = grind (arith, nat_tests)

-- one more number is one more step, but for the whole round
steps_to-after : {from to : ℕ} → from < 2 ^ 32 → to < 2 ^ 32 → steps_to from to + 1 < 2 ^ 32
    → steps_to from (next_sequence to) ≡ steps_to from to + 1
steps_to-after small few room = omega arith

pub just_sent : (e : Echo) (eff : ℕ) → e.back < 2 ^ 32 → e.next < 2 ^ 32 → steps_to e.back e.next + 1 < 2 ^ 32
    → is_outstanding (sent eff e) e.next ≡ true
unfolding sent
just_sent e eff small few room = rw (steps_to-after small few room) (grind (arith, nat_tests))

-- a number is the whole round less one on from the number after it
steps_to-before : {s : ℕ} (to : ℕ) → s < 2 ^ 32 → nat_lt (steps_to (next_sequence s) s) (steps_to (next_sequence s) to) ≡ false
steps_to-before {s} to small =
    let last : steps_to (next_sequence s) s ≡ 2 ^ 32 - 1 = omega arith in
    rw last (grind (arith, nat_tests))

once_by : (e : Echo) (eff : ℕ) {s : ℕ} (b : Bool) → is_outstanding e s ≡ b → s < 2 ^ 32
    → is_outstanding (if b then record e { back = next_sequence s; last = eff } else e) s ≡ false
once_by e eff true is small = steps_to-before e.next small
once_by e eff false is small = is

pub once : (e : Echo) (eff s : ℕ) → s < 2 ^ 32 → is_outstanding (returned eff s e) s ≡ false
unfolding returned
once e eff s small = once_by e eff (is_outstanding e s) refl small
