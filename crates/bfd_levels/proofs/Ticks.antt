-- How many lists the clock reaches on its way, and the overdue list.
use Rattle.bfd_levels.proofs.Common.{◌≡◌, ◌≢◌, inl, inr, ℕ, ◌+◌, ◌-◌, ◌*◌, ◌/◌, ◌%◌, ◌<◌, ◌≤◌, List, refl, ◌∙◌, arith, slice_index}
use Rattle.bfd_levels.proofs.Common.{cases_lt, never, bit, slot, midway, reach}
use Rattle.bfd_levels.proofs.Digits.{place_come, overdue_same, bit_zero}
use Rattle.bfd_levels.proofs.Midway.{midway_still}

-- how many lists the clock has reached from 0 up to a tick
unfoldable pub reached_till : ℕ → ℕ
reached_till tick = tick + tick / 256 + tick / 65536 + tick / 16777216 + tick / 4294967296

carry_1 : (before tick : ℕ) → tick ≡ before + 1 → tick / 256 ≡ before / 256 + bit (tick % 256) 0
carry_1 before tick next = elim (bit_zero (tick % 256)) [ inl q ↦ (let a = q.0 in let b = q.1 in omega arith) | inr q ↦ (omega arith) ]

carry_2 : (before tick : ℕ) → tick ≡ before + 1 → tick / 65536 ≡ before / 65536 + bit (tick % 65536) 0
carry_2 before tick next = elim (bit_zero (tick % 65536)) [ inl q ↦ (let a = q.0 in let b = q.1 in omega arith) | inr q ↦ (omega arith) ]

carry_3 : (before tick : ℕ) → tick ≡ before + 1 → tick / 16777216 ≡ before / 16777216 + bit (tick % 16777216) 0
carry_3 before tick next = elim (bit_zero (tick % 16777216)) [ inl q ↦ (let a = q.0 in let b = q.1 in omega arith) | inr q ↦ (omega arith) ]

carry_4 : (before tick : ℕ) → tick ≡ before + 1 → tick / 4294967296 ≡ before / 4294967296 + bit (tick % 4294967296) 0
carry_4 before tick next = elim (bit_zero (tick % 4294967296)) [
  | inl q ↦ (let a = q.0 in let b = q.1 in omega arith)
  | inr q ↦ (omega arith)
]

pub reached_more : (before : ℕ) → reached_till before + reach (before + 1) ≡ reached_till (before + 1)
unfolding reached_till
reached_more before =
    omega (
      arith,
      carry_1 before (before + 1) refl,
      carry_2 before (before + 1) refl,
      carry_3 before (before + 1) refl,
      carry_4 before (before + 1) refl,
    )

-- at most two a tick, and three more
pub reached_few : {now t : ℕ} → now ≤ t → t < now + 65536 → reached_till t ≤ reached_till now + 2 * (t - now) + 3
unfolding reached_till
reached_few {now} {t} later near = omega arith

-- every id that is left is later, if nothing at most t is left on the overdue list
pub overdue_left : {n now t : ℕ} (dues : List ℕ) → t ≤ now
    → ((j : ℕ) → j < n → slice_index dues j ≢ never → midway n now now 5 (slice_index dues j) ≡ slot n now 5 → t < slice_index dues j)
    → (j : ℕ) → j < n → slice_index dues j ≢ never → t < slice_index dues j
overdue_left {n} {now} {t} dues back left j near there = elim (cases_lt t (slice_index dues j)) [
  | inl above ↦ above
  | inr le ↦ left j near there (midway_still n now 5 (slice_index dues j) ∙ place_come n now (slice_index dues j) (omega arith)
      ∙ overdue_same n (slice_index dues j) now)
]
