-- Heights by their digits, the lists that they name, and what a tick of the clock moves.
use Rattle.bfd_levels.proofs.Common.{◌≡◌, ◌≢◌, ◌⊎◌, inl, inr, ℕ, zero, suc, ◌+◌, ◌-◌, ◌*◌, ◌/◌, ◌%◌, ◌^◌, ◌<◌, ◌≤◌, Bool, true, false, cond}
use Rattle.bfd_levels.proofs.Common.{refl, sym, ◌∙◌, ap, arith, nat_le, nat_lt, nat_eq, if◌then◌else◌, nat_tests, eqb-true, eqb-false}
use Rattle.bfd_levels.proofs.Common.{leb-true, cases_eq, cases_lt, bit, bit_same, bit_other, height, slot, place, level_of, reach, GoesDown}

-- ---- heights

-- due and now have the same digits from the place h on, if that is below 4, and other ones at the place h itself
pub record HasHeight (due now h : ℕ) : Type 0 where
  pub few : h ≤ 4
  pub same1 : h < 1 → due / 256 ≡ now / 256
  pub same2 : h < 2 → due / 65536 ≡ now / 65536
  pub same3 : h < 3 → due / 16777216 ≡ now / 16777216
  pub same4 : h < 4 → due / 4294967296 ≡ now / 4294967296
  pub other1 : 1 ≤ h → due / 256 ≢ now / 256
  pub other2 : 2 ≤ h → due / 65536 ≢ now / 65536
  pub other3 : 3 ≤ h → due / 16777216 ≢ now / 16777216
  pub other4 : 4 ≤ h → due / 4294967296 ≢ now / 4294967296

by_tests : {due now : ℕ} → now < due → (a b c d e : Bool) → nat_le due now ≡ a → nat_eq (due / 256) (now / 256) ≡ b
    → nat_eq (due / 65536) (now / 65536) ≡ c
    → nat_eq (due / 16777216) (now / 16777216) ≡ d → nat_eq (due / 4294967296) (now / 4294967296) ≡ e
    → HasHeight due now (if a then 0 else if b then 0 else if c then 1 else if d then 2 else if e then 3 else 4)
by_tests {due} {now} ahead true b c d e ha hb hc hd he = absurd (omega (arith, leb-true due now ha))
by_tests ahead false true c d e ha hb hc hd he =
    let s = eqb-true _ _ hb in
    record {
      few = omega arith;
      same1 = λ h. s;
      same2 = λ h. omega arith;
      same3 = λ h. omega arith;
      same4 = λ h. omega arith;
      other1 = λ h. absurd (omega arith);
      other2 = λ h. absurd (omega arith);
      other3 = λ h. absurd (omega arith);
      other4 = λ h. absurd (omega arith);
    }
by_tests ahead false false true d e ha hb hc hd he =
    let o = eqb-false _ _ hb in
    let s = eqb-true _ _ hc in
    record {
      few = omega arith;
      same1 = λ h. absurd (omega arith);
      same2 = λ h. s;
      same3 = λ h. omega arith;
      same4 = λ h. omega arith;
      other1 = λ h. o;
      other2 = λ h. absurd (omega arith);
      other3 = λ h. absurd (omega arith);
      other4 = λ h. absurd (omega arith);
    }
by_tests ahead false false false true e ha hb hc hd he =
    let o1 = eqb-false _ _ hb in
    let o2 = eqb-false _ _ hc in
    let s = eqb-true _ _ hd in
    record {
      few = omega arith;
      same1 = λ h. absurd (omega arith);
      same2 = λ h. absurd (omega arith);
      same3 = λ h. s;
      same4 = λ h. omega arith;
      other1 = λ h. o1;
      other2 = λ h. o2;
      other3 = λ h. absurd (omega arith);
      other4 = λ h. absurd (omega arith);
    }
by_tests ahead false false false false true ha hb hc hd he =
    record {
      few = omega arith;
      same1 = λ h. absurd (omega arith);
      same2 = λ h. absurd (omega arith);
      same3 = λ h. absurd (omega arith);
      same4 = λ h. (eqb-true _ _ he);
      other1 = λ h. (eqb-false _ _ hb);
      other2 = λ h. (eqb-false _ _ hc);
      other3 = λ h. (eqb-false _ _ hd);
      other4 = λ h. absurd (omega arith);
    }
by_tests ahead false false false false false ha hb hc hd he =
    record {
      few = omega arith;
      same1 = λ h. absurd (omega arith);
      same2 = λ h. absurd (omega arith);
      same3 = λ h. absurd (omega arith);
      same4 = λ h. absurd (omega arith);
      other1 = λ h. (eqb-false _ _ hb);
      other2 = λ h. (eqb-false _ _ hc);
      other3 = λ h. (eqb-false _ _ hd);
      other4 = λ h. (eqb-false _ _ he);
    }

pub has_height : {due now : ℕ} → now < due → HasHeight due now (height due now)
has_height ahead = by_tests ahead _ _ _ _ _ refl refl refl refl refl

-- what has come has height 0
height_come : {due now : ℕ} → due ≤ now → height due now ≡ 0
height_come {due} {now} h = ap (λ b. if b then 0 else if nat_eq (due / 256) (now / 256) then 0 else if nat_eq (due / 65536)
    (now / 65536) then 1 else if nat_eq (due / 16777216) (now / 16777216) then 2 else if nat_eq (due / 4294967296) (now / 4294967296) then
    3 else 4) (let test : nat_le due now ≡ true = grind (arith, nat_tests) in test)

pub height-le : (due now : ℕ) → height due now ≤ 4
height-le due now = elim (cases_lt now due) [
  | inl ahead ↦ (has_height ahead).few
  | inr come ↦ (omega (arith, height_come come))
]

-- no height grows as time goes on
later_by : {due now t : ℕ} (h : ℕ) {k : ℕ} → HasHeight due now h → HasHeight due t k → now ≤ t → t < due → k ≤ h
later_by zero {k} a b later ahead = elim (cases_lt 0 k) [
  | inl more ↦ absurd
      (b.other1 (omega arith) (let e = a.same1 (omega arith) in omega arith))
  | inr le ↦ le
]
later_by (suc zero) {k} a b later ahead = elim (cases_lt 1 k) [
  | inl more ↦ absurd
      (b.other2 (omega arith) (let e = a.same2 (omega arith) in omega arith))
  | inr le ↦ le
]
later_by (suc (suc zero)) {k} a b later ahead = elim (cases_lt 2 k) [
  | inl more ↦ absurd
      (b.other3 (omega arith) (let e = a.same3 (omega arith) in omega arith))
  | inr le ↦ le
]
later_by (suc (suc (suc zero))) {k} a b later ahead =
    elim (cases_lt 3 k) [ inl more ↦ absurd (b.other4 (omega arith) (let e = a.same4 (omega arith) in omega arith)) | inr le ↦ le ]
later_by (suc (suc (suc (suc h)))) a b later ahead = omega arith

pub height_later : (due now t : ℕ) → now ≤ t → t < due → height due t ≤ height due now
height_later due now t later ahead = later_by _ (has_height {due = due} {now = now} (omega arith)) (has_height ahead) later ahead

-- ---- slots and places

slot_by : (n x : ℕ) {level : ℕ} (b : Bool) → level ≤ 5 → nat_lt level 4 ≡ b → (n ≤ (if b then n + (256 * level + x % 256) else n +
    (1020 + level))) × ((if b then n + (256 * level + x % 256) else n + (1020 + level)) < n + 1026)
slot_by n x {level} true few test = (omega arith, (let low : level < 4 = grind (arith, nat_tests) in omega arith))
slot_by n x false few test = (omega arith, omega arith)

-- a slot is a head
pub slot_head : (n tick level : ℕ) → level ≤ 5 → (n ≤ slot n tick level) × (slot n tick level < n + 1026)
unfolding slot
slot_head n tick level few = slot_by n (tick / 2 ^ (8 * level)) _ few refl

-- of two ticks with one digit the slots are one
slot_same : (n tick due level : ℕ) → tick / 2 ^ (8 * level) ≡ due / 2 ^ (8 * level) → slot n tick level ≡ slot n due level
unfolding slot
slot_same n tick due level e = cc

level_at : (n head : ℕ) {level : ℕ} → head ≢ n + 1025 → (head - n) / 256 ≡ level → level_of n head ≡ level
unfolding level_of
level_at n head ne e = ap (λ b. cond b 0 ((head - n) / 256)) (let test : nat_eq head (n + 1025) ≡ false = grind (arith, nat_tests) in test)
    ∙ e

level_by : (n x : ℕ) {level : ℕ} (b : Bool) → level ≤ 4 → nat_lt level 4 ≡ b
    → level_of n (if b then n + (256 * level + x % 256) else n + (1020 + level)) ≡ level
level_by n x {level} true few test =
    let low : level < 4 = grind (arith, nat_tests) in
    level_at n (n + (256 * level + x % 256)) (λ e. absurd (omega arith)) (omega arith)
level_by n x {level} false few test =
    let high : 4 ≤ level = grind (arith, nat_tests) in
    level_at n (n + (1020 + level)) (λ e. absurd (omega arith)) (omega arith)

-- the level of a slot
pub level_slot : (n tick : ℕ) {level : ℕ} → level ≤ 4 → level_of n (slot n tick level) ≡ level
unfolding slot
level_slot n tick {level} few = level_by n (tick / 2 ^ (8 * level)) _ few refl

level_overdue : (n tick : ℕ) → level_of n (slot n tick 5) ≡ 0
unfolding slot level_of
level_overdue n tick = ap (λ b. cond b 0 ((n + 1025 - n) / 256))
    (let test : nat_eq (n + 1025) (n + 1025) ≡ true = grind (arith, nat_tests) in test)

pub overdue_same : (n tick due : ℕ) → slot n tick 5 ≡ slot n due 5
unfolding slot
overdue_same n tick due = refl

pub place_come : (n now due : ℕ) → due ≤ now → place n now due ≡ slot n due 5
unfolding place
place_come n now due h = ap (λ b. if b then slot n due 5 else slot n due (height due now))
    (let test : nat_le due now ≡ true = grind (arith, nat_tests) in test)

pub place_ahead : (n : ℕ) {now due : ℕ} → now < due → place n now due ≡ slot n due (height due now)
unfolding place
place_ahead n {now} {due} h = ap (λ b. if b then slot n due 5 else slot n due (height due now))
    (let test : nat_le due now ≡ false = grind (arith, nat_tests) in test)

-- a place is a head
pub place_head : (n now due : ℕ) → (n ≤ place n now due) × (place n now due < n + 1026)
place_head n now due = elim (cases_lt now due) [
  | inl ahead ↦ (let e = place_ahead n ahead in let h = slot_head n due (height due now) (omega (arith, height-le due now)) in let a =
      h.0 in let b = h.1 in (omega arith, omega arith))
  | inr come ↦ (let e = place_come n now due come in let h = slot_head n due 5 (omega arith) in let a = h.0 in let b = h.1 in
      (omega arith, omega arith))
]

-- the level of a place is the height
pub level_place : (n now due : ℕ) → level_of n (place n now due) ≡ height due now
level_place n now due = elim (cases_lt now due) [
  | inl ahead ↦ cc (place_ahead n ahead, level_slot n due (height-le due now))
  | inr come ↦ cc (place_come n now due come, level_overdue n due, height_come come)
]

-- no level grows as time goes on
pub level_later : (n : ℕ) {now t due : ℕ} → now ≤ t → t < due → level_of n (place n t due) ≤ level_of n (place n now due)
level_later n {now} {t} {due} later ahead = omega (arith, level_place n t due, level_place n now due, height_later due now t later ahead)

same_place : (n : ℕ) {before : ℕ} (tick : ℕ) {due : ℕ} → before < due → tick < due → height due before ≡ height due tick
    → place n before due ≡ place n tick due
same_place n tick was ahead e = cc (place_ahead n was, place_ahead n ahead)

-- what a tick moves to a lower level, or leaves: all that stands on a list that it reaches
pub goes_down : (n before tick due level : ℕ) → before ≤ tick → tick < due → level ≤ 4 → place n before due ≡ slot n tick level
    → GoesDown n tick due (slot n tick level)
unfolding GoesDown
goes_down n before tick due level later ahead few at =
    let was = level_place n before due in
    let own = level_slot n tick few in
    let here : level_of n (place n before due) ≡ level_of n (slot n tick level) = ap (level_of n) at in
    let now_is = level_place n tick due in
    let h = height_later due _ tick later ahead in
    elim (cases_lt (height due tick) level) [
      | inl less ↦ inr (omega arith)
      | inr more ↦ inl (sym (same_place n {before = before} tick (omega arith) ahead (omega arith)) ∙ at)
    ]

-- ---- which lists a tick reaches

pub bit_zero : (x : ℕ) → ((x ≡ 0) × (bit x 0 ≡ 1)) ⊎ ((x ≢ 0) × (bit x 0 ≡ 0))
bit_zero x = elim (cases_eq x 0) [
  | inl e ↦ inl (e, cc (bit_same 0))
  | inr ne ↦ inr (ne, bit_other x 0 ne)
]

bit-le : (x : ℕ) → bit x 0 ≤ 1
bit-le x = elim (bit_zero x) [ inl q ↦ (let e = q.1 in omega arith) | inr q ↦ (omega arith) ]

bit_one : (x : ℕ) → x ≡ 0 → bit x 0 ≡ 1
bit_one x e = elim (bit_zero x) [ inl q ↦ q.1 | inr q ↦ absurd (q.0 e) ]

reach_2 : (tick : ℕ) → tick % 256 ≡ 0 → 2 ≤ reach tick
reach_2 tick e = omega (arith, bit_one _ e)

reach_3 : (tick : ℕ) → tick % 65536 ≡ 0 → 3 ≤ reach tick
reach_3 tick e = omega (arith, bit_one (tick % 256) (omega arith), bit_one _ e)

reach_4 : (tick : ℕ) → tick % 16777216 ≡ 0 → 4 ≤ reach tick
reach_4 tick e = omega (arith, bit_one (tick % 256) (omega arith), bit_one (tick % 65536) (omega arith), bit_one _ e)

reach_5 : (tick : ℕ) → tick % 4294967296 ≡ 0 → 5 ≤ reach tick
reach_5 tick e = omega (
  arith,
  bit_one (tick % 256) (omega arith),
  bit_one (tick % 65536) (omega arith),
  bit_one (tick % 16777216) (omega arith),
  bit_one _ e,
)

pub reach-le : (tick : ℕ) → reach tick ≤ 5
reach-le tick = omega (arith, bit-le (tick % 256), bit-le (tick % 65536), bit-le (tick % 16777216), bit-le (tick % 4294967296))

-- ---- what a tick moves

-- the list of the due tick is one that the tick reaches
pub record Hit (n before tick due : ℕ) : Type 0 where
  pub level : ℕ
  pub few : level < reach tick
  pub at : place n before due ≡ slot n tick level

hit_or_same : (n : ℕ) {before tick due : ℕ} (h : ℕ) → tick ≡ before + 1 → before < due → HasHeight due before h → height due before ≡ h
    → (place n before due ≡ place n tick due) ⊎ Hit n before tick due
hit_or_same n {tick} {due} zero next was a is = elim (cases_eq due tick) [
  | inl q ↦ inr (record { level = 0; few = omega (arith, bit-le (tick % 256)); at = cc (place_ahead n was) })
  | inr ne ↦ inl (
      let le = height_le_0 (height due tick) (has_height (omega arith)) in
      same_place n tick was (omega arith) (omega arith))
] where
  height_le_0 : (k : ℕ) → HasHeight due tick k → k ≤ 0
  height_le_0 k b = elim (cases_lt 0 k) [
    | inl more ↦ absurd (b.other1 (omega arith) (let e = a.same1 (omega arith) in omega arith))
    | inr le ↦ le
  ]
hit_or_same n {before} {tick} {due} (suc zero) next was a is = elim (cases_eq (due / 256) (tick / 256)) [
  | inl q ↦ inr (record {
    level = 1;
    few = omega (arith, reach_2 tick (omega (arith, a.other1 (omega arith))));
    at = cc (place_ahead n was, slot_same n due tick 1 q);
  })
  | inr ne ↦ inl (
      let le = height_later due before tick (omega arith) (omega arith) in
      same_place n tick was (omega arith)
      (elim (cases_lt (height due tick) 1) [ inl less ↦ absurd (ne ((has_height (omega arith)).same1 less)) | inr more ↦ omega arith ]))
]
hit_or_same n {before} {tick} {due} (suc (suc zero)) next was a is = elim (cases_eq (due / 65536) (tick / 65536)) [
  | inl q ↦ inr (record {
    level = 2;
    few = omega (arith, reach_3 tick (omega (arith, a.other2 (omega arith))));
    at = cc (place_ahead n was, slot_same n due tick 2 q);
  })
  | inr ne ↦ inl (
      let le = height_later due before tick (omega arith) (omega arith) in
      same_place n tick was (omega arith)
      (elim (cases_lt (height due tick) 2) [ inl less ↦ absurd (ne ((has_height (omega arith)).same2 less)) | inr more ↦ omega arith ]))
]
hit_or_same n {before} {tick} {due} (suc (suc (suc zero))) next was a is = elim (cases_eq (due / 16777216) (tick / 16777216)) [
  | inl q ↦ inr (record {
    level = 3;
    few = omega (arith, reach_4 tick (omega (arith, a.other3 (omega arith))));
    at = cc (place_ahead n was, slot_same n due tick 3 q);
  })
  | inr ne ↦ inl (
      let le = height_later due before tick (omega arith) (omega arith) in
      same_place n tick was (omega arith)
      (elim (cases_lt (height due tick) 3) [ inl less ↦ absurd (ne ((has_height (omega arith)).same3 less)) | inr more ↦ omega arith ]))
]
hit_or_same n {before} {tick} {due} (suc (suc (suc (suc zero)))) next was a is = elim (cases_eq (due / 4294967296) (tick / 4294967296)) [
  | inl q ↦ inr (record {
    level = 4;
    few = omega (arith, reach_5 tick (omega (arith, a.other4 (omega arith))));
    at = cc (place_ahead n was, slot_same n due tick 4 q);
  })
  | inr ne ↦ inl (
      let le = height_later due before tick (omega arith) (omega arith) in
      same_place n tick was (omega arith)
      (elim (cases_lt (height due tick) 4) [ inl less ↦ absurd (ne ((has_height (omega arith)).same4 less)) | inr more ↦ omega arith ]))
]
hit_or_same n (suc (suc (suc (suc (suc h))))) next was a is = absurd (omega arith)

-- a due tick stands where it did, or on a list that the tick reaches
pub moved_or_same : (n before : ℕ) {tick : ℕ} (due : ℕ) → tick ≡ before + 1
    → (place n before due ≡ place n tick due) ⊎ Hit n before tick due
moved_or_same n before {tick} due next = elim (cases_lt before due) [
  | inl was ↦ hit_or_same n _ next was (has_height was) refl
  | inr come ↦ inl (place_come n _ due come ∙ sym (place_come n tick due (omega arith)))
]
