-- What was taken, id by id.
use Rattle.bfd_wheel.proofs.Common.{◌≡◌, ◌≢◌, ◌⊎◌, inl, inr, ℕ, zero, suc, ◌+◌, ◌^◌, ◌<◌, ◌≤◌, List, [], ◌∷◌, ◌++◌, map, length, get_or}
use Rattle.bfd_wheel.proofs.Common.{set, drop, add-one, drop-cons, refl, sym, ◌∙◌, ap, arith, append_assoc, length-append, slice_index}
use Rattle.bfd_wheel.proofs.Common.{slice_set, None, get_or-set_same, get_or-set_other, length-set, get_or_past, get_or_default, append-nil}
use Rattle.bfd_wheel.proofs.Common.{same_lists, get_or-map, length-map, nat_tests, cases_eq, cases_lt, le-leb, lt-leb, never, due_of}
use Rattle.bfd_wheel.proofs.Common.{without, bit, times, counts_due, waiting, Took, come_of}
use Rattle.bfd_wheel.proofs.Walk.{counted, counted_now, counted_not}

pub bit_same : (x : ℕ) → bit x x ≡ 1
bit_same x = grind (arith, nat_tests)

pub bit_other : (x y : ℕ) → x ≢ y → bit x y ≡ 0
bit_other x y ne = grind (arith, nat_tests)

times-append : (x : ℕ) (xs ys : List ℕ) → times x (xs ++ ys) ≡ times x xs + times x ys
times-append x [] ys = omega arith
times-append x (y ∷ xs) ys = omega (arith, times-append x xs ys)

-- ---- what waits

waits_now : {t : ℕ} (dues : List ℕ) {x : ℕ} → x < length dues → slice_index dues x ≤ t → counts_due t dues x ≡ 1
waits_now {t} dues {x} inside h = cc (le-leb (get_or dues x never) t (omega (arith, get_or_default dues x never 0 inside)))

waits_not : {t : ℕ} (dues : List ℕ) (x : ℕ) → t < never → (x < length dues → t < slice_index dues x) → counts_due t dues x ≡ 0
waits_not {t} dues x below h = cc (lt-leb (get_or dues x never) t (elim (cases_lt x (length dues)) [
  | inl inside ↦ (omega (arith, get_or_default dues x never 0 inside, h inside))
  | inr past ↦ (omega (arith, get_or_past dues x never past))
]))

-- what waits is an id whose due tick is at most t
waits_then : {t : ℕ} (dues : List ℕ) (x : ℕ) → t < never → 1 ≤ counts_due t dues x → (x < length dues) × (slice_index dues x ≤ t)
waits_then {t} dues x below h = elim (cases_lt x (length dues)) [
  | inl inside ↦ (
    inside,
    elim (cases_lt t (slice_index dues x)) [
      | inl more ↦ absurd (let none = waits_not dues x below (λ _. more) in omega arith)
      | inr le ↦ le
    ],
  )
  | inr past ↦ absurd (let none = waits_not dues x below (λ inside. absurd (omega arith)) in omega arith)
]

waits_none : (t : ℕ) (dues : List ℕ) → t < never → ((j : ℕ) → j < length dues → slice_index dues j ≢ never → t < slice_index dues j)
    → (x : ℕ) → counts_due t dues x ≡ 0
waits_none t dues below above x = waits_not dues x below
    (λ inside. elim (cases_eq (slice_index dues x) never) [ inl e ↦ omega arith | inr ne ↦ above x inside ne ])

-- where all due ticks that are left are above t, none waits
pub none_waits : (t n : ℕ) (dues : List ℕ) → t < 2 ^ 60 → length dues ≡ n
    → ((j : ℕ) → j < n → slice_index dues j ≢ never → t < slice_index dues j) → (x : ℕ) → counts_due t dues x ≡ 0
none_waits t n dues early count above = waits_none t dues (omega arith) (λ j near there. above j (omega arith) there)

-- where none waits, all due ticks that are left are above t
pub above_all : (t n : ℕ) (dues : List ℕ) → length dues ≡ n → ((x : ℕ) → counts_due t dues x ≡ 0) → (j : ℕ) → j < n
    → slice_index dues j ≢ never → t < slice_index dues j
above_all t n dues count none j near there = elim (cases_lt t (slice_index dues j)) [
  | inl more ↦ more
  | inr le ↦ absurd (omega (arith, waits_now dues (omega arith) le, none j))
]

waits_gone : {t : ℕ} (dues : List ℕ) (i : ℕ) → t < never → counts_due t (slice_set dues i never) i ≡ 0
waits_gone {t} dues i below = cc (lt-leb (get_or (set dues i never) i never) t (elim (cases_lt i (length dues)) [
  | inl inside ↦ (omega (arith, get_or-set_same dues i never never inside))
  | inr past ↦ (let e = get_or_past (set dues i never) i never (omega (arith, length-set dues i never)) in omega arith)
]))

waits_same : (t : ℕ) (dues : List ℕ) {i x : ℕ} → x ≢ i → counts_due t (slice_set dues i never) x ≡ counts_due t dues x
waits_same t dues {i} {x} ne = cc (get_or-set_other dues i x never never ne)

pub waiting-set : (t : ℕ) (dues : List ℕ) (i : ℕ) → i < length dues → slice_index dues i ≤ t → t < never
    → 1 + waiting t (set dues i never) ≡ waiting t dues
waiting-set t [] i inside h below = absurd (omega arith)
waiting-set t (d ∷ ds) zero inside h below = omega (arith, counted_now d t h, counted_not _ t below)
waiting-set t (d ∷ ds) (suc i) inside h below = omega (arith, waiting-set t ds i (omega arith) h below)

pub waiting-le : (t : ℕ) (dues : List ℕ) → waiting t dues ≤ length dues
waiting-le t [] = omega arith
waiting-le t (d ∷ ds) = omega (arith, counted d t, waiting-le t ds)

pub waiting_one : (t : ℕ) (dues : List ℕ) (i : ℕ) → i < length dues → slice_index dues i ≤ t → 1 ≤ waiting t dues
waiting_one t [] i inside h = absurd (omega arith)
waiting_one t (d ∷ ds) zero inside h = omega (arith, counted_now d t h)
waiting_one t (d ∷ ds) (suc i) inside h = omega (arith, waiting_one t ds i (omega arith) h)

-- ---- what was taken

pub took_none : (t : ℕ) (dues items : List ℕ) → Took t dues dues items items
took_none t dues items = record {
  taken = [];
  appended = sym (append-nil items);
  each = λ x. omega arith;
  total = omega arith;
  same_or_gone = λ j. inl refl;
}

took_one : {t : ℕ} (dues items : List ℕ) {i : ℕ} → i < length dues → slice_index dues i ≤ t → t < never
    → Took t dues (slice_set dues i never) items (items ++ i ∷ [])
took_one {t} dues items {i} inside h below = record {
  taken = i ∷ [];
  appended = refl;
  each = λ x. elim (cases_eq x i) [
    | inl e ↦ (let one : bit x i ≡ 1 = cc (bit_same i) in
        let gone : counts_due t (slice_set dues i never) x ≡ 0 = cc (waits_gone dues i below) in
        let was : counts_due t dues x ≡ 1 = cc (waits_now dues inside h) in
        omega arith)
    | inr ne ↦ (let none = bit_other x i ne in omega (arith, waits_same t dues ne))
  ];
  total = omega (arith, waiting-set t dues i inside h below);
  same_or_gone = λ j. elim (cases_eq j i) [
    | inl e ↦ inr (cc (get_or-set_same dues i never 0 inside), (let at : get_or dues j 0 ≡ get_or dues i 0 = cc in omega arith))
    | inr ne ↦ inl (get_or-set_other dues i j never 0 ne)
  ];
}

-- the same of what a call wrote
pub took_id : (t : ℕ) (dues dues2 items items2 : List ℕ) (i : ℕ) → i < length dues → slice_index dues i ≤ t → t < never
    → dues2 ≡ slice_set dues i never → items2 ≡ items ++ i ∷ [] → Took t dues dues2 items items2
took_id t dues dues2 items items2 i inside h below due_is item_is = rw due_is (rw item_is (took_one dues items inside h below))

pub took_then : (t : ℕ) (dues dues2 dues3 items items2 items3 : List ℕ) → Took t dues dues2 items items2 → Took t dues2 dues3 items2 items3
    → Took t dues dues3 items items3
took_then t dues dues2 dues3 items items2 items3 a b = record {
  taken = a.taken ++ b.taken;
  appended = cc (append_assoc items a.taken b.taken);
  each = λ x. (omega (arith, a.each x, b.each x, times-append x a.taken b.taken));
  total = omega (arith, a.total, b.total, length-append a.taken b.taken);
  same_or_gone = λ j. elim (b.same_or_gone j) [
    | inl e ↦ elim (a.same_or_gone j) [ inl f ↦ inl (e ∙ f) | inr f ↦ inr (cc, f.1) ]
    | inr g ↦ elim (a.same_or_gone j) [ inl f ↦ inr (g.0, (let l = g.1 in omega arith)) | inr f ↦ inr (g.0, f.1) ]
  ];
}

-- ---- the due ticks that are left

kept_one : {t d : ℕ} → t < never → t < d → due_of d ≡ without t (due_of d)
kept_one {t} {d} below above = sym (cc (come_of t d below, lt-leb d t above))

gone_one : {t d : ℕ} → t < never → d ≤ t → None ≡ without t (due_of d)
gone_one {t} {d} below le = sym (cc (come_of t d below, le-leb d t le))

left_one : {t : ℕ} (dues dues2 : List ℕ) {k : ℕ} → t < never → k < length dues2
    → (slice_index dues2 k ≡ slice_index dues k) ⊎ ((slice_index dues2 k ≡ never) × (slice_index dues k ≤ t)) → counts_due t dues2 k ≡ 0
    → due_of (slice_index dues2 k) ≡ without t (due_of (slice_index dues k))
left_one {t} dues dues2 {k} below inside same_or_gone none = elim same_or_gone [
  | inl e ↦ elim (cases_lt t (slice_index dues2 k)) [
    | inl above ↦ cc (kept_one below above)
    | inr le ↦ absurd (omega (arith, waits_now dues2 inside le))
  ]
  | inr g ↦ cc (gone_one below g.1)
]

-- where each due tick is as before or gone, and none waits, those at most t are gone
pub left_is : (t : ℕ) (dues dues2 : List ℕ) → t < never → length dues2 ≡ length dues
    → ((j : ℕ) → (slice_index dues2 j ≡ slice_index dues j) ⊎ ((slice_index dues2 j ≡ never) × (slice_index dues j ≤ t)))
    → ((x : ℕ) → counts_due t dues2 x ≡ 0) → map due_of dues2 ≡ map (without t) (map due_of dues)
left_is t dues dues2 below len same_or_gone none =
    same_lists (map due_of dues2) (map (without t) (map due_of dues))
    (cc (length-map dues2 due_of, length-map dues due_of, length-map (map due_of dues) (without t)))
    (λ k d h.
    let near : k < length dues2 = omega (arith, length-map dues2 due_of) in
    cc (
      get_or-map due_of dues2 k 0 d near,
      left_one dues dues2 below near (same_or_gone k) (none k),
      get_or-map (without t) (map due_of dues) k None d (omega (arith, length-map dues due_of)),
      get_or-map due_of dues k 0 None (omega arith),
    ))

-- ---- ids that are taken off one by one

pub ids_first : (t i id : ℕ) (ids dues : List ℕ) → t < never → i < length ids → get_or ids i 0 ≡ id
    → ((x : ℕ) → times x (drop i ids) ≡ counts_due t dues x) → (id < length dues) × (slice_index dues id ≤ t)
ids_first t i id ids dues below near at each =
    let here : times id (drop i ids) ≡ bit id (get_or ids i 0) + times id (drop (suc i) ids) = cc (drop-cons ids i 0 near) in
    let one : bit id (get_or ids i 0) ≡ 1 = ap (bit id) at ∙ bit_same id in
    let w = each id in
    waits_then dues id below (omega arith)

pub ids_rest : (t i id : ℕ) (ids dues dues2 : List ℕ) → t < never → i < length ids → get_or ids i 0 ≡ id → ((x : ℕ) → times x (drop i ids)
    ≡ counts_due t dues x) → dues2 ≡ slice_set dues id never → (x : ℕ) → times x (drop (i + 1) ids) ≡ counts_due t dues2 x
ids_rest t i id ids dues dues2 below near at each gone x =
    let first = ids_first t i id ids dues below near at each in
    let here : times x (drop i ids) ≡ bit x (get_or ids i 0) + times x (drop (suc i) ids) = cc (drop-cons ids i 0 near) in
    let next : times x (drop (i + 1) ids) ≡ times x (drop (suc i) ids) = cc (add-one i) in
    let w = each x in
    let now_is : counts_due t dues2 x ≡ counts_due t (slice_set dues id never) x = cc in
    elim (cases_eq x id) [
      | inl e ↦ (let one : bit x (get_or ids i 0) ≡ 1 = ap (bit x) (at ∙ sym e) ∙ bit_same x in
          let was : counts_due t dues x ≡ 1 = cc (waits_now dues first.0 first.1) in
          let is : counts_due t (slice_set dues id never) x ≡ 0 = cc (waits_gone dues id below) in
          omega arith)
      | inr ne ↦ (let none : bit x (get_or ids i 0) ≡ 0 = ap (bit x) at ∙ bit_other x id ne in
          omega (arith, waits_same t dues ne))
    ]

pub same_or_gone_on : (t id : ℕ) (dues0 dues dues2 : List ℕ) → id < length dues → slice_index dues id ≤ t → t < never → dues2 ≡ slice_set
    dues id never → ((j : ℕ) → (slice_index dues j ≡ slice_index dues0 j) ⊎ ((slice_index dues j ≡ never) × (slice_index dues0 j ≤ t)))
    → (j : ℕ) → (slice_index dues2 j ≡ slice_index dues0 j) ⊎ ((slice_index dues2 j ≡ never) × (slice_index dues0 j ≤ t))
same_or_gone_on t id dues0 dues dues2 inside le below gone before j = elim (cases_eq j id) [
  | inl e ↦ inr (
    cc (get_or-set_same dues id never 0 inside),
    elim (before j) [
      | inl same ↦ (let at : get_or dues j 0 ≡ get_or dues id 0 = cc in omega arith)
      | inr g ↦ g.1
    ],
  )
  | inr ne ↦ (let is : slice_index dues2 j ≡ slice_index dues j = cc (get_or-set_other dues id j never 0 ne) in
      elim (before j) [ inl same ↦ inl (is ∙ same) | inr g ↦ inr (cc, g.1) ])
]
