-- The lowest of a list of numbers after one was written, and after all that had come was taken.
use Rattle.bfd_levels.proofs.Common.{◌≡◌, ◌≢◌, inl, inr, ℕ, zero, suc, ◌<◌, ◌≤◌, List, [], ◌∷◌, map, length, refl, sym, ◌∙◌, ap, arith}
use Rattle.bfd_levels.proofs.Common.{cases_lt, slice_index, slice_set, None, Some, due_of, without, never}
use Rattle.std.specs.Prelude.{min}
use Rattle.std.proofs.Common.{cond, replicate}
use Rattle.std.proofs.lemmas.Bool.{lt-leb, le-leb}
use Rattle.std.proofs.lemmas.Bool.Decides.{eqb_tells}
use Rattle.bfd_lanes.specs.Places.{lowest}
use Rattle.bfd_lanes.proofs.Scanned.{come_of}

-- ---- one number is written

pub lowest_least : (ds : List ℕ) (i x : ℕ) → min x (lowest ds) ≤ lowest (slice_set ds i x)
lowest_least [] i x = omega arith
lowest_least (d ∷ ds) zero x = omega arith
lowest_least (d ∷ ds) (suc i) x = omega (arith, lowest_least ds i x)

lowest_most : (ds : List ℕ) (i x : ℕ) → i < length ds → lowest (slice_set ds i x) ≤ x
lowest_most [] i x inside = absurd (omega arith)
lowest_most (d ∷ ds) zero x inside = omega arith
lowest_most (d ∷ ds) (suc i) x inside = omega (arith, lowest_most ds i x (omega arith))

-- what isn't above the lowest is the lowest then
pub lower_written : (ds : List ℕ) (i x : ℕ) → i < length ds → x ≤ lowest ds → lowest (slice_set ds i x) ≡ x
lower_written ds i x inside le = omega (arith, lowest_least ds i x, lowest_most ds i x inside)

-- the lowest is that of another id
lowest_other : (ds : List ℕ) (i x : ℕ) → slice_index ds i ≢ lowest ds → i < length ds → lowest (slice_set ds i x) ≤ lowest ds
lowest_other [] i x ne inside = absurd (omega arith)
lowest_other (d ∷ ds) zero x ne inside = omega arith
lowest_other (d ∷ ds) (suc i) x ne inside = elim (cases_lt (lowest ds) d) [
  | inl rest ↦ omega (arith, lowest_other ds i x (λ e. ne (omega arith)) (omega arith))
  | inr own ↦ omega arith
]

-- where a later one comes in place of one that wasn't the lowest, the lowest stays
pub other_written : (ds : List ℕ) (i x : ℕ) → i < length ds → lowest ds < x → slice_index ds i ≢ lowest ds
    → lowest (slice_set ds i x) ≡ lowest ds
other_written ds i x inside later ne = omega (arith, lowest_least ds i x, lowest_other ds i x ne inside)

-- ---- what had come was taken

pub due_of_one : (d e : ℕ) → due_of d ≡ due_of e → d ≡ e
due_of_one d e same = elim (eqb_tells d never) [
  | inl p ↦ elim (eqb_tells e never) [
    | inl q ↦ cc
    | inr q ↦ absurd (let none : None ≡ Some e = sym (ap (λ b. cond b None (Some d)) p.0) ∙ same ∙ ap (λ b. cond b None (Some e)) q.0 in cc)
  ]
  | inr p ↦ elim (eqb_tells e never) [
    | inl q ↦ absurd (let some : Some d ≡ None = sym (ap (λ b. cond b None (Some d)) p.0) ∙ same ∙ ap (λ b. cond b None (Some e)) q.0 in cc)
    | inr q ↦ (let both : Some d ≡ Some e = sym (ap (λ b. cond b None (Some d)) p.0) ∙ same ∙ ap (λ b. cond b None (Some e)) q.0 in cc)
  ]
]

pub due_some : (m x : ℕ) → due_of m ≡ Some x → x ≡ m
due_some m x is = elim (eqb_tells m never) [
  | inl p ↦ absurd (let none : None ≡ Some x = sym (ap (λ b. cond b None (Some m)) p.0) ∙ is in cc)
  | inr p ↦ (let some : Some m ≡ Some x = sym (ap (λ b. cond b None (Some m)) p.0) ∙ is in cc)
]

pub due_none : (m : ℕ) → due_of m ≡ None → never ≡ m
due_none m is = elim (eqb_tells m never) [
  | inl p ↦ sym p.1
  | inr p ↦ absurd (let some : Some m ≡ None = sym (ap (λ b. cond b None (Some m)) p.0) ∙ is in cc)
]

kept : (t d : ℕ) → t < never → t < d → without t (due_of d) ≡ due_of d
kept t d below above = cc (come_of t d below, lt-leb d t above)

-- nothing was
pub none_taken : (t : ℕ) (ds es : List ℕ) → t < never → t < lowest ds → map due_of es ≡ map (without t) (map due_of ds)
    → lowest es ≡ lowest ds
none_taken t [] [] below later same = refl
none_taken t [] (e ∷ es) below later same = absurd (cc)
none_taken t (d ∷ ds) [] below later same = absurd (cc)
none_taken t (d ∷ ds) (e ∷ es) below later same =
    let keeps = kept t d below (omega arith) in
    let one : due_of e ≡ due_of d = cc in
    let here = due_of_one e d one in
    let rest = none_taken t ds es below (omega arith) (cc) in
    omega arith

taken_later : (t d e : ℕ) → t < never → due_of e ≡ without t (due_of d) → d ≤ e
taken_later t d e below same = elim (cases_lt t d) [
  | inl above ↦ (let one = due_of_one e d (same ∙ kept t d below above) in omega arith)
  | inr come ↦ (let gone = due_none e (same ∙ cc (come_of t d below, le-leb d t come)) in omega arith)
]

-- what is left isn't below the lowest
pub left_later : (t : ℕ) (ds es : List ℕ) → t < never → map due_of es ≡ map (without t) (map due_of ds) → lowest ds ≤ lowest es
left_later t [] [] below same = omega arith
left_later t [] (e ∷ es) below same = absurd (cc)
left_later t (d ∷ ds) [] below same = absurd (cc)
left_later t (d ∷ ds) (e ∷ es) below same =
    let one : due_of e ≡ without t (due_of d) = cc in
    let here = taken_later t d e below one in
    let rest = left_later t ds es below (cc) in
    omega arith

-- ---- at the start

-- at the start there is none
all_never : (n : ℕ) → lowest (replicate n never) ≡ never
all_never zero = refl
all_never (suc n) = omega (arith, all_never n)

pub none_lowest : (n : ℕ) (ds : List ℕ) → ds ≡ replicate n never → never ≡ lowest ds
none_lowest n ds e = sym (ap lowest e ∙ all_never n)
