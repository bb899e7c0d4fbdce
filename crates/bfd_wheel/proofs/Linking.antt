-- All ids relinked, one after another.
use Rattle.bfd_wheel.proofs.Common.{◌≡◌, ◌≢◌, ℕ, zero, suc, ◌+◌, ◌^◌, ◌<◌, ◌≤◌, List, [], ◌∷◌, length, refl, sym, ap, subst, arith}
use Rattle.bfd_wheel.proofs.Common.{slice_index, slice_set, never, Node, Links, next_in, prev_in, place, IsWheel}
use Rattle.bfd_wheel.specs.Wheel.{first_dues}
use Rattle.bfd_wheel.proofs.Wheels.{filled, start}

-- ---- the due ticks of the first ids

pub length-first_dues : (ds : List ℕ) (k : ℕ) → length (first_dues ds k) ≡ length ds
unfolding first_dues
length-first_dues [] k = refl
length-first_dues (d ∷ ds) zero = ap suc (length-first_dues ds zero)
length-first_dues (d ∷ ds) (suc k) = ap suc (length-first_dues ds k)

-- at first there are none
pub none_first : (ds : List ℕ) (j : ℕ) → j < length ds → slice_index (first_dues ds 0) j ≡ never
unfolding first_dues
none_first [] j near = absurd (omega arith)
none_first (d ∷ ds) zero near = refl
none_first (d ∷ ds) (suc j) near = none_first ds j (omega arith)

-- the next id has none
pub none_next : (ds : List ℕ) (k : ℕ) → k < length ds → slice_index (first_dues ds k) k ≡ never
unfolding first_dues
none_next [] k near = absurd (omega arith)
none_next (d ∷ ds) zero near = refl
none_next (d ∷ ds) (suc k) near = none_next ds k (omega arith)

-- once it has its own, these are the due ticks with one more id
one_more : (ds : List ℕ) (k : ℕ) → k < length ds → slice_set (first_dues ds k) k (slice_index ds k) ≡ first_dues ds (suc k)
unfolding first_dues
one_more [] k near = absurd (omega arith)
one_more (d ∷ ds) zero near = refl
one_more (d ∷ ds) (suc k) near = ap (λ xs. d ∷ xs) (one_more ds k (omega arith))

-- an id without one adds none
none_more : (ds : List ℕ) (k : ℕ) → k < length ds → slice_index ds k ≡ never → first_dues ds k ≡ first_dues ds (suc k)
unfolding first_dues
none_more [] k near off = absurd (omega arith)
none_more (d ∷ ds) zero near off = ap (λ x. x ∷ first_dues ds zero) (sym off)
none_more (d ∷ ds) (suc k) near off = ap (λ xs. d ∷ xs) (none_more ds k (omega arith) off)

pub first_more : (ds : List ℕ) (k : ℕ) → k < length ds → slice_set (first_dues ds k) k (slice_index ds k) ≡ first_dues ds (k + 1)
first_more ds k near =
    let next : suc k ≡ k + 1 = omega arith in
    subst (λ n. slice_set (first_dues ds k) k (slice_index ds k) ≡ first_dues ds n) next (one_more ds k near)

pub first_same : (ds : List ℕ) (k : ℕ) → k < length ds → slice_index ds k ≡ never → first_dues ds k ≡ first_dues ds (k + 1)
first_same ds k near off =
    let next : suc k ≡ k + 1 = omega arith in
    subst (λ n. first_dues ds k ≡ first_dues ds n) next (none_more ds k near off)

-- in the end there are all
pub all_first : (ds : List ℕ) (k : ℕ) → length ds ≤ k → first_dues ds k ≡ ds
unfolding first_dues
all_first [] k past = refl
all_first (d ∷ ds) zero past = absurd (omega arith)
all_first (d ∷ ds) (suc k) past = ap (λ xs. d ∷ xs) (all_first ds k (omega arith))

-- ---- the wheel so far

-- each node is linked to itself alone
pub nothing_put : {now : ℕ} (dues : List ℕ) (nodes : List Node) → length dues ≤ 65536 → now < 2 ^ 60 → length nodes ≡ length dues + 4097
    → ((j : ℕ) → j < length dues + 4097 → next_in nodes j ≡ j) → ((j : ℕ) → j < length dues + 4097 → prev_in nodes j ≡ j)
    → IsWheel (length dues) now (first_dues dues 0) nodes
nothing_put {now} dues nodes few early size next prev = start now (first_dues dues 0) nodes few early (length-first_dues dues 0)
    (none_first dues) size next prev

pub next_put : {now i h : ℕ} (dues : List ℕ) {nodes : List Node} (nodes2 : List Node)
    → IsWheel (length dues) now (first_dues dues i) nodes → i < length dues → slice_index dues i ≢ never
    → h ≡ place (length dues) now (slice_index dues i) → length nodes2 ≡ length nodes
    → Links i h (next_in nodes) (prev_in nodes) (next_in nodes2) (prev_in nodes2)
    → IsWheel (length dues) now (first_dues dues (i + 1)) nodes2
next_put {now} {i} {h} dues {nodes} nodes2 w near there at size u =
    subst (λ ds. IsWheel (length dues) now ds nodes2) (first_more dues i near)
    (filled {due = slice_index dues i} {dues = first_dues dues i} nodes2 w near (none_next dues i near) there size
    (subst (λ k. Links i k (next_in nodes) (prev_in nodes) (next_in nodes2) (prev_in nodes2)) at u))

pub none_put : {now i : ℕ} (dues : List ℕ) {nodes : List Node} → IsWheel (length dues) now (first_dues dues i) nodes → i < length dues
    → slice_index dues i ≡ never → IsWheel (length dues) now (first_dues dues (i + 1)) nodes
none_put {now} {i} dues {nodes} w near off = subst (λ ds. IsWheel (length dues) now ds nodes) (first_same dues i near off) w

pub all_put : {now : ℕ} (i : ℕ) {dues : List ℕ} {nodes : List Node} → IsWheel (length dues) now (first_dues dues i) nodes
    → length dues ≤ i → IsWheel (length dues) now dues nodes
all_put {now} i {dues} {nodes} w past = subst (λ ds. IsWheel (length dues) now ds nodes) (all_first dues i past) w
