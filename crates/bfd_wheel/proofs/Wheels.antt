-- The wheel after a node is taken out, after one is put in, when its time moves, and at the start.
use Rattle.bfd_wheel.proofs.Common.{◌≡◌, ◌≢◌, inl, inr, ℕ, suc, ◌+◌, ◌%◌, ◌^◌, ◌<◌, ◌≤◌, Bool, true, false, cond, List, length, sym, ◌∙◌}
use Rattle.bfd_wheel.proofs.Common.{ap, arith, nat_lt, nat_le, nat_eq, slice_index, slice_set, get_or-set_same, get_or-set_other}
use Rattle.bfd_wheel.proofs.Common.{length-set, get_or_past, nat_tests, cases_eq, cases_lt, lt-ltb, le-ltb, never, Node, IsOn, IsRing}
use Rattle.bfd_wheel.proofs.Common.{IsRanked, Unlinks, Links, due_in, next_in, prev_in, place, home, IsWheel, IsLinked}
use Rattle.bfd_wheel.proofs.Rings.{TakesOut, ring_without, ring_with, ring_moved}

-- ---- the list of a node

pub home_id : {n : ℕ} (now : ℕ) (due : ℕ → ℕ) {j : ℕ} → j < n → home n now due j ≡ place n now (due j)
unfolding home
home_id {n} now due {j} h = cc (lt-ltb j n h)

pub home_head : {n : ℕ} (now : ℕ) (due : ℕ → ℕ) (j : ℕ) → n ≤ j → home n now due j ≡ j
unfolding home
home_head {n} now due j h = cc (le-ltb j n h)

pub home_same : (n now : ℕ) (due due2 : ℕ → ℕ) {j : ℕ} → due2 j ≡ due j → home n now due2 j ≡ home n now due j
unfolding home
home_same n now due due2 e = cc

place_by : (n due : ℕ) (b : Bool) → (n ≤ cond b (n + 4096) (n + due % 4096)) × (cond b (n + 4096) (n + due % 4096) < n + 4097)
place_by n due true = (omega arith, omega arith)
place_by n due false = (omega arith, omega arith)

-- a place is a head
place_head : (n now due : ℕ) → (n ≤ place n now due) × (place n now due < n + 4097)
place_head n now due = place_by n due (nat_le due now)

-- a head is on its list, of so many
pub head_on : (n m : ℕ) (dues : List ℕ) (h : ℕ) → length dues ≡ n → n ≤ h → h < n + m → IsOn (n + m) (due_in dues) h
head_on n m dues h count far near = record {
  below = near;
  there = λ e. absurd (let zero_there = get_or_past dues h 0 (omega arith) in omega arith);
}

pub id_on : (n m : ℕ) (dues : List ℕ) (j : ℕ) → j < n → slice_index dues j ≢ never → IsOn (n + m) (due_in dues) j
id_on n m dues j near there = record { below = omega arith; there = there }

-- ---- a node is taken out

pub out_of : {n : ℕ} (now : ℕ) {i : ℕ} (dues : List ℕ) (nodes nodes2 : List Node) → length dues ≡ n → i < n → Unlinks i (next_in nodes)
    (prev_in nodes) (next_in nodes2) (prev_in nodes2) → TakesOut i (due_in dues) (home n now (due_in dues)) (next_in nodes) (prev_in nodes)
    (due_in (slice_set dues i never)) (home n now (due_in (slice_set dues i never))) (next_in nodes2) (prev_in nodes2)
out_of {n} now {i} dues nodes nodes2 count id u = record {
  gone = get_or-set_same dues i never 0 (omega arith);
  due_same = λ j ne. get_or-set_other dues i j never 0 ne;
  home_same = λ j ne. home_same n now (due_in dues) (due_in (slice_set dues i never)) (get_or-set_other dues i j never 0 ne);
  links = u;
}

pub freed : {n now i : ℕ} {dues : List ℕ} {nodes : List Node} (nodes2 : List Node) → IsWheel n now dues nodes → i < n
    → slice_index dues i ≢ never → length nodes2 ≡ length nodes
    → Unlinks i (next_in nodes) (prev_in nodes) (next_in nodes2) (prev_in nodes2) → IsWheel n now (slice_set dues i never) nodes2
freed {n} {now} {i} {dues} {nodes} nodes2 w id there size u = record {
  few = w.few;
  early = w.early;
  count = length-set dues i never ∙ w.count;
  size = cc;
  links = record {
    rank = w.links.rank;
    top = w.links.top;
    below = w.links.below;
    ring = ring_without n (n + 4097) i (due_in dues) (home n now (due_in dues)) (next_in nodes) (prev_in nodes) w.links.rank
        (due_in (slice_set dues i never)) (home n now (due_in (slice_set dues i never))) (next_in nodes2) (prev_in nodes2) w.links.ring id
        (id_on n 4097 dues i id there) (out_of now dues nodes nodes2 w.count id u);
  };
}

-- what a node with a due tick is linked to are nodes
pub ring_linked : (n m i : ℕ) (at rank : ℕ → ℕ) (dues : List ℕ) (nodes : List Node) → IsRing n (n + m) (due_in dues) at (next_in nodes)
    (prev_in nodes) rank → length dues ≡ n → length nodes ≡ n + m → i < n → slice_index dues i ≢ never → IsLinked i dues nodes
ring_linked n m i at rank dues nodes ring count size id there =
    let on = id_on n m dues i id there in
    let f = (ring.next_on i on).below in
    let b = (ring.prev_on i on).below in
    record { inside = omega arith; node = omega arith; due = there; next = omega arith; prev = omega arith }

pub linked : {n now i : ℕ} {dues : List ℕ} {nodes : List Node} → IsWheel n now dues nodes → i < n → slice_index dues i ≢ never
    → IsLinked i dues nodes
linked {n} {now} {i} {dues} {nodes} w id there = ring_linked n 4097 i (home n now (due_in dues)) w.links.rank dues nodes w.links.ring
    w.count w.size id there

-- what is first on a list is a node, and no id that is on no list
pub first_linked : {n now : ℕ} (i : ℕ) {h : ℕ} {dues : List ℕ} {nodes : List Node} → IsWheel n now dues nodes → slice_index dues i ≡ never
    → n ≤ h → h < n + 4097 → (next_in nodes h < length nodes) × (next_in nodes h ≢ i)
first_linked {n} i {h} {dues} w off far near =
    let on = w.links.ring.next_on h (head_on n 4097 dues h w.count far near) in
    ((omega arith), λ e. on.there (cc))

-- ---- a node is put in

-- the ranks with the new node on top
abbrev pub ranked : ℕ → ℕ → (ℕ → ℕ) → ℕ → ℕ
ranked i top rank j = cond (nat_eq j i) top (rank j)

pub ranked_own : (i top : ℕ) (rank : ℕ → ℕ) → ranked i top rank i ≡ top
ranked_own i top rank = ap (λ b. cond b top (rank i)) (let same : nat_eq i i ≡ true = grind (arith, nat_tests) in same)

pub ranked_same : (i top : ℕ) (rank : ℕ → ℕ) (j : ℕ) → j ≢ i → ranked i top rank j ≡ rank j
ranked_same i top rank j ne = ap (λ b. cond b top (rank j)) (let other : nat_eq j i ≡ false = grind (arith, nat_tests) in other)

pub ranked_below : (i top : ℕ) (rank : ℕ → ℕ) → ((j : ℕ) → rank j < top) → (j : ℕ) → ranked i top rank j < suc top
ranked_below i top rank below j = elim (cases_eq j i) [
  | inl e ↦ (let own : ranked i top rank j ≡ top = cc (ranked_own i top rank) in omega arith)
  | inr ne ↦ (let own = ranked_same i top rank j ne in omega (arith, below j))
]

pub filled : {n now i due : ℕ} {dues : List ℕ} {nodes : List Node} (nodes2 : List Node) → IsWheel n now dues nodes → i < n
    → slice_index dues i ≡ never → due ≢ never → length nodes2 ≡ length nodes → Links i (place n now due) (next_in nodes) (prev_in nodes)
    (next_in nodes2) (prev_in nodes2) → IsWheel n now (slice_set dues i due) nodes2
filled {n} {now} {i} {due} {dues} {nodes} nodes2 w id off there size u = record {
  few = w.few;
  early = w.early;
  count = length-set dues i due ∙ w.count;
  size = cc;
  links = record {
    rank = ranked i w.links.top w.links.rank;
    top = suc w.links.top;
    below = ranked_below i _ _ w.links.below;
    ring = ring_with n (n + 4097) i (place n now due) w.links.top (due_in dues) (home n now (due_in dues)) (next_in nodes) (prev_in nodes)
        w.links.rank (due_in (slice_set dues i due)) (home n now (due_in (slice_set dues i due))) (next_in nodes2) (prev_in nodes2)
        (ranked i w.links.top w.links.rank) w.links.ring w.links.below (omega arith) id off (place_head n now due).0
        (head_on n 4097 dues _ w.count (place_head n now due).0 (place_head n now due).1)
        (let own = get_or-set_same dues i due 0 (omega (arith, w.count)) in
        record {
          on_now = λ e. there (cc);
          due_same = λ j ne. get_or-set_other dues i j due 0 ne;
          home_own = cc (home_id now (due_in (slice_set dues i due)) id);
          home_same = λ j ne. home_same n now (due_in dues) (due_in (slice_set dues i due)) (get_or-set_other dues i j due 0 ne);
          rank_own = ranked_own i w.links.top w.links.rank;
          rank_same = ranked_same i w.links.top w.links.rank;
          links = u;
        });
  };
}

-- ---- time moves

-- a due tick above t keeps its slot when the time reaches t
place_moved : (n : ℕ) {now t due : ℕ} → t < due → now ≤ t → place n t due ≡ place n now due
place_moved n {now} {t} {due} above later =
    ap (λ b. cond b (n + 4096) (n + due % 4096)) (let same : nat_le due t ≡ nat_le due now = grind (arith, nat_tests) in same)

pub moved : {n now t : ℕ} {dues : List ℕ} {nodes : List Node} → IsWheel n now dues nodes → now ≤ t → t < 2 ^ 60
    → ((j : ℕ) → j < n → slice_index dues j ≢ never → t < slice_index dues j) → IsWheel n t dues nodes
moved {n} {now} {t} {dues} {nodes} w later early above = record {
  few = w.few;
  early = early;
  count = w.count;
  size = w.size;
  links = record {
    rank = w.links.rank;
    top = w.links.top;
    below = w.links.below;
    ring = ring_moved n _ _ _ _ _ _ (home n t (due_in dues)) w.links.ring (λ j on. elim (cases_lt j n) [
      | inl near ↦ cc (home_id t (due_in dues) near, place_moved n (above j near on.there) later, home_id now (due_in dues) near)
      | inr far ↦ home_head t (due_in dues) j far ∙ sym (home_head now (due_in dues) j far)
    ]) (λ j far. home_head t (due_in dues) j far);
  };
}

-- ---- the start

start_rank : ℕ → ℕ → ℕ
start_rank n j = cond (nat_lt j n) (suc j) 0

start_id : {n j : ℕ} → j < n → start_rank n j ≡ suc j
unfolding start_rank
start_id {n} {j} h = cc (lt-ltb j n h)

start_head : {n : ℕ} (j : ℕ) → n ≤ j → start_rank n j ≡ 0
unfolding start_rank
start_head {n} j h = cc (le-ltb j n h)

start_below : (n j : ℕ) → start_rank n j < n + 1
start_below n j = elim (cases_lt j n) [
  | inl near ↦ (omega (arith, start_id near))
  | inr far ↦ (omega (arith, start_head j far))
]

start_one : (n j k : ℕ) → start_rank n j ≡ start_rank n k → j < n → j ≡ k
start_one n j k same near = elim (cases_lt k n) [
  | inl close ↦ (omega (arith, start_id near, start_id close))
  | inr far ↦ absurd (omega (arith, start_id near, start_head k far))
]

-- each node is linked to itself alone
pub start_ranked : (n m : ℕ) (at : ℕ → ℕ) (dues : List ℕ) (nodes : List Node) → ((j : ℕ) → j < n → slice_index dues j ≡ never)
    → ((j : ℕ) → j < n + m → next_in nodes j ≡ j) → ((j : ℕ) → j < n + m → prev_in nodes j ≡ j) → ((j : ℕ) → n ≤ j → at j ≡ j)
    → IsRanked n (n + m) (due_in dues) at (next_in nodes) (prev_in nodes)
start_ranked n m at dues nodes none next prev own =
    let far : (j : ℕ) → IsOn (n + m) (due_in dues) j
    → n ≤ j = λ j on. elim (cases_lt j n) [ inl near ↦ absurd (on.there (none j near)) | inr h ↦ h ] in
    record {
      rank = start_rank n;
      top = n + 1;
      below = start_below n;
      ring = record {
        next_on = λ j on. rw (next j on.below) on;
        prev_on = λ j on. rw (prev j on.below) on;
        next_home = λ j on. ap at (next j on.below);
        prev_home = λ j on. ap at (prev j on.below);
        back = λ j on. cc (next j on.below, prev j on.below);
        forth = λ j on. cc (prev j on.below, next j on.below);
        head_home = own;
        head_rank = start_head {n = n};
        id_rank = λ j near. (omega (arith, start_id near));
        falls = λ j near on. absurd (on.there (none j near));
        one = start_one n;
        no_gap = λ c j onc on same under. (omega (arith, start_head j (far j on)));
      };
    }

pub start : {n : ℕ} (now : ℕ) (dues : List ℕ) (nodes : List Node) → n ≤ 65536 → now < 2 ^ 60 → length dues ≡ n
    → ((j : ℕ) → j < n → slice_index dues j ≡ never) → length nodes ≡ n + 4097 → ((j : ℕ) → j < n + 4097 → next_in nodes j ≡ j)
    → ((j : ℕ) → j < n + 4097 → prev_in nodes j ≡ j) → IsWheel n now dues nodes
start {n} now dues nodes few early count none size next prev =
    record {
      few = few;
      early = early;
      count = count;
      size = size;
      links = start_ranked n 4097 (home n now (due_in dues)) dues nodes none next prev (home_head {n = n} now (due_in dues));
    }
