-- Rings behind any heads: a node is taken out, put in or moved, the lists get other names, and the start.
use Rattle.bfd_levels.proofs.Common.{◌≡◌, ◌≢◌, inl, inr, ℕ, suc, ◌+◌, ◌<◌, ◌≤◌, List, length, sym, ◌∙◌, arith, slice_index, slice_set, refl}
use Rattle.bfd_levels.proofs.Common.{get_or-set_same, get_or-set_other, length-set, cases_lt, lt-ltb, le-ltb, never, Node, IsOn, IsRing}
use Rattle.bfd_levels.proofs.Common.{Unlinks, Links, due_in, next_in, prev_in, IsLinked, head_for, IsPlaced, Relinks, CanMove, TakesOut}
use Rattle.bfd_levels.proofs.Common.{PutsIn, ring_without, ring_with, ring_moved, head_on, id_on, ring_linked, ranked, ranked_own}
use Rattle.bfd_levels.proofs.Common.{ranked_same, ranked_below, start_ranked}

-- ---- the heads of the nodes

pub head_id : (n : ℕ) (at : ℕ → ℕ) (j : ℕ) → j < n → head_for n at j ≡ at j
unfolding head_for
head_id n at j h = cc (lt-ltb j n h)

pub head_own : (n : ℕ) (at : ℕ → ℕ) (j : ℕ) → n ≤ j → head_for n at j ≡ j
unfolding head_for
head_own n at j h = cc (le-ltb j n h)

pub head_same : (n : ℕ) (at at2 : ℕ → ℕ) (j : ℕ) → (j < n → at2 j ≡ at j) → head_for n at2 j ≡ head_for n at j
head_same n at at2 j e = elim (cases_lt j n) [
  | inl near ↦ cc (head_id n at2 j near, e near, head_id n at j near)
  | inr far ↦ head_own n at2 j far ∙ sym (head_own n at j far)
]

-- ---- one id changes: its due tick, its list or both

module _ (n m i : ℕ) (at at2 : ℕ → ℕ) (dues : List ℕ) (nodes nodes2 : List Node) (count : length dues ≡ n) (near : i < n)
    (same : (j : ℕ) → j ≢ i → at2 j ≡ at j) where
  pub out_of : Unlinks i (next_in nodes) (prev_in nodes) (next_in nodes2) (prev_in nodes2)
      → TakesOut i (due_in dues) (head_for n at) (next_in nodes) (prev_in nodes) (due_in (slice_set dues i never)) (head_for n at2)
      (next_in nodes2) (prev_in nodes2)
  out_of u = record {
    gone = get_or-set_same dues i never 0 (omega arith);
    due_same = λ j ne. get_or-set_other dues i j never 0 ne;
    home_same = λ j ne. head_same n at at2 j (λ _. same j ne);
    links = u;
  }

  in_to : (h due top : ℕ) (rank : ℕ → ℕ) → due ≢ never → at2 i ≡ h
      → Links i h (next_in nodes) (prev_in nodes) (next_in nodes2) (prev_in nodes2)
      → PutsIn i h top (due_in dues) (head_for n at) (next_in nodes) (prev_in nodes) rank (due_in (slice_set dues i due)) (head_for n at2)
      (next_in nodes2) (prev_in nodes2) (ranked i top rank)
  in_to h due top rank there own u =
      record {
        on_now = λ e. there (cc ((get_or-set_same dues i due 0 (omega arith))));
        due_same = λ j ne. get_or-set_other dues i j due 0 ne;
        home_own = head_id n at2 i near ∙ own;
        home_same = λ j ne. head_same n at at2 j (λ _. same j ne);
        rank_own = ranked_own i top rank;
        rank_same = ranked_same i top rank;
        links = u;
      }

  -- a node with a due tick is moved to the list of h
  pub ring_relinked : (h top : ℕ) (rank : ℕ → ℕ) → IsRing n (n + m) (due_in dues) (head_for n at) (next_in nodes) (prev_in nodes) rank
      → ((j : ℕ) → rank j < top)
      → slice_index dues i ≢ never → n ≤ h → h < n + m → at2 i ≡ h
      → Relinks i h (next_in nodes) (prev_in nodes) (next_in nodes2) (prev_in nodes2)
      → IsRing n (n + m) (due_in dues) (head_for n at2) (next_in nodes2) (prev_in nodes2) (ranked i top rank)
  ring_relinked h top rank r below there far inside own u =
      let dues1 = slice_set dues i never in
      let gone = get_or-set_same dues i never 0 (omega arith) in
      let due_is : (j : ℕ) → j ≢ i → due_in dues1 j ≡ due_in dues j = λ j ne. get_or-set_other dues i j never 0 ne in
      let mid =
      ring_without n (n + m) i (due_in dues) (head_for n at) (next_in nodes) (prev_in nodes) rank (due_in dues1) (head_for n at) u.next1
      u.prev1 r near (id_on n m dues i near there)
      (record { gone = gone; due_same = due_is; home_same = λ j ne. refl; links = u.out }) in
      ring_with n (n + m) i h top (due_in dues1) (head_for n at) u.next1 u.prev1 rank (due_in dues) (head_for n at2) (next_in nodes2)
      (prev_in nodes2) (ranked i top rank) mid below (omega arith) near gone far
      (head_on n m dues1 h (length-set dues i never ∙ count) far inside) (record {
        on_now = there;
        due_same = λ j ne. sym (due_is j ne);
        home_own = head_id n at2 i near ∙ own;
        home_same = λ j ne. head_same n at at2 j (λ _. same j ne);
        rank_own = ranked_own i top rank;
        rank_same = ranked_same i top rank;
        links = u.into;
      })

-- ---- the rings of a wheel

module _ (n m i : ℕ) (at : ℕ → ℕ) (dues : List ℕ) (nodes : List Node) (w : IsPlaced n m at dues nodes) where
  -- what a node with a due tick is linked to are nodes
  pub linked : i < n → slice_index dues i ≢ never → IsLinked i dues nodes
  linked near there = ring_linked n m i (head_for n at) w.links.rank dues nodes w.links.ring w.count w.size near there

  first_on : (h : ℕ) → n ≤ h → h < n + m → IsOn (n + m) (due_in dues) (next_in nodes h)
  first_on h far inside = w.links.ring.next_on h (head_on n m dues h w.count far inside)

  -- what is first on a list is a node, and no id that is on no list
  pub first_linked : (h : ℕ) → slice_index dues i ≡ never → n ≤ h → h < n + m
      → (next_in nodes h < length nodes) × (next_in nodes h ≢ i)
  first_linked h off far inside =
      let z = w.size in
      let on = first_on h far inside in
      let b = on.below in
      ((omega arith), λ e. on.there (cc))

  -- a node with a due tick may go behind any head
  pub can_move : i < n → slice_index dues i ≢ never → CanMove i m dues nodes
  can_move near there =
      let c = w.count in
      let z = w.size in
      let f = w.few in
      let r = w.links.ring in
      record {
        few = omega arith;
        size = omega arith;
        linked = linked near there;
        alone = λ e. absurd (let same : w.links.rank (next_in nodes i) ≡ w.links.rank i = cc in
            omega (arith, r.falls i near (id_on n m dues i near there)));
        first = λ h far inside. (let b = (first_on h (omega arith) (omega arith)).below in omega arith);
        behind = λ h far inside apart e. apart (cc (r.back h (head_on n m dues h w.count (omega arith) (omega arith))));
      }

  -- the lists get other names
  pub renamed : (at2 : ℕ → ℕ) → ((j : ℕ) → j < n → slice_index dues j ≢ never → at2 j ≡ at j) → IsPlaced n m at2 dues nodes
  renamed at2 same = record {
    few = w.few;
    count = w.count;
    size = w.size;
    links = record {
      rank = w.links.rank;
      top = w.links.top;
      below = w.links.below;
      ring = ring_moved n _ _ _ _ _ _ _ w.links.ring (λ j on. head_same n at at2 j (λ near. same j near on.there)) (head_own n at2);
    };
  }

  module _ (at2 : ℕ → ℕ) (nodes2 : List Node) (near : i < n) (size : length nodes2 ≡ length nodes)
      (same : (j : ℕ) → j ≢ i → at2 j ≡ at j) where
    -- an id loses its due tick
    pub freed : slice_index dues i ≢ never → Unlinks i (next_in nodes) (prev_in nodes) (next_in nodes2) (prev_in nodes2)
        → IsPlaced n m at2 (slice_set dues i never) nodes2
    freed there u = record {
      few = w.few;
      count = length-set dues i never ∙ w.count;
      size = cc;
      links = record {
        rank = w.links.rank;
        top = w.links.top;
        below = w.links.below;
        ring = ring_without n (n + m) i (due_in dues) (head_for n at) (next_in nodes) (prev_in nodes) w.links.rank (due_in
            (slice_set dues i never)) (head_for n at2) (next_in nodes2) (prev_in nodes2) w.links.ring near (id_on n m dues i near there)
            (out_of n m i at at2 dues nodes nodes2 w.count near same u);
      };
    }

    -- an id without one gets a due tick
    pub filled : (h due : ℕ) → slice_index dues i ≡ never → due ≢ never → n ≤ h → h < n + m → at2 i ≡ h
        → Links i h (next_in nodes) (prev_in nodes) (next_in nodes2) (prev_in nodes2) → IsPlaced n m at2 (slice_set dues i due) nodes2
    filled h due off there far inside own u = record {
      few = w.few;
      count = length-set dues i due ∙ w.count;
      size = cc;
      links = record {
        rank = ranked i w.links.top w.links.rank;
        top = suc w.links.top;
        below = ranked_below i _ _ w.links.below;
        ring = ring_with n (n + m) i h w.links.top (due_in dues) (head_for n at) (next_in nodes) (prev_in nodes) w.links.rank
            (due_in (slice_set dues i due)) (head_for n at2) (next_in nodes2) (prev_in nodes2) (ranked i w.links.top w.links.rank)
            w.links.ring w.links.below (omega arith) near off far
            (head_on n m dues h w.count far inside)
            (in_to n m i at at2 dues nodes nodes2 w.count near same h due w.links.top w.links.rank there own u);
      };
    }

    -- an id with a due tick moves to another list
    pub relinked : (h : ℕ) → slice_index dues i ≢ never → n ≤ h → h < n + m → at2 i ≡ h
        → Relinks i h (next_in nodes) (prev_in nodes) (next_in nodes2) (prev_in nodes2) → IsPlaced n m at2 dues nodes2
    relinked h there far inside own u = record {
      few = w.few;
      count = w.count;
      size = cc;
      links = record {
        rank = ranked i w.links.top w.links.rank;
        top = suc w.links.top;
        below = ranked_below i _ _ w.links.below;
        ring = ring_relinked n m i at at2 dues nodes nodes2 w.count near same h w.links.top w.links.rank w.links.ring w.links.below there
            far inside own u;
      };
    }

-- ---- the start

-- each node is linked to itself alone
pub start : (n m : ℕ) (at : ℕ → ℕ) (dues : List ℕ) (nodes : List Node) → n ≤ 65536 → length dues ≡ n
    → ((j : ℕ) → j < n → slice_index dues j ≡ never) → length nodes ≡ n + m → ((j : ℕ) → j < n + m → next_in nodes j ≡ j)
    → ((j : ℕ) → j < n + m → prev_in nodes j ≡ j) → IsPlaced n m at dues nodes
start n m at dues nodes few count none size next prev =
    record { few = few; count = count; size = size; links = start_ranked n m (head_for n at) dues nodes none next prev (head_own n at) }
