-- A walk along one list, which takes off what has come and moves the rest to other lists.
use Rattle.bfd_levels.proofs.Common.{◌≡◌, ◌≢◌, ◌⊎◌, inl, inr, ℕ, suc, ◌+◌, ◌<◌, ◌≤◌, List, length, refl, ◌∙◌, ap, arith, slice_index}
use Rattle.bfd_levels.proofs.Common.{slice_set, get_or-set_same, get_or-set_other, length-set, cases_eq, cases_lt, never, Node, IsOn}
use Rattle.bfd_levels.proofs.Common.{Unlinks, due_in, next_in, prev_in, level_of, loads, head_for, IsPlaced, Relinks, ring_without, head_on}
use Rattle.bfd_levels.proofs.Common.{id_on, ranked, ranked_own, ranked_same, ranked_below}
use Rattle.bfd_wheel.proofs.Walk.{upto, upto-le, upto_one, upto_falls, upto_up}
use Rattle.bfd_levels.proofs.Placing.{head_id, head_own, head_same, out_of, ring_relinked, renamed}
use Rattle.bfd_levels.proofs.Loads.{loads_same, loads_gone, loads_lower}

-- Where an id is in the walk of the list of head. Its list is `at`; before the walk it was `from`, and `to` is where it
-- belongs. It stands on another list, or it is still ahead, or the walk has passed it and it stands where it belongs.
pub data Seen (head t rank edge at from to due : ℕ) : Type 0 where
  elsewhere : at ≡ from → from ≢ head → Seen head t rank edge at from to due
  ahead : at ≡ head → from ≡ head → rank ≤ edge → Seen head t rank edge at from to due
  passed : at ≡ to → from ≡ head → t < due → Seen head t rank edge at from to due

-- the walk stands at cur after i nodes and s steps, and with what the ids still weigh the steps are at most bound
pub record IsWalk (n m head t s bound : ℕ) (from to : ℕ → ℕ) (dues : List ℕ) (nodes : List Node) (cur i : ℕ) : Type 0 where
  pub at : ℕ → ℕ
  pub placed : IsPlaced n m at dues nodes
  pub on : IsOn (n + m) (due_in dues) cur
  pub same : head_for n at cur ≡ head
  pub each : (j : ℕ) → j < n → slice_index dues j ≢ never → Seen head t (placed.links.rank j) (placed.links.rank cur) (at j)
      (from (slice_index dues j)) (to (slice_index dues j)) (slice_index dues j)
  pub left : i + upto placed.links.rank (placed.links.rank cur) n ≤ n
  pub spent : s + loads n at dues ≤ bound

pub walk_begins : {n m head : ℕ} (t s : ℕ) (from to : ℕ → ℕ) {dues : List ℕ} {nodes : List Node}
    → IsPlaced n m (λ j. from (due_in dues j)) dues nodes → n ≤ head → head < n + m
    → IsWalk n m head t s (s + loads n (λ j. from (due_in dues j)) dues) from to dues nodes (next_in nodes head) 0
walk_begins {n} {m} {head} t s from to {dues} {nodes} w far inside =
    let at : ℕ → ℕ = λ j. from (due_in dues j) in
    let on = head_on n m dues head w.count far inside in
    let own = head_own n at head far in
    record {
      at = at;
      placed = w;
      on = w.links.ring.next_on head on;
      same = w.links.ring.next_home head on ∙ own;
      each = λ j near there. elim (cases_eq (at j) head) [
        | inl e ↦ ahead e e (w.links.ring.no_gap head j on (id_on n m dues j near there) (cc (head_id n at j near))
            (λ h. absurd (omega arith)))
        | inr ne ↦ elsewhere refl ne
      ];
      left = (let u = upto-le w.links.rank (w.links.rank (next_in nodes head)) n in omega arith);
      spent = omega arith;
    }

module _ (n m head t s bound : ℕ) (from to : ℕ → ℕ) (dues : List ℕ) (nodes : List Node) (cur i : ℕ)
    (w : IsWalk n m head t s bound from to dues nodes cur i) where
  -- what isn't the head is an id
  pub walk_id : cur ≢ head → cur < n
  walk_id other = elim (cases_lt cur n) [
    | inl near ↦ near
    | inr far ↦ absurd (other (cc (head_own n w.at cur far)))
  ]

  cur_at : cur < n → w.at cur ≡ head
  cur_at near = cc (head_id n w.at cur near)

  -- the node's due tick is one of the list
  pub cur_from : cur < n → from (slice_index dues cur) ≡ head
  cur_from near = elim (w.each cur near w.on.there) [
    | elsewhere e ne ↦ absurd (ne (cc (cur_at near)))
    | ahead a f le ↦ f
    | passed a f more ↦ f
  ]

  next_other : cur < n → next_in nodes cur ≢ cur
  next_other near = λ e. absurd (let same_rank : w.placed.links.rank (next_in nodes cur) ≡ w.placed.links.rank cur = cc in
      omega (arith, w.placed.links.ring.falls cur near w.on))

  -- any other that is ahead is at most as far as the next
  next_seen : cur < n → (j : ℕ) → j < n → j ≢ cur → slice_index dues j ≢ never
      → Seen head t (w.placed.links.rank j) (w.placed.links.rank (next_in nodes cur)) (w.at j) (from (slice_index dues j))
      (to (slice_index dues j)) (slice_index dues j)
  next_seen near j close ne there = elim (w.each j close there) [
    | elsewhere e off ↦ elsewhere e off
    | ahead a f le ↦ ahead a f (w.placed.links.ring.no_gap cur j w.on (id_on n m dues j close there) (cc (head_id n w.at j close))
        (λ _. (let apart : w.placed.links.rank j ≢ w.placed.links.rank cur = λ q. ne (w.placed.links.ring.one j cur q close) in
        omega arith)))
    | passed a f more ↦ passed a f more
  ]

  next_left : cur < n → i + 1 + upto w.placed.links.rank (w.placed.links.rank (next_in nodes cur)) n ≤ n
  next_left near = omega (arith, upto_falls w.placed.links.rank _ _ cur n near refl (w.placed.links.ring.falls cur near w.on), w.left)

  -- a node that belongs where it stands
  pub walk_stays : cur < n → t < slice_index dues cur → to (slice_index dues cur) ≡ head
      → IsWalk n m head t s bound from to dues nodes (next_in nodes cur) (i + 1)
  walk_stays near above stays = record {
    at = w.at;
    placed = w.placed;
    on = w.placed.links.ring.next_on cur w.on;
    same = w.placed.links.ring.next_home cur w.on ∙ w.same;
    each = λ j close there. elim (cases_eq j cur) [
      | inl e ↦ rw e (passed (cc (cur_at near)) (cur_from near) above)
      | inr ne ↦ next_seen near j close ne there
    ];
    left = next_left near;
    spent = w.spent;
  }

  -- a node that is taken: one step
  pub walk_takes : (nodes2 : List Node) → cur < n → length nodes2 ≡ length nodes
      → Unlinks cur (next_in nodes) (prev_in nodes) (next_in nodes2) (prev_in nodes2)
      → IsWalk n m head t (s + 1) bound from to (slice_set dues cur never) nodes2 (next_in nodes cur) (i + 1)
  walk_takes nodes2 near size u =
      let dues2 = slice_set dues cur never in
      let gone = get_or-set_same dues cur never 0 (omega (arith, w.placed.count)) in
      let due_is : (j : ℕ) → j ≢ cur → slice_index dues2 j ≡ slice_index dues j = λ j ne. get_or-set_other dues cur j never 0 ne in
      let other : (j : ℕ) → slice_index dues2 j ≢ never → j ≢ cur = λ j there e. there (cc) in
      let next_on = w.placed.links.ring.next_on cur w.on in
      record {
        at = w.at;
        placed = record {
          few = w.placed.few;
          count = length-set dues cur never ∙ w.placed.count;
          size = cc;
          links = record {
            rank = w.placed.links.rank;
            top = w.placed.links.top;
            below = w.placed.links.below;
            ring = ring_without n (n + m) cur (due_in dues) (head_for n w.at) (next_in nodes) (prev_in nodes) w.placed.links.rank
                (due_in dues2) (head_for n w.at) (next_in nodes2) (prev_in nodes2) w.placed.links.ring near w.on
                (out_of n m cur w.at w.at dues nodes nodes2 w.placed.count near (λ j ne. refl) u);
          };
        };
        on = record { below = next_on.below; there = λ e. next_on.there (cc (due_is (next_in nodes cur) (next_other near))) };
        same = w.placed.links.ring.next_home cur w.on ∙ w.same;
        each = λ j close there. (let ne = other j there in
            rw (due_is j ne) (next_seen near j close ne (λ e. there (due_is j ne ∙ e))));
        left = next_left near;
        spent = (let less = loads_gone n cur w.at w.at dues dues2 near w.on.there gone due_is (λ j ne. refl) in omega (arith, w.spent));
      }

  -- a node that is moved to a lower list: two steps
  pub walk_moves : (nodes2 : List Node) {h : ℕ} → cur < n → t < slice_index dues cur → n ≤ h → h < n + m → h ≡ to (slice_index dues cur)
      → level_of n h < level_of n head
      → length nodes2 ≡ length nodes → Relinks cur h (next_in nodes) (prev_in nodes) (next_in nodes2) (prev_in nodes2)
      → IsWalk n m head t (s + 2) bound from to dues nodes2 (next_in nodes cur) (i + 1)
  walk_moves nodes2 {h} near above far inside is lower size u =
      let at2 = ranked cur h w.at in
      let rank2 = ranked cur w.placed.links.top w.placed.links.rank in
      let at_own = ranked_own cur h w.at in
      let at_same : (j : ℕ) → j ≢ cur → at2 j ≡ w.at j = λ j ne. ranked_same cur h w.at j ne in
      let next_ne = next_other near in
      let rank_next = ranked_same cur w.placed.links.top w.placed.links.rank _ next_ne in
      record {
        at = at2;
        placed = record {
          few = w.placed.few;
          count = w.placed.count;
          size = cc;
          links = record {
            rank = rank2;
            top = suc w.placed.links.top;
            below = ranked_below cur _ _ w.placed.links.below;
            ring = ring_relinked n m cur w.at at2 dues nodes nodes2 w.placed.count near at_same h w.placed.links.top w.placed.links.rank
                w.placed.links.ring w.placed.links.below w.on.there far inside at_own u;
          };
        };
        on = w.placed.links.ring.next_on cur w.on;
        same = cc (
          head_same n w.at at2 (next_in nodes cur) (λ _. at_same (next_in nodes cur) next_ne),
          w.placed.links.ring.next_home cur w.on,
        );
        each = λ j close there. elim (cases_eq j cur) [
          | inl e ↦ rw e (passed (cc) (cur_from near) above)
          | inr ne ↦ elim (next_seen near j close ne there) [
            | elsewhere e off ↦ elsewhere (at_same j ne ∙ e) off
            | ahead a f le ↦ ahead (at_same j ne ∙ a) f (omega (arith, ranked_same cur w.placed.links.top w.placed.links.rank j ne))
            | passed a f more ↦ passed (at_same j ne ∙ a) f more
          ]
        ];
        left = (
            let up = upto_up w.placed.links.rank rank2 (rank2 (next_in nodes cur)) n (λ j. elim (cases_eq j cur) [
              | inl e ↦ (let own : rank2 j ≡ w.placed.links.top = cc (ranked_own cur w.placed.links.top w.placed.links.rank) in
                  omega (arith, w.placed.links.below j))
              | inr ne ↦ (omega (arith, ranked_same cur w.placed.links.top w.placed.links.rank j ne))
            ]) in
            let same_bound : upto w.placed.links.rank (rank2 (next_in nodes cur)) n
            ≡ upto w.placed.links.rank (w.placed.links.rank (next_in nodes cur)) n = cc in
            omega (arith, next_left near));
        spent = omega (
          arith,
          loads_lower n cur w.at at2 dues near w.on.there
              (omega (arith, ap (level_of n) at_own, ap (level_of n) (cur_at near))) at_same,
          w.spent,
        );
      }

  -- a walk that is back at the head, or has made n steps, has passed all of its list
  module _ (after : ℕ → ℕ) (hit : (d : ℕ) → from d ≡ head → after d ≡ to d) (miss : (d : ℕ) → from d ≢ head → after d ≡ from d)
      (far : n ≤ head) (done : (cur ≡ head) ⊎ (n ≤ i)) where
    end_head : n ≤ cur
    end_head = elim done [
      | inl e ↦ omega arith
      | inr steps ↦ elim (cases_lt cur n) [
        | inl near ↦ absurd
            (let one = upto_one w.placed.links.rank (w.placed.links.rank cur) cur n near (omega arith) in let l = w.left in omega arith)
        | inr h ↦ h
      ]
    ]

    none_ahead : {j : ℕ} → j < n → w.placed.links.rank j ≤ w.placed.links.rank cur → ⊥
    none_ahead {j} close le = absurd (omega (arith, w.placed.links.ring.head_rank cur end_head, w.placed.links.ring.id_rank j close))

    end_at : (j : ℕ) → j < n → slice_index dues j ≢ never → after (slice_index dues j) ≡ w.at j
    end_at j close there = elim (w.each j close there) [
      | elsewhere e off ↦ cc (miss (slice_index dues j) off)
      | ahead a f le ↦ absurd (none_ahead close le)
      | passed a f more ↦ cc (hit (slice_index dues j) f)
    ]

    pub walk_placed : IsPlaced n m (λ j. after (due_in dues j)) dues nodes
    walk_placed = renamed n m 0 w.at dues nodes w.placed (λ j. after (due_in dues j)) end_at

    pub walk_spent : s + loads n (λ j. after (due_in dues j)) dues ≤ bound
    walk_spent = (let e = loads_same n w.at (λ j. after (due_in dues j)) dues end_at in omega (arith, w.spent))

    pub walk_left : {j : ℕ} → j < n → slice_index dues j ≢ never → from (slice_index dues j) ≡ head → t < slice_index dues j
    walk_left {j} close there here = elim (w.each j close there) [
      | elsewhere e off ↦ absurd (off here)
      | ahead a f le ↦ absurd (none_ahead close le)
      | passed a f more ↦ more
    ]
