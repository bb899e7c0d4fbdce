-- Taking a node out of its ring, putting one in behind a head, and renaming the lists.
use Rattle.bfd_wheel.proofs.Common.{◌≡◌, ◌≢◌, inl, inr, ℕ, ◌<◌, ◌≤◌, sym, ◌∙◌, ap, subst, arith, cases_eq, cases_lt, never, IsOn, IsRing}
use Rattle.bfd_wheel.proofs.Common.{Unlinks, Links}

-- the id i leaves its list
pub record TakesOut (i : ℕ) (due home next prev due2 home2 next2 prev2 : ℕ → ℕ) : Type 0 where
  pub gone : due2 i ≡ never
  pub due_same : (j : ℕ) → j ≢ i → due2 j ≡ due j
  pub home_same : (j : ℕ) → j ≢ i → home2 j ≡ home j
  pub links : Unlinks i next prev next2 prev2

module _ (n all i : ℕ) (due home next prev rank due2 home2 next2 prev2 : ℕ → ℕ) (r : IsRing n all due home next prev rank) (id : i < n)
    (o : IsOn all due i) (u : TakesOut i due home next prev due2 home2 next2 prev2) where
  out_next : next i ≢ i
  out_next = λ e. absurd (let g : rank (next i) ≡ rank i = cc in omega (arith, r.falls i id o))

  out_prev : prev i ≢ i
  out_prev = λ e. out_next (cc (r.forth i o))

  out_other : {j : ℕ} → IsOn all due2 j → j ≢ i
  out_other on = λ e. on.there (cc)

  out_was : {j : ℕ} → IsOn all due2 j → IsOn all due j
  out_was {j} on = record { below = on.below; there = λ e. on.there (u.due_same j (out_other on) ∙ e) }

  out_stays : {j : ℕ} → j ≢ i → IsOn all due j → IsOn all due2 j
  out_stays {j} ne on = record { below = on.below; there = λ e. on.there (cc (u.due_same j ne)) }

  -- the node that has i before it is the one behind i
  out_next_is : {j : ℕ} → IsOn all due2 j → j ≢ prev i → next j ≢ i
  out_next_is {j} on ne = λ e. ne (cc (r.back j (out_was on)))

  out_prev_is : {j : ℕ} → IsOn all due2 j → j ≢ next i → prev j ≢ i
  out_prev_is {j} on ne = λ e. ne (cc (r.forth j (out_was on)))

  out_next_on : (j : ℕ) → IsOn all due2 j → IsOn all due2 (next2 j)
  out_next_on j on = elim (cases_eq j (prev i)) [
    | inl e ↦ subst (IsOn all due2) (sym (ap next2 e ∙ u.links.next_prev)) (out_stays out_next (r.next_on i o))
    | inr ne ↦ subst (IsOn all due2) (sym (u.links.next_same j ne)) (out_stays (out_next_is on ne) (r.next_on j (out_was on)))
  ]

  out_prev_on : (j : ℕ) → IsOn all due2 j → IsOn all due2 (prev2 j)
  out_prev_on j on = elim (cases_eq j (next i)) [
    | inl e ↦ subst (IsOn all due2) (sym (ap prev2 e ∙ u.links.prev_next)) (out_stays out_prev (r.prev_on i o))
    | inr ne ↦ subst (IsOn all due2) (sym (u.links.prev_same j ne)) (out_stays (out_prev_is on ne) (r.prev_on j (out_was on)))
  ]

  out_next_home : (j : ℕ) → IsOn all due2 j → home2 (next2 j) ≡ home2 j
  out_next_home j on = elim (cases_eq j (prev i)) [
    | inl e ↦ cc (u.home_same (next i) out_next, r.next_home i o, r.prev_home i o, u.home_same (prev i) out_prev)
    | inr ne ↦ cc (
      u.links.next_same j ne,
      u.home_same (next j) (out_next_is on ne),
      r.next_home j (out_was on),
      u.home_same j (out_other on),
    )
  ]

  out_prev_home : (j : ℕ) → IsOn all due2 j → home2 (prev2 j) ≡ home2 j
  out_prev_home j on = elim (cases_eq j (next i)) [
    | inl e ↦ cc (u.home_same (prev i) out_prev, r.prev_home i o, r.next_home i o, u.home_same (next i) out_next)
    | inr ne ↦ cc (
      u.links.prev_same j ne,
      u.home_same (prev j) (out_prev_is on ne),
      r.prev_home j (out_was on),
      u.home_same j (out_other on),
    )
  ]

  out_back : (j : ℕ) → IsOn all due2 j → prev2 (next2 j) ≡ j
  out_back j on = elim (cases_eq j (prev i)) [
    | inl e ↦ cc
    | inr ne ↦ cc (
      u.links.next_same j ne,
      u.links.prev_same (next j) (λ e. out_other on (cc (r.back j (out_was on), r.back i o))),
      r.back j (out_was on),
    )
  ]

  out_forth : (j : ℕ) → IsOn all due2 j → next2 (prev2 j) ≡ j
  out_forth j on = elim (cases_eq j (next i)) [
    | inl e ↦ cc
    | inr ne ↦ cc (
      u.links.prev_same j ne,
      u.links.next_same (prev j) (λ e. out_other on (cc (r.forth j (out_was on), r.forth i o))),
      r.forth j (out_was on),
    )
  ]

  out_falls : (j : ℕ) → j < n → IsOn all due2 j → rank (next2 j) < rank j
  out_falls j below on = elim (cases_eq j (prev i)) [
    | inl e ↦ (let next_is : rank (next2 j) ≡ rank (next i) = cc in
        let mid : rank (next j) ≡ rank i = cc (r.forth i o) in
        omega (arith, r.falls i id o, r.falls j below (out_was on)))
    | inr ne ↦ (let next_is = ap rank (u.links.next_same j ne) in
        omega (arith, r.falls j below (out_was on)))
  ]

  out_no_gap : (c j : ℕ) → IsOn all due2 c → IsOn all due2 j → home2 j ≡ home2 c → (c < n → rank j < rank c) → rank j ≤ rank (next2 c)
  out_no_gap c j onc on same under =
      let home_is : home j ≡ home c = cc (u.home_same j (out_other on), u.home_same c (out_other onc)) in
      let first = r.no_gap c j (out_was onc) (out_was on) home_is under in
      elim (cases_eq c (prev i)) [
        | inl e ↦ (let next_is : rank (next2 c) ≡ rank (next i) = cc in
            let mid : rank (next c) ≡ rank i = cc (r.forth i o) in
            let differs : rank i ≢ rank j = λ q. out_other on (sym (r.one i j q id)) in
            let less : rank j < rank i = omega arith in
            let second = r.no_gap i j o (out_was on) (cc (r.prev_home i o)) (λ _. less) in
            omega arith)
        | inr ne ↦ (let next_is = ap rank (u.links.next_same c ne) in omega arith)
      ]

  pub ring_without : IsRing n all due2 home2 next2 prev2 rank
  ring_without = record {
    next_on = out_next_on;
    prev_on = out_prev_on;
    next_home = out_next_home;
    prev_home = out_prev_home;
    back = out_back;
    forth = out_forth;
    head_home = λ j h. u.home_same j (λ e. absurd (omega arith)) ∙ r.head_home j h;
    head_rank = r.head_rank;
    id_rank = r.id_rank;
    falls = out_falls;
    one = r.one;
    no_gap = out_no_gap;
  }

-- the id i, which was on no list, goes onto the list of the head h, with the highest rank
pub record PutsIn (i h top : ℕ) (due home next prev rank due2 home2 next2 prev2 rank2 : ℕ → ℕ) : Type 0 where
  pub on_now : due2 i ≢ never
  pub due_same : (j : ℕ) → j ≢ i → due2 j ≡ due j
  pub home_own : home2 i ≡ h
  pub home_same : (j : ℕ) → j ≢ i → home2 j ≡ home j
  pub rank_own : rank2 i ≡ top
  pub rank_same : (j : ℕ) → j ≢ i → rank2 j ≡ rank j
  pub links : Links i h next prev next2 prev2

module _ (n all i h top : ℕ) (due home next prev rank due2 home2 next2 prev2 rank2 : ℕ → ℕ) (r : IsRing n all due home next prev rank)
    (below : (j : ℕ) → rank j < top) (inside : n ≤ all) (id : i < n) (off : due i ≡ never) (head : n ≤ h) (o : IsOn all due h)
    (u : PutsIn i h top due home next prev rank due2 home2 next2 prev2 rank2) where
  in_other : {j : ℕ} → IsOn all due j → j ≢ i
  in_other on = λ e. on.there (cc)

  in_stays : {j : ℕ} → IsOn all due j → IsOn all due2 j
  in_stays {j} on = record { below = on.below; there = λ e. on.there (cc (u.due_same j (in_other on))) }

  in_was : {j : ℕ} → j ≢ i → IsOn all due2 j → IsOn all due j
  in_was {j} ne on = record { below = on.below; there = λ e. on.there (u.due_same j ne ∙ e) }

  in_own : IsOn all due2 i
  in_own = record { below = omega arith; there = u.on_now }

  in_home_head : home2 h ≡ h
  in_home_head = u.home_same h (in_other o) ∙ r.head_home h head

  in_home_first : home2 (next h) ≡ h
  in_home_first = u.home_same (next h) (in_other (r.next_on h o)) ∙ r.next_home h o ∙ r.head_home h head

  in_next_on : (j : ℕ) → IsOn all due2 j → IsOn all due2 (next2 j)
  in_next_on j on = elim (cases_eq j i) [
    | inl e ↦ subst (IsOn all due2) (sym (ap next2 e ∙ u.links.next_own)) (in_stays (r.next_on h o))
    | inr ne ↦ elim (cases_eq j h) [
      | inl e ↦ subst (IsOn all due2) (sym (ap next2 e ∙ u.links.next_head)) in_own
      | inr nh ↦ subst (IsOn all due2) (sym (u.links.next_same j ne nh)) (in_stays (r.next_on j (in_was ne on)))
    ]
  ]

  in_prev_on : (j : ℕ) → IsOn all due2 j → IsOn all due2 (prev2 j)
  in_prev_on j on = elim (cases_eq j i) [
    | inl e ↦ subst (IsOn all due2) (sym (ap prev2 e ∙ u.links.prev_own)) (in_stays o)
    | inr ne ↦ elim (cases_eq j (next h)) [
      | inl e ↦ subst (IsOn all due2) (sym (ap prev2 e ∙ u.links.prev_first)) in_own
      | inr nh ↦ subst (IsOn all due2) (sym (u.links.prev_same j ne nh)) (in_stays (r.prev_on j (in_was ne on)))
    ]
  ]

  in_next_home : (j : ℕ) → IsOn all due2 j → home2 (next2 j) ≡ home2 j
  in_next_home j on = elim (cases_eq j i) [
    | inl e ↦ cc (in_home_first)
    | inr ne ↦ elim (cases_eq j h) [
      | inl e ↦ cc (in_home_head)
      | inr nh ↦ cc (
        u.links.next_same j ne nh,
        u.home_same (next j) (in_other (r.next_on j (in_was ne on))),
        r.next_home j (in_was ne on),
        u.home_same j ne,
      )
    ]
  ]

  in_prev_home : (j : ℕ) → IsOn all due2 j → home2 (prev2 j) ≡ home2 j
  in_prev_home j on = elim (cases_eq j i) [
    | inl e ↦ cc (in_home_head)
    | inr ne ↦ elim (cases_eq j (next h)) [
      | inl e ↦ cc (in_home_first)
      | inr nh ↦ cc (
        u.links.prev_same j ne nh,
        u.home_same (prev j) (in_other (r.prev_on j (in_was ne on))),
        r.prev_home j (in_was ne on),
        u.home_same j ne,
      )
    ]
  ]

  in_back : (j : ℕ) → IsOn all due2 j → prev2 (next2 j) ≡ j
  in_back j on = elim (cases_eq j i) [
    | inl e ↦ cc
    | inr ne ↦ elim (cases_eq j h) [
      | inl e ↦ cc
      | inr nh ↦ (let on1 = in_was ne on in
          cc (
            u.links.next_same j ne nh,
            u.links.prev_same (next j) (in_other (r.next_on j on1)) (λ q. nh (cc (r.back j on1, r.back h o))),
            r.back j on1,
          ))
    ]
  ]

  in_forth : (j : ℕ) → IsOn all due2 j → next2 (prev2 j) ≡ j
  in_forth j on = elim (cases_eq j i) [
    | inl e ↦ cc
    | inr ne ↦ elim (cases_eq j (next h)) [
      | inl e ↦ cc
      | inr nh ↦ (let on1 = in_was ne on in
          cc (
            u.links.prev_same j ne nh,
            u.links.next_same (prev j) (in_other (r.prev_on j on1)) (λ q. nh (cc (r.forth j on1))),
            r.forth j on1,
          ))
    ]
  ]

  in_head_rank : (j : ℕ) → n ≤ j → rank2 j ≡ 0
  in_head_rank j far = u.rank_same j (λ e. absurd (omega arith)) ∙ r.head_rank j far

  in_id_rank : (j : ℕ) → j < n → 0 < rank2 j
  in_id_rank j near = elim (cases_eq j i) [
    | inl e ↦ (let own : rank2 j ≡ top = cc in omega (arith, below j))
    | inr ne ↦ (let own = u.rank_same j ne in omega (arith, r.id_rank j near))
  ]

  in_falls : (j : ℕ) → j < n → IsOn all due2 j → rank2 (next2 j) < rank2 j
  in_falls j near on = elim (cases_eq j i) [
    | inl e ↦ (let own : rank2 j ≡ top = cc in
        let next_is : rank2 (next2 j) ≡ rank (next h) = cc (u.rank_same (next h) (in_other (r.next_on h o))) in
        omega (arith, below (next h)))
    | inr ne ↦ (let on1 = in_was ne on in
        let not_head : j ≢ h = λ e. absurd (omega arith) in
        let own = u.rank_same j ne in
        let next_is : rank2 (next2 j) ≡ rank (next j) =
        cc (u.links.next_same j ne not_head, u.rank_same (next j) (in_other (r.next_on j on1))) in
        omega (arith, r.falls j near on1))
  ]

  in_one : (j k : ℕ) → rank2 j ≡ rank2 k → j < n → j ≡ k
  in_one j k same near = elim (cases_eq j i) [
    | inl e ↦ elim (cases_eq k i) [
      | inl q ↦ cc
      | inr nk ↦ absurd (let own : rank2 j ≡ top = cc in let other = u.rank_same k nk in omega (arith, below k))
    ]
    | inr ne ↦ elim (cases_eq k i) [
      | inl q ↦ absurd (let own : rank2 k ≡ top = cc in let other = u.rank_same j ne in omega (arith, below j))
      | inr nk ↦ r.one j k (cc (u.rank_same j ne, u.rank_same k nk)) near
    ]
  ]

  -- behind the new node nobody of its list is passed over
  in_gap_own : {j : ℕ} → j ≢ i → IsOn all due2 j → home2 j ≡ h → rank j ≤ rank (next h)
  in_gap_own {j} ne on same = r.no_gap h j o (in_was ne on) (cc (u.home_same j ne, r.head_home h head)) (λ q. absurd (omega arith))

  in_far : {c j : ℕ} → c ≢ i → c ≢ h → IsOn all due2 c → IsOn all due2 j → home2 j ≡ home2 c → (c < n → rank2 j < rank2 c)
      → rank2 j ≤ rank2 (next2 c)
  in_far {c} {j} ne nh onc on same under =
      let on1 = in_was ne onc in
      let own_c = u.rank_same c ne in
      let next_is : rank2 (next2 c) ≡ rank (next c) = cc (u.links.next_same c ne nh, u.rank_same (next c) (in_other (r.next_on c on1))) in
      elim (cases_eq j i) [
        | inl q ↦ absurd (
            let own : rank2 j ≡ top = cc in
            let b = below c in
            elim (cases_lt c n) [
              | inl near ↦ absurd (omega (arith, under near))
              | inr far ↦ nh (sym (r.head_home c far) ∙ (cc (u.home_same c ne)))
            ])
        | inr nj ↦ (
            let own = u.rank_same j nj in
            let gap = r.no_gap c j on1 (in_was nj on) (cc (u.home_same j nj, u.home_same c ne)) (λ near. omega (arith, under near)) in
            omega arith)
      ]

  in_no_gap : (c j : ℕ) → IsOn all due2 c → IsOn all due2 j → home2 j ≡ home2 c → (c < n → rank2 j < rank2 c) → rank2 j ≤ rank2 (next2 c)
  in_no_gap c j onc on same under = elim (cases_eq c i) [
    | inl e ↦ (let next_is : rank2 (next2 c) ≡ rank (next h) = cc (u.rank_same (next h) (in_other (r.next_on h o))) in
        let less = under ((omega arith)) in
        let ne : j ≢ i = λ q. absurd (let k : rank2 j ≡ rank2 c = cc in omega arith) in
        let own = u.rank_same j ne in
        let gap = in_gap_own ne on (cc) in
        omega arith)
    | inr ne ↦ elim (cases_eq c h) [
      | inl e ↦ (let next_is : rank2 (next2 c) ≡ top = cc in
          elim (cases_eq j i) [
            | inl q ↦ (let own : rank2 j ≡ top = cc in omega arith)
            | inr nj ↦ (let own = u.rank_same j nj in omega (arith, below j))
          ])
      | inr nh ↦ in_far ne nh onc on same under
    ]
  ]

  pub ring_with : IsRing n all due2 home2 next2 prev2 rank2
  ring_with = record {
    next_on = in_next_on;
    prev_on = in_prev_on;
    next_home = in_next_home;
    prev_home = in_prev_home;
    back = in_back;
    forth = in_forth;
    head_home = λ j far. u.home_same j (λ e. absurd (omega arith)) ∙ r.head_home j far;
    head_rank = in_head_rank;
    id_rank = in_id_rank;
    falls = in_falls;
    one = in_one;
    no_gap = in_no_gap;
  }

-- where no list of a node on a list changes, the ring stays
pub ring_moved : (n all : ℕ) (due home next prev rank home2 : ℕ → ℕ) → IsRing n all due home next prev rank
    → ((j : ℕ) → IsOn all due j → home2 j ≡ home j) → ((j : ℕ) → n ≤ j → home2 j ≡ j) → IsRing n all due home2 next prev rank
ring_moved n all due home next prev rank home2 r same heads = record {
  next_on = r.next_on;
  prev_on = r.prev_on;
  next_home = λ j on. cc (same (next j) (r.next_on j on), r.next_home j on, same j on);
  prev_home = λ j on. cc (same (prev j) (r.prev_on j on), r.prev_home j on, same j on);
  back = r.back;
  forth = r.forth;
  head_home = heads;
  head_rank = r.head_rank;
  id_rank = r.id_rank;
  falls = r.falls;
  one = r.one;
  no_gap = λ c j onc on e under. r.no_gap c j onc on (cc (same j on, same c onc)) under;
}
