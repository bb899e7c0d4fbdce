-- A walk along one list, which takes off what has come.
use Rattle.bfd_wheel.proofs.Common.{◌≡◌, ◌≢◌, ◌⊎◌, inl, inr, ℕ, zero, suc, ◌+◌, ◌<◌, ◌≤◌, cond, List, length, refl, sym, ◌∙◌, arith, nat_le}
use Rattle.bfd_wheel.proofs.Common.{slice_index, slice_set, get_or-set_same, get_or-set_other, length-set, nat_tests, cases_eq, cases_lt}
use Rattle.bfd_wheel.proofs.Common.{never, Node, IsOn, Unlinks, due_in, next_in, prev_in, place, home, IsWheel}
use Rattle.bfd_wheel.proofs.Rings.{ring_without}
use Rattle.bfd_wheel.proofs.Wheels.{home_id, home_head, home_same, head_on, id_on, out_of}

-- ---- how many of the first k ids have a rank of at most m

pub upto : (ℕ → ℕ) → ℕ → ℕ → ℕ
upto rank m zero = 0
upto rank m (suc k) = cond (nat_le (rank k) m) 1 0 + upto rank m k

pub counted : (r m : ℕ) → cond (nat_le r m) 1 0 ≤ 1
counted r m = grind (arith, nat_tests)

counted_more : (r l m : ℕ) → l ≤ m → cond (nat_le r l) 1 0 ≤ cond (nat_le r m) 1 0
counted_more r l m h = grind (arith, nat_tests)

pub counted_now : (r m : ℕ) → r ≤ m → ◌≡◌ {A = ℕ} (cond (nat_le r m) 1 0) 1
counted_now r m h = grind (arith, nat_tests)

pub counted_not : (r m : ℕ) → m < r → ◌≡◌ {A = ℕ} (cond (nat_le r m) 1 0) 0
counted_not r m h = grind (arith, nat_tests)

pub upto-le : (rank : ℕ → ℕ) (m k : ℕ) → upto rank m k ≤ k
unfolding upto
upto-le rank m zero = omega arith
upto-le rank m (suc k) = omega (arith, counted (rank k) m, upto-le rank m k)

upto_more : (rank : ℕ → ℕ) (l m k : ℕ) → l ≤ m → upto rank l k ≤ upto rank m k
unfolding upto
upto_more rank l m zero h = omega arith
upto_more rank l m (suc k) h = omega (arith, counted_more (rank k) l m h, upto_more rank l m k h)

counted_up : {q r : ℕ} (m : ℕ) → r ≤ q → cond (nat_le q m) 1 0 ≤ cond (nat_le r m) 1 0
counted_up m h = grind (arith, nat_tests)

-- ranks that rise make fewer
pub upto_up : (rank rank2 : ℕ → ℕ) (m k : ℕ) → ((j : ℕ) → rank j ≤ rank2 j) → upto rank2 m k ≤ upto rank m k
unfolding upto
upto_up rank rank2 m zero h = omega arith
upto_up rank rank2 m (suc k) h = omega (arith, counted_up m (h k), upto_up rank _ m k h)

pub upto_one : (rank : ℕ → ℕ) (m c k : ℕ) → c < k → rank c ≤ m → 1 ≤ upto rank m k
unfolding upto
upto_one rank m c zero near h = absurd (omega arith)
upto_one rank m c (suc k) near h = elim (cases_eq c k) [
  | inl e ↦ (let at : rank c ≡ rank k = cc in omega (arith, counted_now (rank k) m (omega arith)))
  | inr ne ↦ (omega (arith, upto_one rank m c k (omega arith) h))
]

pub upto_falls : (rank : ℕ → ℕ) (l m c k : ℕ) → c < k → rank c ≡ m → l < m → upto rank l k + 1 ≤ upto rank m k
unfolding upto
upto_falls rank l m c zero near at less = absurd (omega arith)
upto_falls rank l m c (suc k) near at less = elim (cases_eq c k) [
  | inl e ↦ (let here : rank c ≡ rank k = cc in
      omega (arith, counted_now (rank k) m (omega arith), counted_not (rank k) l (omega arith), upto_more rank l m k (omega arith)))
  | inr ne ↦ (
      omega (arith, upto_falls rank l m c k (omega arith) at less, counted_more (rank k) l m (omega arith)))
]

-- ---- the walk

-- the walk of the list of head stands at cur after i steps: every id of the list that isn't ahead has a due tick above t
pub record IsWalk (n now head t : ℕ) (dues : List ℕ) (nodes : List Node) (cur i : ℕ) : Type 0 where
  pub wheel : IsWheel n now dues nodes
  pub on : IsOn (n + 4097) (due_in dues) cur
  pub same : home n now (due_in dues) cur ≡ head
  pub ahead : (j : ℕ) → j < n → IsOn (n + 4097) (due_in dues) j → home n now (due_in dues) j ≡ head
      → (wheel.links.rank j ≤ wheel.links.rank cur) ⊎ (t < slice_index dues j)
  pub left : i + upto wheel.links.rank (wheel.links.rank cur) n ≤ n

pub walk_begins : {n now head : ℕ} (t : ℕ) {dues : List ℕ} {nodes : List Node} → IsWheel n now dues nodes → n ≤ head → head < n + 4097
    → IsWalk n now head t dues nodes (next_in nodes head) 0
walk_begins {n} {now} {head} t {dues} {nodes} w far near =
    let on = head_on n 4097 dues head w.count far near in
    let r = w.links.ring in
    let own = home_head now (due_in dues) head far in
    record {
      wheel = w;
      on = r.next_on head on;
      same = r.next_home head on ∙ own;
      ahead = λ j close on1 at. inl (r.no_gap head j on on1 (at ∙ sym own) (λ h. absurd (omega arith)));
      left = omega (arith, upto-le w.links.rank (w.links.rank (next_in nodes head)) n);
    }

-- what isn't the head is an id
pub walk_id : {n now head t : ℕ} {dues : List ℕ} {nodes : List Node} {cur i : ℕ} → IsWalk n now head t dues nodes cur i → cur ≢ head
    → cur < n
walk_id {n} {now} {dues} {cur} w other = elim (cases_lt cur n) [
  | inl near ↦ near
  | inr far ↦ absurd (other (cc (home_head now (due_in dues) cur far)))
]

walk_past : {n now head t : ℕ} {dues : List ℕ} {nodes : List Node} {cur i : ℕ} → IsWalk n now head t dues nodes cur i → cur < n
    → t < slice_index dues cur → IsWalk n now head t dues nodes (next_in nodes cur) (i + 1)
walk_past {n} {nodes} {cur} w near above =
    let r = w.wheel.links.ring in
    let rank = w.wheel.links.rank in
    record {
      wheel = w.wheel;
      on = r.next_on cur w.on;
      same = r.next_home cur w.on ∙ w.same;
      ahead = λ j close on at. elim (cases_eq j cur) [
        | inl e ↦ inr (rw e above)
        | inr ne ↦ elim (w.ahead j close on at) [
          | inl le ↦ inl (r.no_gap cur j w.on on (at ∙ sym w.same)
              (λ _. (let apart : rank j ≢ rank cur = λ q. ne (r.one j cur q close) in omega arith)))
          | inr more ↦ inr more
        ]
      ];
      left = omega (arith, upto_falls rank _ _ cur n near refl (r.falls cur near w.on), w.left);
    }

walk_takes : {n now head t : ℕ} {dues : List ℕ} {nodes nodes2 : List Node} {cur i : ℕ} → IsWalk n now head t dues nodes cur i → cur < n
    → length nodes2 ≡ length nodes → Unlinks cur (next_in nodes) (prev_in nodes) (next_in nodes2) (prev_in nodes2)
    → IsWalk n now head t (slice_set dues cur never) nodes2 (next_in nodes cur) (i + 1)
walk_takes {n} {now} {head} {dues} {nodes} {nodes2} {cur} w near size u =
    let r = w.wheel.links.ring in
    let rank = w.wheel.links.rank in
    let dues2 = slice_set dues cur never in
    let due_is : (j : ℕ) → j ≢ cur → slice_index dues2 j ≡ slice_index dues j = λ j ne. get_or-set_other dues cur j never 0 ne in
    let other : (j : ℕ) → IsOn (n + 4097) (due_in dues2) j
    → j ≢ cur = λ j on e. on.there (cc (get_or-set_same dues cur never 0 (let c = w.wheel.count in omega arith))) in
    let was : (j : ℕ) → IsOn (n + 4097) (due_in dues2) j
    → IsOn (n + 4097) (due_in dues) j = λ j on. record { below = on.below; there = λ e. on.there (due_is j (other j on) ∙ e) } in
    let next_other : next_in nodes cur ≢ cur = λ e. absurd (let same_rank : rank (next_in nodes cur) ≡ rank cur = cc in omega arith) in
    let next_on = r.next_on cur w.on in
    record {
      wheel = record {
        few = w.wheel.few;
        early = w.wheel.early;
        count = length-set dues cur never ∙ w.wheel.count;
        size = cc;
        links = record {
          rank = w.wheel.links.rank;
          top = w.wheel.links.top;
          below = w.wheel.links.below;
          ring = ring_without n (n + 4097) cur (due_in dues) (home n now (due_in dues)) (next_in nodes) (prev_in nodes) w.wheel.links.rank
              (due_in dues2) (home n now (due_in dues2)) (next_in nodes2) (prev_in nodes2) r near w.on
              (out_of now dues nodes nodes2 w.wheel.count near u);
        };
      };
      on = record { below = next_on.below; there = λ e. next_on.there (cc (due_is (next_in nodes cur) next_other)) };
      same = cc (home_same n now (due_in dues) (due_in dues2) (due_is (next_in nodes cur) next_other), r.next_home cur w.on);
      ahead = λ j close on at. (let ne = other j on in
          let on1 = was j on in
          let at1 : home n now (due_in dues) j ≡ head = sym (home_same n now (due_in dues) (due_in dues2) (due_is j ne)) ∙ at in
          elim (w.ahead j close on1 at1) [
            | inl le ↦ inl (r.no_gap cur j w.on on1 (cc)
                (λ _. (let apart : rank j ≢ rank cur = λ q. ne (r.one j cur q close) in omega arith)))
            | inr more ↦ inr (let e = due_is j ne in omega arith)
          ]);
      left = (let f = upto_falls rank _ _ cur n near refl (r.falls cur near w.on) in let l = w.left in omega arith);
    }

-- a step, by what the visit of cur did
pub walk_on : {n now head t : ℕ} {dues dues2 : List ℕ} {nodes nodes2 : List Node} {cur i : ℕ} → IsWalk n now head t dues nodes cur i
    → cur < n → length nodes2 ≡ length nodes → (t < slice_index dues cur → dues2 ≡ dues) → (t < slice_index dues cur → nodes2 ≡ nodes)
    → (slice_index dues cur ≤ t → dues2 ≡ slice_set dues cur never) → (slice_index dues cur ≤ t → Unlinks cur (next_in nodes)
    (prev_in nodes) (next_in nodes2) (prev_in nodes2)) → IsWalk n now head t dues2 nodes2 (next_in nodes cur) (i + 1)
walk_on {t} {dues} {cur} w near size dues_kept nodes_kept gone links = elim (cases_lt t (slice_index dues cur)) [
  | inl above ↦ rw (dues_kept above) (rw (nodes_kept above) (walk_past w near above))
  | inr le ↦ rw (gone le) (walk_takes w near size (links le))
]

-- a walk that is back at the head, or has made n steps, has passed all of its list
pub walk_ends : (n now head t : ℕ) (dues : List ℕ) (nodes : List Node) (cur i : ℕ) → IsWalk n now head t dues nodes cur i → n ≤ head → (cur
    ≡ head) ⊎ (n ≤ i) → (j : ℕ) → j < n → slice_index dues j ≢ never → place n now (slice_index dues j) ≡ head → t < slice_index dues j
walk_ends n now head t dues nodes cur i w far done j close there at =
    let r = w.wheel.links.ring in
    let rank = w.wheel.links.rank in
    let at_head : n ≤ cur = elim done [
      | inl e ↦ omega arith
      | inr steps ↦ elim (cases_lt cur n) [
        | inl near ↦ absurd
            (let one = upto_one rank (rank cur) cur n near (omega arith) in let l = w.left in omega arith)
        | inr h ↦ h
      ]
    ] in
    elim (w.ahead j close (id_on n 4097 dues j close there) (home_id now (due_in dues) close ∙ at)) [
      | inl le ↦ absurd (omega arith)
      | inr more ↦ more
    ]
