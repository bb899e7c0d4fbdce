-- Sends as histories grow.
use Rattle.bfd_serve.proofs.Common.{◌≡◌, zero, suc, ◌+◌, ◌-◌, ◌<◌, ◌≤◌, ◌==◌, Bool, true, false, cond, ◌++◌, length, refl, ap, ap₂, sym}
use Rattle.bfd_serve.proofs.Common.{◌∙◌, subst, append_assoc, append-nil, length-append, arith, filter_map-append, nat_tests, Entry, Begins}
use Rattle.bfd_serve.proofs.Common.{calls, by, Shards, Act, Turns, Rests, Call, call_in, calls_of, on_shard, entries, until, datagrams}
use Rattle.bfd_serve.proofs.Common.{given_by, sends_of_acts, ℕ, List, [], ◌∷◌}

until_more_by : (n i : ℕ) (x : Entry) (h more : List Entry) (b : Bool) → (x.caller == n) ≡ b → i < length (calls by n (x ∷ h))
    → ((j : ℕ) → j < length (calls by n h) → until n j (h ++ more) ≡ until n j h) → until n i ((x ∷ h) ++ more) ≡ until n i (x ∷ h)
until_more_by n zero x h more true is less rec = rw is refl
until_more_by n (suc i) x h more true is less rec =
    let l : i < length (calls by n h) = (let a = subst (λ b. suc i < length (cond b (x ∷ calls by n h) (calls by n h))) is less in
    omega arith) in
    let z : (suc i == 0) ≡ false = grind (arith, nat_tests) in let m : suc i - 1 ≡ i = omega arith in rw (is, z, m) (cc (rec i l))
until_more_by n i x h more false is less rec = rw is
    (cc (rec i (subst (λ b. i < length (cond b (x ∷ calls by n h) (calls by n h))) is less)))

-- an entry that is present is found at the same place in a longer history
until_more : (n : ℕ) {i : ℕ} (h more : List Entry) → i < length (calls by n h) → until n i (h ++ more) ≡ until n i h
until_more n [] more less = absurd (omega arith)
until_more n {i} (x ∷ h) more less = until_more_by n i x h more (x.caller == n) refl less (λ j l. until_more n h more l)

until_last_by : (n i : ℕ) (x : Entry) {h : List Entry} (e : Entry) (b : Bool) → (x.caller == n) ≡ b → length (calls by n (x ∷ h)) ≡ i
    → ((j : ℕ) → length (calls by n h) ≡ j → until n j (h ++ e ∷ []) ≡ h) → until n i ((x ∷ h) ++ e ∷ []) ≡ x ∷ h
until_last_by n zero x {h} e true is len rec = absurd
    (let a = subst (λ b. length (cond b (x ∷ calls by n h) (calls by n h)) ≡ 0) is len in omega arith)
until_last_by n (suc i) x {h} e true is len rec =
    let l : length (calls by n h) ≡ i = (let a = subst (λ b. length (cond b (x ∷ calls by n h) (calls by n h)) ≡ suc i) is len in
    omega arith) in
    let z : (suc i == 0) ≡ false = grind (arith, nat_tests) in let m : suc i - 1 ≡ i = omega arith in rw (is, z, m) (cc (rec i l))
until_last_by n i x {h} e false is len rec = rw is (cc (rec i (subst (λ b. length (cond b (x ∷ calls by n h) (calls by n h)) ≡ i) is len)))

-- the entry that comes last, after as many of its caller
pub until_last : (n i : ℕ) (h : List Entry) (e : Entry) → length (calls by n h) ≡ i → e.caller ≡ n → until n i (h ++ e ∷ []) ≡ h
until_last n i [] e len is = let t : (e.caller == n) ≡ true = grind (arith, nat_tests, is) in let z : (i == 0) ≡ true =
    grind (arith, nat_tests, len) in rw (t, z) refl
until_last n i (x ∷ h) e len is = until_last_by n i x e (x.caller == n) refl len (λ j l. until_last n j h e l is)

pub entries_append : (n s : ℕ) (xs ys : List Call) → entries n s (xs ++ ys) ≡ entries n s xs ++ entries n s ys
entries_append n s xs ys = filter_map-append (on_shard n s) xs ys

pub calls_of_append : (xs ys : List Act) → calls_of (xs ++ ys) ≡ calls_of xs ++ calls_of ys
calls_of_append xs ys = filter_map-append call_in xs ys

-- how many calls of some acts are on a shard
abbrev pub weight : ℕ → ℕ → List Act → ℕ
weight n s xs = length (entries n s (calls_of xs))

pub weight_append : (n s : ℕ) (xs ys : List Act) → weight n s (xs ++ ys) ≡ weight n s xs + weight n s ys
weight_append n s xs ys = cc (
  calls_of_append xs ys,
  entries_append n s (calls_of xs) (calls_of ys),
  length-append (entries n s (calls_of xs)) (entries n s (calls_of ys)),
)

module _ (engine : Shards) (n : ℕ) where
  pub sends_append : (h : ℕ → List Entry) (had : ℕ → ℕ) (before : List Call) (xs ys : List Act)
      → sends_of_acts engine n h had before (xs ++ ys) ≡ sends_of_acts engine n h had before xs
      ++ sends_of_acts engine n h had (before ++ calls_of xs) ys
  sends_append h had before [] ys = cc (append-nil before)
  sends_append h had before (x ∷ xs) ys =
      cc (
        sends_append h had (before ++ calls_of (x ∷ [])) xs ys,
        append_assoc before (calls_of (x ∷ [])) (calls_of xs),
        calls_of_append (x ∷ []) xs,
        append_assoc (datagrams (given_by engine n h had before x)) (sends_of_acts engine n h had (before ++ calls_of (x ∷ [])) xs)
            (sends_of_acts engine n h had (before ++ calls_of (x ∷ xs)) ys),
      )

  given_base : (h : ℕ → List Entry) (had had2 : ℕ → ℕ) (before before2 : List Call) (a : Act)
      → ((s : ℕ) → had2 s + length (entries n s before2) ≡ had s + length (entries n s before))
      → given_by engine n h had2 before2 a ≡ given_by engine n h had before a
  given_base h had had2 before before2 (Rests outs answer) same = refl
  given_base h had had2 before before2 (Turns shard event) same = cc (same shard)

  -- of the calls before only the count on each shard matters
  pub sends_base : (h : ℕ → List Entry) (had had2 : ℕ → ℕ) (before before2 : List Call) (xs : List Act)
      → ((s : ℕ) → had2 s + length (entries n s before2) ≡ had s + length (entries n s before))
      → sends_of_acts engine n h had2 before2 xs ≡ sends_of_acts engine n h had before xs
  sends_base h had had2 before before2 [] same = refl
  sends_base h had had2 before before2 (x ∷ xs) same = ap₂ ◌++◌ (ap datagrams (given_base h had had2 before before2 x same))
      (sends_base h had had2 (before ++ calls_of (x ∷ [])) (before2 ++ calls_of (x ∷ [])) xs
      (λ s. omega (
        arith,
        same s,
        ap length (entries_append n s before (calls_of (x ∷ [])))
            ∙ length-append (entries n s before) (entries n s (calls_of (x ∷ []))),
        ap length (entries_append n s before2 (calls_of (x ∷ []))) ∙ length-append (entries n s before2) (entries n s (calls_of (x ∷ []))),
      )))

  -- each shard has as many calls
  abbrev pub AreThere : (ℕ → List Entry) → (ℕ → ℕ) → List Call → Type 0
  AreThere h had cs = (s : ℕ) → had s + length (entries n s cs) ≤ length (calls by n (h s))

  given_grow : (h : ℕ → List Entry) {h2 : ℕ → List Entry} (had : ℕ → ℕ) (before : List Call) (a : Act) (more : List Call)
      → ((s : ℕ) → Begins (h s) (h2 s))
      → AreThere h had (before ++ (calls_of (a ∷ []) ++ more)) → given_by engine n h2 had before a ≡ given_by engine n h had before a
  given_grow h had before (Rests outs answer) more grows there = refl
  given_grow h had before (Turns shard event) more grows there =
      let c : Call = (shard, event) in
      let one : length (entries n shard (c ∷ [])) ≡ 1 = (let t : (shard == shard) ≡ true = grind (arith, nat_tests) in rw t refl) in
      let a = there shard in
      let b = ap length (entries_append n shard before ((c ∷ []) ++ more))
      ∙ length-append (entries n shard before) (entries n shard ((c ∷ []) ++ more)) in
      let d = ap length (entries_append n shard (c ∷ []) more) ∙ length-append (entries n shard (c ∷ [])) (entries n shard more) in
      let less : had shard + length (entries n shard before) < length (calls by n (h shard)) = omega arith in
      cc ((grows shard).1, until_more n (h shard) (grows shard).0 less)

  -- if each history only grows, the calls that are present send what they did
  pub sends_grow : (h : ℕ → List Entry) {h2 : ℕ → List Entry} (had : ℕ → ℕ) (before : List Call) (xs : List Act)
      → ((s : ℕ) → Begins (h s) (h2 s))
      → AreThere h had (before ++ calls_of xs) → sends_of_acts engine n h2 had before xs ≡ sends_of_acts engine n h had before xs
  sends_grow h had before [] grows there = refl
  sends_grow h had before (x ∷ xs) grows there = ap₂ ◌++◌
      (ap datagrams (given_grow h had before x (calls_of xs) grows (rw (← calls_of_append (x ∷ []) xs) there)))
      (sends_grow h had (before ++ calls_of (x ∷ [])) xs grows
      (rw (← ap (λ w. before ++ w) (calls_of_append (x ∷ []) xs) ∙ sym (append_assoc before (calls_of (x ∷ [])) (calls_of xs))) there))
