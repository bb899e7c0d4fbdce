-- One more shard.
use Rattle.bfd_serve.proofs.ServedTextCommon.{◌≡◌, ◌<◌, ℕ, ◌+◌, List, [], ◌∷◌, ◌++◌, length, map, drop, get_or, ap, subst, append_assoc}
use Rattle.bfd_serve.proofs.ServedTextCommon.{append-nil, length-drop, arith, sum_by, AllByRecursion, drop_more, length-map}
use Rattle.bfd_serve.proofs.ServedTextCommon.{nil_from_length, SessionConfig, configs_of, Shard, History, shard_history, shard_sent}
use Rattle.bfd_serve.proofs.ServedTextCommon.{shard_text, shards_text, served, served_line, AreFit}
use Rattle.std.proofs.lemmas.List.Sums.{sum_by-cons}

-- the configurations with which a shard was made
abbrev pub made_with : Shard → List SessionConfig
made_with state = configs_of state.sessions

-- the next configurations, and those that are left then
pub next_made : {P : Type 0} (f : P → List SessionConfig) {left : List P} {part : P} {rest : List P} {all : List (List SessionConfig)}
    → left ≡ part ∷ rest → map f left ≡ all → f part ∷ map f rest ≡ all
next_made f split made = cc

pub next_fit : {P : Type 0} (f : P → List SessionConfig) {left : List P} {part : P} {rest : List P}
    → left ≡ part ∷ rest → AllByRecursion AreFit (map f left) → AllByRecursion AreFit (map f rest)
next_fit f split fit = (subst (λ xs. AllByRecursion AreFit (map f xs)) split fit).1

pub none_made : {P : Type 0} (f : P → List SessionConfig) {left : List P} {all : List (List SessionConfig)} → left ≡ [] → map f left ≡ all
    → [] ≡ all
none_made f none made = cc

-- while configurations are left, a shard is
pub some_left : (ss : List Shard) (i : ℕ) (part : List SessionConfig) (parts : List (List SessionConfig))
    → part ∷ parts ≡ map made_with (drop i ss) → i < length ss
some_left ss i part parts made = omega (arith, ap length made, length-map (drop i ss) made_with, length-drop i ss)

-- the others are those of the shards that follow
pub other_parts : (ss : List Shard) (i : ℕ) (part : List SessionConfig) (parts : List (List SessionConfig))
    → part ∷ parts ≡ map made_with (drop i ss) → (d : Shard)
    → parts ≡ map made_with (drop (i + 1) ss)
other_parts ss i part parts made d = cc (ap (map made_with) (drop_more ss i d (some_left ss i part _ made)))

module _ (ss : List Shard) (i : ℕ) (state : Shard) (inside : i < length ss) (is : state ≡ get_or ss i state) where
  left : drop i ss ≡ state ∷ drop (i + 1) ss
  left = cc (drop_more ss i state inside)

  text_split : shards_text i (map shard_history (drop i ss)) ≡ shard_text i (shard_history state)
      ++ shards_text (i + 1) (map shard_history (drop (i + 1) ss))
  unfolding shards_text
  text_split = cc (left)

  -- with the shards that are left, the text so far is the whole, and so are the counts
  pub text_next : (now new goal : List ℕ) → now ++ shards_text i (map shard_history (drop i ss)) ≡ goal
      → new ≡ now ++ shard_text i (shard_history state)
      → new ++ shards_text (i + 1) (map shard_history (drop (i + 1) ss)) ≡ goal
  text_next now new goal so_far observed =
      cc (append_assoc now (shard_text i (shard_history state)) (shards_text (i + 1) (map shard_history (drop (i + 1) ss))), text_split)

  pub sum_next : (f : History → ℕ) (now count goal : ℕ) → now + sum_by f (map shard_history (drop i ss)) ≡ goal
      → count ≡ f (shard_history state)
      → now + count + sum_by f (map shard_history (drop (i + 1) ss)) ≡ goal
  sum_next f now count goal so_far observed =
      let e = ap (λ xs. sum_by f (map shard_history xs)) left in
      omega (arith, so_far, observed, e, sum_by-cons f (shard_history state) (map shard_history (drop (i + 1) ss)))

-- behind the last there is none
none_left : (ss : List Shard) (i : ℕ) → [] ≡ map made_with (drop i ss) → drop i ss ≡ []
none_left ss i made = nil_from_length (drop i ss) (omega (arith, ap length made, length-map (drop i ss) made_with))

pub whole : (ss : List Shard) (i : ℕ) (now new : List ℕ) (entries txs lost : ℕ) → [] ≡ map made_with (drop i ss)
    → now ++ shards_text i (map shard_history (drop i ss)) ≡ shards_text 0 (map shard_history ss)
    → entries + sum_by (λ history. length history.journal) (map shard_history (drop i ss))
    ≡ sum_by (λ history. length history.journal) (map shard_history ss)
    → txs + sum_by shard_sent (map shard_history (drop i ss)) ≡ sum_by shard_sent (map shard_history ss)
    → new ≡ now ++ served_line entries txs lost → new ≡ served (map shard_history ss) lost
unfolding shards_text
whole ss i now new entries txs lost made text counted sent observed =
    let none = none_left ss i made in
    let all : now ≡ shards_text 0 (map shard_history ss) =
    cc (append-nil now) in
    let a = ap (λ xs. sum_by (λ history. length history.journal) (map shard_history xs)) none in
    let b = ap (λ xs. sum_by shard_sent (map shard_history xs)) none in
    let entries_are : entries ≡ sum_by (λ history. length history.journal) (map shard_history ss) = omega (arith, counted, a) in
    let txs_are : txs ≡ sum_by shard_sent (map shard_history ss) = omega (arith, sent, b) in
    cc
