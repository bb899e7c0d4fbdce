-- What the lock's calls promise, over what its callers see of a pass.
use Rattle.std.specs.Prelude.{◌≡◌, ◌≢◌, ◌⊎◌, ℕ, ◌+◌, ◌*◌, ◌%◌, ◌^◌, ◌<◌, ◌≤◌, true, List, [], ◌∷◌, ◌++◌, Some, All}
pub use Rattle.atomic_table.specs.Seated.{TableId}
use Rattle.bfd_turn.specs.declared.view.Known.{Known}
use Rattle.bfd_turn.specs.Lists.{longer, calls, has, numbers_of}
use Rattle.bfd_turn.specs.Plays.{Adds, AllKept}

module _ {N B : Type 0} where
  -- caller 0 of a new lock
  abbrev pub opened_pass : B → ℕ → Known N B
  opened_pass base turns = record {
    number = 0;
    base = Some base;
    seen = [];
    word = 2 * turns;
    looks = [];
    taken = turns;
    made = [];
    joined = [];
  }

  -- caller 0, after it has made the pass n
  abbrev pub having_made : ℕ → Known N B → Known N B
  having_made n v = record v { made = v.made ++ n ∷ [] }

  -- the pass n that caller 0 made: it has seen as much, and has given back nothing
  abbrev pub made_by : ℕ → Known N B → Known N B
  made_by n v = record { number = n; base = v.base; seen = v.seen; word = v.word; looks = []; taken = 0; made = []; joined = [] }

  -- caller 0 at the word n of its load, after it has joined another pass: it has seen the longer list, and keeps the other's number and
  -- calls
  abbrev pub having_joined : (N → ℕ) → ℕ → Known N B → Known N B → Known N B
  having_joined by n v w = record v {
    seen = longer v.seen w.seen;
    word = n;
    looks = v.looks ++ n ∷ [];
    taken = v.taken + w.taken;
    joined = v.joined ++ (w.number, calls by w.number w.seen) ∷ [];
  }

  -- it has met the word n, and these are the words of its loads
  abbrev pub having_met : ℕ → List ℕ → Known N B → Known N B
  having_met n looks v = record v { word = n; looks = looks }

  -- it has given back a turn, with a value of these notes
  abbrev pub having_done : List N → Known N B → Known N B
  having_done notes v = record v { seen = notes; word = v.word + 1; taken = v.taken + 1 }

  -- every other pass was joined
  abbrev pub AllJoined : Known N B → Type 0
  AllJoined v = (n : ℕ) → has n v.made ≡ true → has n (numbers_of v.joined) ≡ true

  -- the number is above each that was made
  abbrev pub IsNew : ℕ → Known N B → Type 0
  IsNew n v = All (λ m. m < n) v.made

module _ {V N B : Type 0} where
  -- The pass v holds the turn as w, and the value x is lent. The word read, one below the new word, was even, not the last, and not below
  -- what v had met.
  -- The notes of x begin with what v had seen, and go on with notes of others. Of each joined pass they have the calls that are kept
  pub record IsLent (notes : V → List N) (by : N → ℕ) (base : V → B) (v w : Known N B) (x : V) : Type 0 where
    pub same : w ≡ record v { seen = notes x; word = w.word; looks = w.looks }
    pub later : v.word < w.word
    pub odd : w.word % 2 ≡ 1
    pub room : w.word + 1 < 2 ^ 64
    pub base_is : Some (base x) ≡ v.base
    pub adds : Adds by v.number v.seen (notes x)
    pub kept : AllKept by v.joined (notes x)

  -- since the turn was taken, no note was added to the value, or one note of the caller
  abbrev pub Grows : (V → List N) → (N → ℕ) → Known N B → V → Type 0
  Grows notes by v x = (notes x ≡ v.seen) ⊎ ((note : N) × (notes x ≡ v.seen ++ note ∷ []) × (by note ≡ v.number))

-- the last even word, at which no turn is left
abbrev pub last_word : ℕ
last_word = 18446744073709551614

module _ {N B : Type 0} where
  -- the pass of this lock with the word n, after some loads, and all else as it was
  abbrev pub IsBack : TableId → Known N B → ℕ → TableId × Known N B → Type 0
  IsBack id v n p = (p.0 ≡ id) × (p.1 ≡ having_met n p.1.looks v)

  -- it made one load, which found this word
  abbrev pub HasLoaded : Known N B → ℕ → TableId × Known N B → Type 0
  HasLoaded v read p = p.1.looks ≡ v.looks ++ read ∷ []

  -- the word read was odd, or the exchange found another word
  abbrev pub WasBusy : Known N B → ℕ → ℕ → Type 0
  WasBusy v read found = (v.word ≤ read) × (read ≢ last_word) × (((read % 2 ≡ 1) × (found ≡ read)) ⊎ ((read % 2 ≡ 0) × (read < found)))

  -- no turn is left
  abbrev pub WasSpent : Known N B → ℕ → Type 0
  WasSpent v word = (word ≡ last_word) × (v.word ≤ word)
