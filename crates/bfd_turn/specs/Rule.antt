-- The rule of the lock: what holds between any two steps of any threads.
use Rattle.std.specs.Prelude.{◌≡◌, ◌≢◌, ◌⊎◌, ℕ, ◌+◌, ◌*◌, ◌^◌, ◌<◌, ◌≤◌, true, false, List, [], ◌∷◌, Option, Some, None, All}
use mathlib.Core.Option.{some, none}
use lib.ListN.{get_elem?}
use Rattle.atomic_table.specs.Table.{State}
use Rattle.bfd_turn.specs.declared.view.View.{View}
use Rattle.bfd_turn.specs.declared.view.Role.TheVariants.{Holding, Joined}
use Rattle.bfd_turn.specs.Lists.{Begins, calls, has, numbers_of}

module _ {N B : Type 0} where
  -- the turns given back, over all views
  abbrev pub total_taken : List (View N B) → ℕ
  total_taken [] = 0
  total_taken (v ∷ vs) = v.taken + total_taken vs

  -- what a live view knows is true of the one history, and it alone has its number
  pub record Fits (by : N → ℕ) (history : List N) (lock_base : B) (now : ℕ) (made : List ℕ) (joined : List (ℕ × List N))
      (seat : ℕ → Option ℕ) (i : ℕ) (v : View N B) : Type 0 where
    pub seen : Begins v.seen history
    pub reported : Begins v.reported history
    pub calls_seen : calls by v.number history ≡ calls by v.number v.seen
    pub calls_own : calls by v.number history ≡ calls by v.number v.own
    pub base : v.base ≡ Some lock_base
    pub word : v.word ≤ now
    pub place : seat v.number ≡ Some i
    pub first : v.number ≡ 0 → (v.made ≡ made) × (v.joined ≡ joined)
    pub others : v.number ≢ 0 → v.joined ≡ []

module _ {V N B : Type 0} where
  -- the word is even: the value is at home, with the history for its notes, and nobody holds the turn
  pub record AtHome (notes : V → List N) (base : V → B) (history : List N) (lock_base : B) (now : ℕ)
      (s : State (Option V) (View N B)) : Type 0 where
    pub value : V
    pub home : s.homes ≡ some (Some value) ∷ []
    pub notes_are : notes value ≡ history
    pub base_is : base value ≡ lock_base
    pub even : now ≡ 2 * total_taken s.views
    pub nobody : (i : ℕ) (v : View N B) → get_elem? s.views i ≡ some v → v.role ≢ Holding

module _ {N B : Type 0} where
  -- the word is odd: one view holds the turn, and the history is that of the value when it was taken
  pub record Out (history : List N) (now : ℕ) (homes_out : Type 0) (views : List (View N B)) : Type 0 where
    pub holder : ℕ
    pub view : View N B
    pub at : get_elem? views holder ≡ some view
    pub holds : view.role ≡ Holding
    pub seen : view.seen ≡ history
    pub word : view.word ≡ now
    pub odd : now ≡ 2 * total_taken views + 1
    pub away : homes_out
    pub alone : (i : ℕ) (v : View N B) → get_elem? views i ≡ some v → v.role ≡ Holding → i ≡ holder

pub record Keeps {V N B : Type 0} (notes : V → List N) (by : N → ℕ) (base : V → B) (s : State (Option V) (View N B)) : Type 0 where
  -- the one history, the base, the word, what caller 0 has made and joined, and where the live view of each number stands
  pub history : List N
  pub lock_base : B
  pub now : ℕ
  pub made : List ℕ
  pub joined : List (ℕ × List N)
  pub seat : ℕ → Option ℕ
  pub words : s.words ≡ now ∷ []
  pub room : now + 1 < 2 ^ 64
  pub place : AtHome notes base history lock_base now s ⊎ Out history now (s.homes ≡ none ∷ []) s.views
  pub live : (i : ℕ) (v : View N B) → get_elem? s.views i ≡ some v → v.role ≢ Joined → Fits by history lock_base now made joined seat i v
  pub spent : (i : ℕ) (v : View N B) → get_elem? s.views i ≡ some v → v.role ≡ Joined → v.taken ≡ 0
  pub whole : (i : ℕ) × (v : View N B) × (get_elem? s.views i ≡ some v) × (v.role ≢ Joined) × (v.seen ≡ history)
  pub unmade : (n : ℕ) → n ≢ 0 → has n made ≡ false → (seat n ≡ None) × (calls by n history ≡ [])
  pub ended : (n : ℕ) → has n (numbers_of joined) ≡ true → (n ≢ 0) × (seat n ≡ None) × (has n made ≡ true)
  pub kept : All (λ (j : ℕ × List N). calls by j.0 history ≡ j.1) joined
