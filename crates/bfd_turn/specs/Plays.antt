-- What each step on the lock's word shows its caller.
use Rattle.std.specs.Prelude.{◌≡◌, ◌≢◌, ℕ, ◌+◌, ◌^◌, ◌<◌, ◌≤◌, List, [], ◌∷◌, ◌++◌, length, Option, Some, All}
use Rattle.atomic_table.specs.Table.{Me, Step}
use Rattle.bfd_turn.specs.declared.view.View.{View}
use Rattle.bfd_turn.specs.Lists.{Begins, calls}
use Rattle.bfd_turn.specs.Views.{met, having_looked, holding, idle_after}

abbrev Sat : Type 0 → Type 0 → Type 0 → Type 0
Sat V N B = Me (Option V) (View N B)

module _ {N : Type 0} where
  -- the notes that were added since have no call of this caller
  abbrev pub Adds : (N → ℕ) → ℕ → List N → List N → Type 0
  Adds by number seen notes = (between : List N) × (notes ≡ seen ++ between) × (calls by number between ≡ [])

  -- each pass that was joined has the calls that are kept of it
  abbrev pub AllKept : (N → ℕ) → List (ℕ × List N) → List N → Type 0
  AllKept by joined notes = All (λ (j : ℕ × List N). calls by j.0 notes ≡ j.1) joined

module _ {N B : Type 0} where
  -- what a load shows: the word has reached what the view has met, and all that the view has seen is of one history
  pub record Shows (by : N → ℕ) (v : View N B) (n : ℕ) : Type 0 where
    pub reached : v.word ≤ n
    pub room : n + 1 < 2 ^ 64
    pub begins : length v.reported ≤ length v.seen → Begins v.reported v.seen
    pub own : calls by v.number v.seen ≡ calls by v.number v.own

module _ {V N B : Type 0} where
  -- a load that the view keeps
  abbrev pub looked : (N → ℕ) → Step (Option V) → Sat V N B → ℕ → Sat V N B → Type 0
  looked by st m n m' = (m' ≡ (having_looked n m.0, m.1)) × Shows by m.0 n

  -- a load that doesn't change the view
  abbrev pub checked : (N → ℕ) → Step (Option V) → Sat V N B → ℕ → Sat V N B → Type 0
  checked by st m n m' = (m' ≡ m) × Shows by m.0 n

  -- the value x is lent at the word n
  pub record Lent (notes : V → List N) (by : N → ℕ) (base : V → B) (v : View N B) (n : ℕ) (x : V) : Type 0 where
    pub reached : v.word ≤ n
    pub room : n + 2 < 2 ^ 64
    pub base_is : Some (base x) ≡ v.base
    pub adds : Adds by v.number v.seen (notes x)
    pub kept : AllKept by v.joined (notes x)

  -- the exchange took the turn, or it met another word
  pub record took (notes : V → List N) (by : N → ℕ) (base : V → B) (st : Step (Option V)) (m : Sat V N B) (n : ℕ) (m' : Sat V N B) : Type 0
    where
      pub won : n ≡ st.first → (x : V) × (m' ≡ (holding (notes x) (n + 1) m.0, (0, Some x) ∷ m.1)) × Lent notes by base m.0 n x
      pub lost : n ≢ st.first → (m' ≡ (met n m.0, m.1)) × (m.0.word ≤ n) × (n + 1 < 2 ^ 64)

  -- the turn was given back, with the value that is in hand
  abbrev pub released : (V → List N) → Step (Option V) → Sat V N B → ℕ → Sat V N B → Type 0
  released notes st m n m' = (x : V) → m.1 ≡ (0, Some x) ∷ [] → m' ≡ (idle_after (notes x) m.0, [])
