-- A sorted table: entries by key, in ascending order, each key once.
use Rattle.std.specs.Prelude.{◌≡◌, ◌<◌, ◌≤◌, ℕ, Bool, List, length, slice_index_or}
use Rattle.std.specs.List.{filter}
use Rattle.std.specs.Ordering.{is_eq, is_lt}
use Rattle.std.specs.declared.cmp.Ordering.{Ordering}
use Rattle.std.specs.declared.cmp.Ordering.TheVariants.{Less, Equal, Greater}

-- how many entries pass the test
abbrev pub how_many : {X : Type 0} → (X → Bool) → List X → ℕ
how_many test xs = length (filter test xs)

-- ys has the elements of xs, in any order: each test passes as many
abbrev pub HasSame : {X : Type 0} → List X → List X → Type 0
HasSame {X} xs ys = (test : X → Bool) → how_many test ys ≡ how_many test xs

-- no key comes twice
abbrev pub HasKeysOnce : {K V : Type 0} → (K → K → Ordering) → List (K × V) → Type 0
HasKeysOnce {K} {V} cmp entries = (key : K) → how_many (λ entry. is_eq (cmp entry.0 key)) entries ≤ 1

-- every entry's key is below each later entry's
abbrev pub IsAscending : {K V : Type 0} → (K → K → Ordering) → List (K × V) → Type 0
IsAscending {K} {V} cmp entries = (i j : ℕ) (d : K × V) → i < j → j < length entries
    → cmp (slice_index_or entries i d).0 (slice_index_or entries j d).0 ≡ Less

-- the entry at this place has the key, and the place is the number of entries with a lower one
pub record IsPlaceOf {K V : Type 0} (cmp : K → K → Ordering) (entries : List (K × V)) (key : K) (place : ℕ) : Type 0 where
  pub within : place < length entries
  pub level : (d : K × V) → cmp (slice_index_or entries place d).0 key ≡ Equal
  pub lower : how_many (λ entry. is_lt (cmp entry.0 key)) entries ≡ place

-- an entry with the key has its place here: all before are lower, and all from here on higher
pub record IsSlotFor {K V : Type 0} (cmp : K → K → Ordering) (entries : List (K × V)) (key : K) (place : ℕ) : Type 0 where
  pub within : place ≤ length entries
  pub below : (k : ℕ) (d : K × V) → k < place → cmp (slice_index_or entries k d).0 key ≡ Less
  pub above : (k : ℕ) (d : K × V) → place ≤ k → k < length entries → cmp (slice_index_or entries k d).0 key ≡ Greater
