-- Passes that were split off one after another, and joined again.
use Rattle.std.specs.Prelude.{◌≡◌, ◌≢◌, ℕ, zero, suc, ◌+◌, ◌<◌, ◌≤◌, List, [], ◌∷◌, ◌++◌, length, map}
use Rattle.std.specs.List.{All, sum_by}
use Rattle.bfd_shard.specs.declared.entry.Entry.{Entry}
use Rattle.bfd_turn.specs.Lists.{Begins, numbers_of}
use Rattle.bfd_engine.specs.Engines.{Shards, Knows, IsOf, AllThere}
use Rattle.bfd_engine.specs.Calls.{seen_at, met_word, taken_at, kept_at, made_at, mine}

abbrev pub number_of : Knows → ℕ
number_of pass = pass.0

-- 1 to n
abbrev pub numbers : ℕ → List ℕ
numbers zero = []
numbers (suc n) = numbers n ++ suc n ∷ []

-- a pass of another caller than 0
pub record IsOther (engine : Shards) (pass : Knows) : Type 0 where
  pub of : IsOf engine pass.1
  pub there : AllThere pass.1
  pub number : pass.0 ≢ 0

-- .. that has seen nothing, and given back no turn
pub record IsFresh (engine : Shards) (pass : Knows) : Type 0 where
  pub other : IsOther engine pass
  pub seen : (shard : ℕ) → shard < length engine.locks → seen_at pass shard ≡ []
  pub taken : (shard : ℕ) → shard < length engine.locks → taken_at pass shard ≡ 0

-- caller 0 of a new engine split so many passes off
pub record HasSplit (engine : Shards) (l : Knows) (passes : List Knows) (count : ℕ) : Type 0 where
  pub of : IsOf engine l.1
  pub there : AllThere l.1
  pub number : l.0 ≡ 0
  pub long : length passes ≡ count
  pub numbers_are : map number_of passes ≡ numbers count
  pub each : All (IsFresh engine) passes
  pub seen : (shard : ℕ) → shard < length engine.locks → seen_at l shard ≡ []
  pub taken : (shard : ℕ) → shard < length engine.locks → taken_at l shard ≡ 0
  pub kept : (shard : ℕ) → shard < length engine.locks → kept_at l shard ≡ []
  pub made : (shard : ℕ) → shard < length engine.locks → made_at l shard ≡ numbers count

-- the number of each pass, and its calls on a shard
abbrev pub calls_kept : ℕ → List Knows → List (ℕ × List Entry)
calls_kept shard [] = []
calls_kept shard (pass ∷ passes) = (pass.0, mine pass shard) ∷ calls_kept shard passes

-- on a shard caller 0 knew k, and knows l after it has joined these passes, one after another. It has seen what each of them
-- had and no more. It made no further call of its own, and keeps the number and the calls of each
pub record AreJoined (k : Knows) (passes : List Knows) (l : Knows) (shard : ℕ) : Type 0 where
  pub own : mine l shard ≡ mine k shard
  pub kept : kept_at l shard ≡ kept_at k shard ++ calls_kept shard passes
  pub first : Begins (seen_at k shard) (seen_at l shard)
  pub each : All (λ pass. Begins (seen_at pass shard) (seen_at l shard)) passes
  pub least : (h : List Entry) → Begins (seen_at k shard) h → All (λ pass. Begins (seen_at pass shard) h) passes
      → Begins (seen_at l shard) h
  pub word : met_word k shard ≤ met_word l shard
  pub words : All (λ pass. met_word pass shard ≤ met_word l shard) passes
  pub taken : taken_at l shard ≡ taken_at k shard + sum_by (λ pass. taken_at pass shard) passes
  pub made : made_at l shard ≡ made_at k shard

-- a pass that has no calls
abbrev pub HasNoCalls : ℕ × List Entry → Type 0
HasNoCalls kept = kept.1 ≡ []

-- caller 0 of a new engine whose passes did nothing, and were all joined again
pub record IsUnserved (engine : Shards) (l : Knows) : Type 0 where
  pub of : IsOf engine l.1
  pub there : AllThere l.1
  pub number : l.0 ≡ 0
  pub seen : (shard : ℕ) → shard < length engine.locks → seen_at l shard ≡ []
  pub taken : (shard : ℕ) → shard < length engine.locks → taken_at l shard ≡ 0
  pub kept : (shard : ℕ) → shard < length engine.locks → All HasNoCalls (kept_at l shard)
  pub made : (shard : ℕ) → shard < length engine.locks → made_at l shard ≡ numbers_of (kept_at l shard)
