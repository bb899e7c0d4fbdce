-- A turn that is held, and why one isn't given.
use Rattle.std.specs.Prelude.{ℕ, ◌≡◌, ◌≢◌, ◌<◌, ◌++◌, List, [], slice_get, slice_set, Some, None}
use Rattle.bfd_turn.specs.Lists.{calls}
use Rattle.bfd_turn.specs.Passes.{TableId, WasBusy, WasSpent}
use Rattle.bfd_shard.specs.declared.entry.Entry.{Entry}
use Rattle.bfd_engine.specs.declared.holding.HoldFault.{HoldFault}
use Rattle.bfd_engine.specs.declared.holding.HoldFault.TheVariants.{Busy, Spent}
use Rattle.bfd_engine.specs.Turned.{by, OfShard}
use Rattle.bfd_engine.specs.Engines.{Shards, Knows, IsCallers, base_at}
use Rattle.bfd_engine.specs.Calls.{seen_at, met_word, taken_at, made_at, kept_at}

-- a held turn: the shard, its lock, and what the pass knows of it
abbrev pub Holding : Type 0
Holding = ℕ × TableId × OfShard

-- the turn is of this pass of the engine, which has no pass of the shard meanwhile
pub record IsHeld (engine : Shards) (pass : Knows) (hold : Holding) : Type 0 where
  pub lock_is : slice_get engine.locks hold.0 ≡ Some hold.1
  pub base_is : hold.2.base ≡ Some (base_at engine hold.0)
  pub callers : IsCallers pass.0 pass.2 hold.2
  pub out : slice_get pass.1 hold.0 ≡ Some None

-- a pass that knew k took the turn of a shard: it has seen what it had, and then only entries of other callers
pub record HasTaken (engine : Shards) (shard : ℕ) (k l : Knows) (hold : Holding) : Type 0 where
  pub between : List Entry
  pub shard_is : hold.0 ≡ shard
  pub held : IsHeld engine l hold
  pub rest : l ≡ (k.0, slice_set k.1 shard None, k.2)
  pub others : calls by k.0 between ≡ []
  pub seen : hold.2.seen ≡ seen_at k shard ++ between
  pub word : met_word k shard < hold.2.word
  pub taken : hold.2.taken ≡ taken_at k shard
  pub made : hold.2.made ≡ made_at k shard
  pub kept : hold.2.joined ≡ kept_at k shard

-- a pass has met a word of a shard's lock, and otherwise is as before
pub record HasMet (word shard : ℕ) (k l : Knows) : Type 0 where
  pub number : l.0 ≡ k.0
  pub used : l.2 ≡ k.2
  pub here : met_word l shard ≡ word
  pub seen : (r : ℕ) → seen_at l r ≡ seen_at k r
  pub taken : (r : ℕ) → taken_at l r ≡ taken_at k r
  pub made : (r : ℕ) → made_at l r ≡ made_at k r
  pub kept : (r : ℕ) → kept_at l r ≡ kept_at k r
  pub word_elsewhere : (r : ℕ) → r ≢ shard → met_word l r ≡ met_word k r

-- what a shard's pass knew, if it has one
abbrev pub KnewBefore : (OfShard → Type 0) → Knows → ℕ → Type 0
KnewBefore P k shard = (p : TableId × OfShard) × (slice_get k.1 shard ≡ Some (Some p)) × P p.1

-- why no turn was given: another has it, or took it before the exchange; or none is left
abbrev pub IsKept : HoldFault → ℕ → Knows → Knows → Type 0
IsKept (Busy read found) shard k l = HasMet found shard k l × KnewBefore (λ v. WasBusy v read found) k shard
IsKept (Spent word) shard k l = HasMet word shard k l × KnewBefore (λ v. WasSpent v word) k shard
