-- How the calls that make, join and end passes change them, shard by shard.
use Rattle.std.specs.Prelude.{ℕ, ◌≡◌, ◌≢◌, ◌≤◌, ◌<◌, ◌+◌, ◌*◌, ◌++◌, true, false, List, [], ◌∷◌, length, slice_get, Option, Some}
use Rattle.bfd_turn.specs.Lists.{Begins, longer, calls, has, numbers_of}
use Rattle.bfd_turn.specs.Plays.{AllKept}
use Rattle.bfd_turn.specs.Passes.{TableId, having_made, made_by, having_joined}
use Rattle.bfd_engine.specs.Turned.{by, OfShard}
use Rattle.bfd_session.specs.Kinds.{configs_of}
use Rattle.bfd_shard.specs.Shard.{Shard}
use Rattle.bfd_engine.specs.Engines.{Shards, Held, Knows, configs_at}
use Rattle.bfd_engine.specs.Calls.{seen_at, met_word, taken_at, made_at, kept_at, mine}

-- on a shard caller 0 knew k, and knows l after it has made a pass, which knows o
pub record Parted (k l o : Knows) (shard : ℕ) : Type 0 where
  pub seen : seen_at l shard ≡ seen_at k shard
  pub word : met_word l shard ≡ met_word k shard
  pub taken : taken_at l shard ≡ taken_at k shard
  pub made : made_at l shard ≡ made_at k shard ++ o.0 ∷ []
  pub kept : kept_at l shard ≡ kept_at k shard
  pub seen_new : seen_at o shard ≡ seen_at k shard
  pub word_new : met_word o shard ≡ met_word k shard
  pub taken_new : taken_at o shard ≡ 0
  pub fresh : calls by o.0 (seen_at k shard) ≡ []

-- a shard's pass before and after it made a pass with this number, and that new pass
pub record IsCut (number : ℕ) (before after new : Option Held) : Type 0 where
  pub pass : TableId × OfShard
  pub before_is : before ≡ Some (Some pass)
  pub after_is : after ≡ Some (Some (pass.0, having_made number pass.1))
  pub new_is : new ≡ Some (Some (pass.0, made_by number pass.1))
  pub fresh : calls by number pass.1.seen ≡ []

-- the shards below a place were cut, and the others are as before
pub record AreCut (number at : ℕ) (before after new : List Held) : Type 0 where
  pub long : length new ≡ at
  pub below : (k : ℕ) → k < at → IsCut number (slice_get before k) (slice_get after k) (slice_get new k)
  pub left : (k : ℕ) → at ≤ k → slice_get after k ≡ slice_get before k

-- a shard's pass was cut, and the others are as before
pub record CutsAt (number at : ℕ) (before after : List Held) (new : TableId × OfShard) : Type 0 where
  pub cut : IsCut number (slice_get before at) (slice_get after at) (Some (Some new))
  pub left : (k : ℕ) → k ≢ at → slice_get after k ≡ slice_get before k

-- on a shard caller 0 knew k, and knows l after it has joined a pass that knew o. It has seen the longer of the two lists, of
-- which each is a prefix. It made no further call of its own, and keeps the other's number and calls
pub record Joined (k o l : Knows) (shard : ℕ) : Type 0 where
  pub seen : seen_at l shard ≡ longer (seen_at k shard) (seen_at o shard)
  pub first : Begins (seen_at k shard) (seen_at l shard)
  pub other : Begins (seen_at o shard) (seen_at l shard)
  pub own : mine l shard ≡ mine k shard
  pub kept : kept_at l shard ≡ kept_at k shard ++ (o.0, mine o shard) ∷ []
  pub word : met_word k shard ≤ met_word l shard
  pub word_other : met_word o shard ≤ met_word l shard
  pub taken : taken_at l shard ≡ taken_at k shard + taken_at o shard
  pub made : made_at l shard ≡ made_at k shard

-- a shard's two passes, of which the second is this caller's, and the first after it joined the second
pub record IsGlued (number : ℕ) (before theirs after : Option Held) : Type 0 where
  pub pass : TableId × OfShard
  pub other : TableId × OfShard
  pub word : ℕ
  pub before_is : before ≡ Some (Some pass)
  pub theirs_is : theirs ≡ Some (Some other)
  pub after_is : after ≡ Some (Some (pass.0, having_joined by word pass.1 other.1))
  pub number_is : other.1.number ≡ number
  pub later : pass.1.word ≤ word
  pub later_theirs : other.1.word ≤ word
  pub begins : Begins pass.1.seen (longer pass.1.seen other.1.seen)
  pub begins_theirs : Begins other.1.seen (longer pass.1.seen other.1.seen)
  pub own : calls by 0 (longer pass.1.seen other.1.seen) ≡ calls by 0 pass.1.seen

-- the shards below a place were joined, and the others are as before
pub record AreGlued (number at : ℕ) (before theirs after rest : List Held) : Type 0 where
  pub below : (k : ℕ) → k < at → IsGlued number (slice_get before k) (slice_get theirs k) (slice_get after k)
  pub left : (k : ℕ) → at ≤ k → slice_get after k ≡ slice_get before k
  pub theirs_left : (k : ℕ) → at ≤ k → slice_get rest k ≡ slice_get theirs k

-- a shard's passes were joined, and the others are as before
pub record GluesAt (number at : ℕ) (before theirs after rest : List Held) : Type 0 where
  pub glued : IsGlued number (slice_get before at) (slice_get theirs at) (slice_get after at)
  pub left : (k : ℕ) → k ≢ at → slice_get after k ≡ slice_get before k
  pub theirs_left : (k : ℕ) → k ≢ at → slice_get rest k ≡ slice_get theirs k

-- every pass that was made was joined, on each shard
abbrev pub EachJoined : Shards → Knows → Type 0
EachJoined engine pass = (shard n : ℕ) → shard < length engine.locks → has n (made_at pass shard) ≡ true
    → has n (numbers_of (kept_at pass shard)) ≡ true

-- a closed shard: its journal is the one history that the pass has seen. Each joined pass has the calls there that are kept of
-- it, and a number that was never made has none
pub record IsClosed (engine : Shards) (pass : Knows) (number : ℕ) (shard : Shard) : Type 0 where
  pub journal : shard.journal ≡ seen_at pass number
  pub configs : configs_of shard.sessions ≡ configs_at engine number
  pub limit : shard.limit ≡ engine.limit
  pub word : met_word pass number ≤ 2 * taken_at pass number
  pub kept : AllKept by (kept_at pass number) shard.journal
  pub unmade : (n : ℕ) → n ≢ 0 → has n (made_at pass number) ≡ false → calls by n shard.journal ≡ []

pub record AreClosed (engine : Shards) (pass : Knows) (shards : List Shard) : Type 0 where
  pub long : length shards ≡ length engine.locks
  pub each : (number : ℕ) (shard : Shard) → slice_get shards number ≡ Some shard → IsClosed engine pass number shard
