-- What clients of an engine's shards receive after an event.
use Rattle.std.specs.Prelude.{ℕ, zero, suc, ◌≡◌, ◌<◌, ◌++◌, List, [], ◌∷◌, length, map, drop, slice_get, nat_lt, if◌then◌else◌, Option}
use Rattle.std.specs.Prelude.{Some}
use Rattle.bfd_shard.specs.declared.entry.Entry.{Entry}
use Rattle.bfd_turn.specs.Lists.{Begins}
use Rattle.bfd_turn.specs.Passes.{last_word}
use Rattle.bfd_engine.specs.declared.fault.EngineFault.{EngineFault}
use Rattle.bfd_engine.specs.declared.fault.EngineFault.TheVariants.{Memory, Full, Spent}
use Rattle.bfd_engine.specs.Engines.{Shards, Knows, configs_at}
use Rattle.bfd_engine.specs.Calls.{seen_at, met_word}
use Rattle.bfd_watch.specs.declared.change.Change.{Change}
use Rattle.bfd_watch.specs.declared.change.WatchFault.{WatchFault}
use Rattle.bfd_watch.specs.declared.change.WatchFault.TheVariants as watch
use Rattle.bfd_watch.specs.Watching.{Watching, watching, reported_by}

-- the changes that these entries report, one after another
abbrev pub reported_after : Watching → List Entry → List Change
reported_after w [] = []
reported_after w (entry ∷ entries) = reported_by w entry ++ reported_after (record w { entries = w.entries ++ entry ∷ [] }) entries

-- a change, reported for the event of this number of a script
abbrev pub of_event : ℕ → Change → Change
of_event number change = record change { number = number }

-- what a watch reports for the event of this number, when its shard's history is now this
abbrev pub news : ℕ → Watching → List Entry → List Change
news number w seen = map (of_event number) (reported_after w (drop (length w.entries) seen))

-- the first ones of these changes, as long as their session has a lower discriminator
abbrev pub lower : ℕ → List Change → List Change
lower discr [] = []
lower discr (c ∷ cs) = if nat_lt c.discr discr then c ∷ lower discr cs else []

-- and what comes after those
abbrev pub not_lower : ℕ → List Change → List Change
not_lower discr [] = []
not_lower discr (c ∷ cs) = if nat_lt c.discr discr then not_lower discr cs else c ∷ cs

-- two lists of changes as one: each change of the first comes after those of the second that have a lower discriminator
abbrev pub merged : List Change → List Change → List Change
merged [] more = more
merged (c ∷ cs) more = lower c.discr more ++ c ∷ merged cs (not_lower c.discr more)

-- what the first so many shards report, as one
abbrev pub merged_of : ℕ → (ℕ → List Change) → List Change
merged_of zero reported = []
merged_of (suc n) reported = merged (merged_of n reported) (reported n)

-- this is the watch of a shard, and it has received a prefix of what a caller has seen of the shard
pub record IsBehind (engine : Shards) (limit : ℕ) (k : Knows) (r : ℕ) (found : Option Watching) : Type 0 where
  pub before : List Entry
  pub is : found ≡ Some (watching (configs_at engine r) before limit)
  pub begins : Begins before (seen_at k r)

pub record AreBehind (engine : Shards) (limit : ℕ) (k : Knows) (watches : List Watching) : Type 0 where
  pub long : length watches ≡ length engine.locks
  pub each : (r : ℕ) → r < length engine.locks → IsBehind engine limit k r (slice_get watches r)

-- a watch of each shard has received what a caller has seen of the shard
pub record AreWatched (engine : Shards) (limit : ℕ) (k : Knows) (watches : List Watching) : Type 0 where
  pub long : length watches ≡ length engine.locks
  pub each : (r : ℕ) → r < length engine.locks → slice_get watches r ≡ Some (watching (configs_at engine r) (seen_at k r) limit)

-- why a watch didn't receive all entries that a caller has seen of a shard
abbrev pub IsUntaken : EngineFault → Shards → ℕ → ℕ → Knows → Type 0
IsUntaken Memory engine limit shard l = Unit {0}
IsUntaken (Full at n) engine limit shard l = (at ≡ shard) × (limit < length (seen_at l shard))
IsUntaken (Spent at word) engine limit shard l = (at ≡ shard) × (met_word l shard ≡ last_word)

-- why some of these entries weren't received
abbrev pub IsLeft : WatchFault → Watching → List Entry → Type 0
IsLeft (watch.Full count) w entries = w.limit < length (w.entries ++ entries)
IsLeft watch.Memory w entries = Unit {0}
