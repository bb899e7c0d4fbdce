-- What reading a shard's history changes.
use Rattle.std.specs.Prelude.{ℕ, ◌≡◌, List, []}
use Rattle.std.specs.List.{AllByRecursion}
use Rattle.bfd_session.specs.declared.event.SessionConfig.{SessionConfig}
use Rattle.bfd_shard.specs.declared.entry.Entry.{Entry}
use Rattle.bfd_shard.specs.Shard.{CanHappen}
use Rattle.bfd_turn.specs.Passes.{last_word}
use Rattle.bfd_engine.specs.declared.fault.EngineFault.{EngineFault}
use Rattle.bfd_engine.specs.declared.fault.EngineFault.TheVariants.{Memory, Full, Spent}
use Rattle.bfd_engine.specs.declared.turn.TurnFault.{TurnFault}
use Rattle.bfd_engine.specs.declared.turn.TurnFault.TheVariants.{Memory as NoMemory, Full as IsFull, Spent as IsSpent}
use Rattle.bfd_engine.specs.Turned.{OfShard}
use Rattle.bfd_engine.specs.Engines.{Knows}
use Rattle.bfd_engine.specs.Calls.{met_word, Turned}

-- each entry may be given to a shard of these sessions
abbrev pub AreGiven : List SessionConfig → List Entry → Type 0
AreGiven configs entries = AllByRecursion (λ entry. CanHappen configs entry.event) entries

-- k became l by a turn that added no entry: it has seen what it had, and then only entries of other callers
pub record HasRead (k l : Knows) (shard : ℕ) : Type 0 where
  pub between : List Entry
  pub turned : Turned k l shard between []

-- why a shard's history wasn't read: out of memory, or the lock's last word was met; a full journal can be read
abbrev pub IsHistoryUnread : TurnFault → OfShard → Type 0
IsHistoryUnread NoMemory q = Unit {0}
IsHistoryUnread (IsFull n) q = ⊥
IsHistoryUnread (IsSpent word) q = (word ≡ last_word) × (q.word ≡ word)

abbrev pub IsUnreadAt : EngineFault → ℕ → Knows → Type 0
IsUnreadAt Memory shard l = Unit {0}
IsUnreadAt (Full at n) shard l = ⊥
IsUnreadAt (Spent at word) shard l = (at ≡ shard) × (word ≡ last_word) × (met_word l shard ≡ word)
