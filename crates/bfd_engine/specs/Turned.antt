-- What one turn of a shard shows to the caller that took it.
use Rattle.std.specs.Prelude.{ℕ, ◌≡◌, ◌≤◌, ◌<◌, ◌+◌, ◌*◌, ◌++◌, List, [], ◌∷◌, length, Option, None, Some}
use Rattle.bfd_rules.specs.declared.outputs.Out.{Out}
use Rattle.bfd_session.specs.Alone.{Outcome}
use Rattle.bfd_session.specs.declared.event.Answer.{Answer}
use Rattle.bfd_session.specs.declared.event.SessionConfig.{SessionConfig}
use Rattle.bfd_shard.specs.declared.entry.Entry.{Entry}
use Rattle.bfd_shard.specs.declared.entry.ShardEvent.{ShardEvent}
use Rattle.bfd_shard.specs.declared.entry.ShardEvent.TheVariants.{Own, Tick}
use Rattle.bfd_shard.specs.Expired.{expired, forgotten}
use Rattle.bfd_shard.specs.Shard.{NoneDue}
use Rattle.bfd_shard.specs.History.{events_of, last_tick, runs, outcome_of}
use Rattle.bfd_turn.specs.Lists.{calls}
use Rattle.bfd_turn.specs.declared.view.Known.{Known}
use Rattle.bfd_turn.specs.Passes.{last_word}
use Rattle.bfd_engine.specs.declared.locked.Base.{Base}
use Rattle.bfd_engine.specs.declared.turn.TurnFault.{TurnFault}
use Rattle.bfd_engine.specs.declared.turn.TurnFault.TheVariants.{Memory, Full, Spent}

-- what a pass knows of a shard
abbrev pub OfShard : Type 0
OfShard = Known Entry Base

-- the caller that brought an entry
abbrev pub by : Entry → ℕ
by entry = entry.caller

-- an entry
abbrev pub entry_of : ℕ → ShardEvent → Entry
entry_of caller event = record { caller = caller; event = event }

-- the configurations of a shard's sessions
abbrev pub configs_in : Option Base → List SessionConfig
configs_in None = []
configs_in (Some base) = base.configs

-- the limit on the entries of its journal
abbrev pub limit_in : Option Base → ℕ
limit_in None = 0
limit_in (Some base) = base.limit

-- how many outputs an event may give in a shard of these sessions: five for an own event, five for each session at a tick
abbrev pub room_in : List SessionConfig → ShardEvent → ℕ
room_in configs (Own place moment event) = 5
room_in configs (Tick t) = 5 * length configs

-- the outputs and the answer of an event that comes after these entries, in a shard of sessions with these configurations
abbrev pub given_after : List SessionConfig → List Entry → ShardEvent → Outcome
given_after configs before event = outcome_of (last_tick (events_of before)) event (runs (events_of before) configs)

-- what stays the same when the pass p becomes q by a turn of the shard; the word that it has met doesn't fall, and it has given
-- back one turn at most
pub record IsSame (p q : OfShard) : Type 0 where
  pub number : q.number ≡ p.number
  pub base_is : q.base ≡ p.base
  pub made : q.made ≡ p.made
  pub joined : q.joined ≡ p.joined
  pub word : p.word ≤ q.word
  pub taken : q.taken ≤ p.taken + 1

-- a turn was taken, at a word that was below the last, and given back
pub record HadTurn (p q : OfShard) : Type 0 where
  pub counted : q.taken ≡ p.taken + 1
  pub later : p.word < q.word
  pub left : q.word ≤ last_word

-- q has seen what p had, then only entries of other callers, and last its own entry of this event. Before that entry the journal was
-- below its limit. The outputs that were appended and the answer are those of that entry after the entries before it
pub record HasTurned (p : OfShard) (event : ShardEvent) (q : OfShard) (outs outs2 : List Out) (answer : Answer) : Type 0 where
  pub between : List Entry
  pub others : calls by p.number between ≡ []
  pub seen : q.seen ≡ (p.seen ++ between) ++ entry_of p.number event ∷ []
  pub below : length (p.seen ++ between) < limit_in p.base
  pub had : HadTurn p q
  pub reported : outs2 ≡ outs ++ (given_after (configs_in p.base) (p.seen ++ between) event).items
  pub answered : answer ≡ (given_after (configs_in p.base) (p.seen ++ between) event).answer

-- what a tick did that is the last entry seen: exactly the sessions that it expires forgot that a packet was heard (RFC 5880
-- section 6.8.4), and nothing is left that is due by the last tick
pub record HasExpired (configs : List SessionConfig) (caller t : ℕ) (seen : List Entry) : Type 0 where
  pub before : List Entry
  pub last : seen ≡ before ++ entry_of caller (Tick t) ∷ []
  pub exact : forgotten (runs (events_of before) configs) (runs (events_of seen) configs) ≡ expired configs (events_of before) t
  pub none_due : NoneDue (last_tick (events_of seen)) (runs (events_of seen) configs)

-- of an own event this says nothing
abbrev pub IsTimely : List SessionConfig → ℕ → ShardEvent → List Entry → Type 0
IsTimely configs caller (Own place moment event) seen = Unit {0}
IsTimely configs caller (Tick t) seen = HasExpired configs caller t seen

-- q has seen what p had, and then only entries of other callers
pub record HasLooked (p q : OfShard) : Type 0 where
  pub between : List Entry
  pub others : calls by p.number between ≡ []
  pub seen : q.seen ≡ p.seen ++ between

-- why a turn added no entry: out of memory, with a journal below its limit; the journal that was seen is at its limit; or the
-- lock's last word was met
abbrev pub IsTurnCause : TurnFault → OfShard → Type 0
IsTurnCause Memory q = length q.seen < limit_in q.base
IsTurnCause (Full n) q = (length q.seen ≡ n) × (n ≡ limit_in q.base)
IsTurnCause (Spent word) q = (word ≡ last_word) × (q.word ≡ word)

-- what a refusal used: a turn; or none, and then nothing new was seen
abbrev pub WasUsed : TurnFault → OfShard → OfShard → Type 0
WasUsed Memory p q = HadTurn p q
WasUsed (Full n) p q = HadTurn p q
WasUsed (Spent word) p q = (q.taken ≡ p.taken) × (q.seen ≡ p.seen)
