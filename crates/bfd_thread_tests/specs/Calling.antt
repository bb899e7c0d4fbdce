-- What the calls of a thread resolve to.
use Rattle.std.specs.Prelude.{ℕ, ◌≡◌, ◌≤◌, ◌%◌, ◌++◌, List, [], ◌∷◌, length, OnOk}
use Rattle.bfd_session.specs.declared.event.Event.TheVariants.{Command as CommandEvent}
use Rattle.bfd_shard.specs.declared.entry.ShardEvent.TheVariants.{Tick as TickEvent}
use Rattle.bfd_turn.specs.Lists.{Begins}
use Rattle.bfd_engine.specs.Engines.{Shards, Knows}
use Rattle.bfd_engine.specs.Calls.{Act, Turns, IsDone, arrival_act, asking_by_discr, seen_at, met_word, made_at, kept_at}
use Rattle.bfd_thread_tests.specs.declared.embedding.threads.Call.{Call}
use Rattle.bfd_thread_tests.specs.declared.embedding.threads.Call.TheVariants.{Packet, Command, Advance}
use Rattle.bfd_thread_tests.specs.declared.embedding.threads.Saw.{Saw}
use Rattle.bfd_thread_tests.specs.declared.embedding.threads.Job.{Job}
use Rattle.bfd_thread_tests.specs.Ready.{IsJobReady}

-- what a call resolves to
abbrev pub act_of : Shards → Call → Act
act_of engine (Packet moment arrival) = arrival_act engine moment arrival
act_of engine (Command moment discr cmd) = asking_by_discr engine moment discr (CommandEvent cmd)
act_of engine (Advance shard tick) = Turns (shard % length engine.locks) (TickEvent tick)

-- a pass that knew k made this call, knows l after it, and observed this
abbrev pub WasMade : Shards → Call → Knows → Knows → Saw → Type 0
WasMade engine call k l saw = IsDone (act_of engine call) engine k l [] saw.outs.items saw.answer

-- .. these calls, from the last of the list to its first, and observed this of each, in the order in which they were made
abbrev pub WereMade : Shards → List Call → Knows → Knows → List Saw → Type 0
WereMade engine [] k l saw = (l ≡ k) × (saw ≡ [])
WereMade engine (call ∷ calls) k l saw =
    (m : Knows) × (before : List Saw) × (last : Saw) × WereMade engine calls k m before × WasMade engine call m l last
    × (saw ≡ before ++ last ∷ [])

-- a pass that knew k knows l after calls of its own: what it has seen of each shard only grew, no word that it met fell, and what
-- it made and joined is as before
pub record HasGrown (k l : Knows) : Type 0 where
  pub number : l.0 ≡ k.0
  pub used : l.2 ≡ k.2
  pub seen : (shard : ℕ) → Begins (seen_at k shard) (seen_at l shard)
  pub word : (shard : ℕ) → met_word k shard ≤ met_word l shard
  pub made : (shard : ℕ) → made_at l shard ≡ made_at k shard
  pub kept : (shard : ℕ) → kept_at l shard ≡ kept_at k shard

-- a job before and after some of its calls: those that it no longer has were made
pub record HasCalled (engine : Shards) (before after : Job) : Type 0 where
  pub ready : IsJobReady engine after
  pub grown : HasGrown before.pass after.pass
  pub done : List Call
  pub news : List Saw
  pub calls : before.calls.items ≡ after.calls.items ++ done
  pub saw : after.saw.items ≡ before.saw.items ++ news
  pub made : WereMade engine done before.pass after.pass news

-- .. and it ended: all its calls were made, or memory ran out
pub record HasEndedCalls (engine : Shards) (before after : Job) : Type 0 where
  pub worked : HasCalled engine before after
  pub all : OnOk after.ended (after.calls.items ≡ [])
