-- What a worker does on a shard, and what holds of it if no other caller has an entry there.
use Rattle.std.specs.Prelude.{ℕ, Bool, true, false, ◌≡◌, ◌≢◌, ◌≤◌, ◌<◌, ◌++◌, List, [], ◌∷◌, length, map, slice_index_or}
use Rattle.std.specs.List.{AllByRecursion}
use Rattle.bfd_session.specs.Step.{started}
use Rattle.bfd_shard.specs.declared.entry.Entry.{Entry}
use Rattle.bfd_shard.specs.declared.entry.ShardEvent.{ShardEvent}
use Rattle.bfd_shard.specs.declared.entry.ShardEvent.TheVariants.{Own, Tick}
use Rattle.bfd_shard.specs.Shard.{CanHappen}
use Rattle.bfd_turn.specs.Lists.{calls}
use Rattle.bfd_turn.specs.Passes.{last_word}
use Rattle.bfd_engine.specs.declared.fault.EngineFault.{EngineFault}
use Rattle.bfd_engine.specs.declared.fault.EngineFault.TheVariants.{Memory, Full, Spent}
use Rattle.bfd_engine.specs.Turned.{by, entry_of, given_after}
use Rattle.bfd_engine.specs.Engines.{Shards, Knows, IsOf, AllThere, configs_at}
use Rattle.bfd_engine.specs.Calls.{seen_at, met_word, taken_at}
use Rattle.bfd_replay.specs.declared.report.queue.Numbered.{Numbered}
use Rattle.bfd_replay.specs.Pieces.{Piece, event_pieces}
use Rattle.bfd_replay.specs.Happenings.{shard_pieces}

-- the entries of these events, all brought by this caller
abbrev pub entries_by : ℕ → List ShardEvent → List Entry
entries_by caller events = map (entry_of caller) events

-- the events of a queue
abbrev pub events_in : List Numbered → List ShardEvent
events_in queue = map (λ e. e.event) queue

-- each event of the queue is one that the shard's sessions may be given
abbrev pub AreMet : Shards → ℕ → List Numbered → Type 0
AreMet engine shard queue = AllByRecursion (λ e. CanHappen (configs_at engine shard) e.event) queue

-- this caller brought every entry
abbrev pub IsSole : ℕ → List Entry → Type 0
IsSole caller seen = AllByRecursion (λ entry. by entry ≡ caller) seen

-- a caller did the first events of a shard's queue, and had done nothing there before. If it is the shard's only caller, it has seen
-- exactly their entries, and reported exactly their outcomes
pub record HasDoneEvents (engine : Shards) (shard caller : ℕ) (done : List Numbered) (seen : List Entry) (taken : ℕ)
    (part : List Piece) : Type 0 where
  pub seen_is : IsSole caller seen → seen ≡ entries_by caller (events_in done)
  pub reported_is : IsSole caller seen → part ≡ shard_pieces 0 done (map started (configs_at engine shard))
  pub few : taken ≤ length done

-- why it stopped at an event of the queue: out of memory; a full journal, which has fewer entries than the queue if it is the only
-- caller; or the lock's last word
abbrev pub IsStop : EngineFault → ℕ → ℕ → ℕ → List Entry → ℕ → Type 0
IsStop Memory limit caller most seen word = Unit {0}
IsStop (Full at n) limit caller most seen word = (length seen ≡ limit) × (IsSole caller seen → length seen < most)
IsStop (Spent at last) limit caller most seen word = word ≡ last_word

-- it stopped so at this shard, whose queue is so long
abbrev pub IsStopAt : EngineFault → Shards → ℕ → ℕ → Knows → Type 0
IsStopAt fault engine shard most l = IsStop fault engine.limit l.0 most (seen_at l shard) (met_word l shard)

-- a turn of a shard, which it took with an event and reported
pub record HasReported (engine : Shards) (shard : ℕ) (e : Numbered) (k l : Knows) (part part2 : List Piece) : Type 0 where
  pub between : List Entry
  pub others : calls by k.0 between ≡ []
  pub here : seen_at l shard ≡ (seen_at k shard ++ between) ++ entry_of k.0 e.event ∷ []
  pub pieces : part2 ≡ part ++ event_pieces e.number e.event (given_after (configs_at engine shard) (seen_at k shard ++ between) e.event)

-- a turn of a shard that was refused
abbrev pub IsTurnRefused : EngineFault → Shards → ℕ → Knows → Knows → Type 0
IsTurnRefused Memory engine shard k l = Unit {0}
IsTurnRefused (Full at n) engine shard k l =
    (length (seen_at l shard) ≡ engine.limit) × ((between : List Entry) × (calls by k.0 between ≡ [])
    × (seen_at l shard ≡ seen_at k shard ++ between))
IsTurnRefused (Spent at word) engine shard k l = met_word l shard ≡ last_word

-- what it knows of no other shard has changed
pub record IsElsewhere (k l : Knows) (shard : ℕ) : Type 0 where
  pub number : l.0 ≡ k.0
  pub seen : (r : ℕ) → r ≢ shard → seen_at l r ≡ seen_at k r
  pub taken : (r : ℕ) → r ≢ shard → taken_at l r ≡ taken_at k r

-- a caller that has done nothing on a shard
pub record IsIdle (k : Knows) (shard : ℕ) : Type 0 where
  pub seen : seen_at k shard ≡ []
  pub taken : taken_at k shard ≡ 0

-- of a shard, when its worker has ended: at most as many turns as events, and nothing seen if it had none
pub record HasUsedAt (l : Knows) (shard : ℕ) (queue : List Numbered) : Type 0 where
  pub few : taken_at l shard ≤ length queue
  pub none : queue ≡ [] → IsIdle l shard

abbrev pub HasDoneAt : Shards → ℕ → List Numbered → Knows → List Piece → Type 0
HasDoneAt engine shard queue l part = HasDoneEvents engine shard l.0 queue (seen_at l shard) (taken_at l shard) part

-- what is required of a worker's pass: it is of this engine, has seen nothing, and the worker's queues, one for each shard, hold
-- events that the shards' sessions may be given
pub record IsWorkerReady (engine : Shards) (queues : List (List Numbered)) (k : Knows) : Type 0 where
  pub of : IsOf engine k.1
  pub there : AllThere k.1
  pub some : 0 < length engine.locks
  pub few : length engine.locks ≤ 64
  pub long : length queues ≡ length engine.locks
  pub met : (shard : ℕ) → shard < length engine.locks → AreMet engine shard (slice_index_or queues shard [])
  pub idle : (shard : ℕ) → shard < length engine.locks → IsIdle k shard

-- a part of each shard: all events of the worker's queues were done
pub record HasFinished (engine : Shards) (queues : List (List Numbered)) (l : Knows) (parts : List (List Piece)) : Type 0 where
  pub long : length parts ≡ length engine.locks
  pub done : (shard : ℕ) → shard < length engine.locks
      → HasDoneAt engine shard (slice_index_or queues shard []) l (slice_index_or parts shard [])

-- the shard at which it stopped
pub record HasStopped (engine : Shards) (queues : List (List Numbered)) (l : Knows) (fault : EngineFault) : Type 0 where
  pub shard : ℕ
  pub inside : shard < length engine.locks
  pub stop : IsStopAt fault engine shard (length (slice_index_or queues shard [])) l

-- what every worker leaves, however it ended
pub record HasLeft (engine : Shards) (queues : List (List Numbered)) (k l : Knows) : Type 0 where
  pub of : IsOf engine l.1
  pub there : AllThere l.1
  pub number : l.0 ≡ k.0
  pub used : (shard : ℕ) → shard < length engine.locks → HasUsedAt l shard (slice_index_or queues shard [])

-- an event of every session
abbrev pub is_tick : ShardEvent → Bool
is_tick (Own place moment event) = false
is_tick (Tick t) = true
