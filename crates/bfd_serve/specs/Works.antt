-- What a worker and a timer did.
use Rattle.std.specs.Prelude.{◌≡◌, ◌⊎◌, ℕ, ◌+◌, ◌*◌, ◌^◌, ◌<◌, ◌≤◌, true, false, List, [], ◌∷◌, ◌++◌, length, Result, Ok, Err}
use Rattle.bfd_packet.specs.declared.arrival.Arrival.{Arrival}
use Rattle.bfd_packet.specs.declared.arrival.Datagram.{Datagram}
use Rattle.bfd_session.specs.declared.event.Answer.{Answer}
use Rattle.bfd_rules.specs.declared.outputs.Out.{Out}
use Rattle.bfd_shard.specs.declared.entry.Entry.{Entry}
use Rattle.bfd_shard.specs.declared.entry.ShardEvent.{ShardEvent}
use Rattle.bfd_turn.specs.Lists.{Begins}
use Rattle.bfd_turn.specs.Passes.{last_word}
use Rattle.bfd_edge.specs.Faults.{risen}
use Rattle.bfd_edge.specs.Links.{LinkObserved, more_traffic}
use Rattle.bfd_engine.specs.declared.fault.EngineFault.{EngineFault}
use Rattle.bfd_engine.specs.declared.fault.EngineFault.TheVariants as fault
use Rattle.bfd_engine.specs.Engines.{Shards, Knows, configs_at}
use Rattle.bfd_engine.specs.Calls.{Act, Turns, seen_at, met_word, taken_at, made_at, kept_at, mine}
use Rattle.bfd_serve.specs.declared.ending.End.{End}
use Rattle.bfd_serve.specs.declared.ending.End.TheVariants.{Ended, LinkFault, ClockFault, Full, Turns as TurnsMade, Spent, Memory}
use Rattle.bfd_serve.specs.Calls.{calls_of, entries, datagrams, sends_of_acts, Lacks, worker_acts}

-- the packets of some outputs were sent, except those that failed and these last ones, which weren't tried
pub record HasSent (packets untried : List Datagram) (t u : LinkObserved) (lost after : ℕ) : Type 0 where
  pub tried : List Datagram
  pub kept : List Datagram
  pub missing : ℕ
  pub parts : packets ≡ tried ++ untried
  pub lacks : Lacks tried kept missing
  pub observed : u ≡ record t {
    traffic = more_traffic [] kept t.traffic;
    counts = record t.counts { send_faults = risen t.counts.send_faults missing };
  }
  pub lost_is : after ≡ risen lost missing

-- the end that a fault of the engine brings
abbrev pub end_of : EngineFault → End
end_of fault.Memory = Memory
end_of (fault.Full shard length) = Full shard length
end_of (fault.Spent shard word) = Spent shard word

-- what was sent after a call of the engine: nothing after a fault; else all, or all but the last ones when out of memory
abbrev pub IsSentAfter : Result Answer EngineFault → List Out → LinkObserved → LinkObserved → ℕ → ℕ → Result (Unit {0}) End → Type 0
IsSentAfter (Err f) outs t u lost after result = (result ≡ Err (end_of f)) × (u ≡ t) × (after ≡ lost)
IsSentAfter (Ok answer) outs t u lost after (Ok done) = HasSent (datagrams outs) [] t u lost after
IsSentAfter (Ok answer) outs t u lost after (Err end) =
    (untried : List Datagram) × HasSent (datagrams outs) untried t u lost after × (end ≡ Memory) × (0 < length untried)

-- a caller's pass k became l by the acts `done`, and its link, the same one, was observed as t and then as u. What the pass gained on
-- each shard are exactly the entries of their calls. Their packets were sent in order, except those that failed and the last ones, which
-- weren't tried. Of the acts `cut` no call added an entry
pub record Did (engine : Shards) (k l : Knows) (t u : LinkObserved) (heard : List (ℕ × Arrival)) (done cut : List Act)
    (untried : List Datagram)
    (lost after : ℕ) : Type 0 where
  pub number : l.0 ≡ k.0
  pub used : l.2 ≡ k.2
  pub gains : (shard : ℕ) → mine l shard ≡ mine k shard ++ entries k.0 shard (calls_of done)
  pub grows : (shard : ℕ) → Begins (seen_at k shard) (seen_at l shard)
  pub words : (shard : ℕ) → met_word k shard ≤ met_word l shard
  pub taken : (shard : ℕ) → taken_at l shard ≤ taken_at k shard + length (entries k.0 shard (calls_of (done ++ cut)))
  pub made : (shard : ℕ) → made_at l shard ≡ made_at k shard
  pub keeps : (shard : ℕ) → kept_at l shard ≡ kept_at k shard
  pub tried : List Datagram
  pub kept : List Datagram
  pub missing : ℕ
  pub sends_are : sends_of_acts engine k.0 (seen_at l) (λ shard. length (mine k shard)) [] done ≡ tried ++ untried
  pub lacks : Lacks tried kept missing
  pub same_link : u.number ≡ t.number
  pub traffic : u.traffic ≡ more_traffic heard kept t.traffic
  pub send_faults : u.counts.send_faults ≡ risen t.counts.send_faults missing
  pub lost_is : after ≡ risen lost missing

-- the first of these acts is a call on the shard
abbrev pub StartsOn : ℕ → List Act → Type 0
StartsOn shard cut = (event : ShardEvent) × (rest : List Act) × (cut ≡ Turns shard event ∷ rest)

-- why a caller stopped in its acts, of which `cut` are left out, when the shards' histories and words are at least these. With Full the
-- refused call is the first that is left out, on a shard whose journal is at its limit; with Spent on one whose lock has no turn left.
-- When out of memory, some last acts are left out, or some last packets
abbrev pub Stops : Shards → (ℕ → List Entry) → (ℕ → ℕ) → List Act → List Datagram → End → Type 0
Stops engine histories words cut untried (Full shard n) =
    (untried ≡ []) × (n ≤ length (histories shard)) × StartsOn shard cut × (n ≡ engine.limit)
Stops engine histories words cut untried (Spent shard word) =
    (untried ≡ []) × (word ≡ last_word) × (word ≤ words shard) × StartsOn shard cut
Stops engine histories words cut untried Memory = 0 < length cut + length untried
Stops engine histories words cut untried Ended = ⊥
Stops engine histories words cut untried LinkFault = ⊥
Stops engine histories words cut untried ClockFault = ⊥
Stops engine histories words cut untried (TurnsMade n) = ⊥

-- what is observed of a link's receiving is as before
pub record IsAside (t u : LinkObserved) : Type 0 where
  pub over : u.counts.over ≡ t.counts.over
  pub receive_faults : u.counts.receive_faults ≡ t.counts.receive_faults
  pub gave : u.counts.gave ≡ t.counts.gave

-- the acts were done up to a place
pub record IsStopped (engine : Shards) (acts : List Act) (k l : Knows) (t u : LinkObserved) (lost after : ℕ) (end : End) : Type 0 where
  pub done : List Act
  pub cut : List Act
  pub untried : List Datagram
  pub all : done ++ cut ≡ acts
  pub did : Did engine k l t u [] done cut untried lost after
  pub aside : IsAside t u
  pub stops : Stops engine (seen_at l) (met_word l) cut untried end

-- all acts were done
pub record IsWhole (engine : Shards) (acts : List Act) (k l : Knows) (t u : LinkObserved) (lost after : ℕ) : Type 0 where
  pub did : Did engine k l t u [] acts [] [] lost after
  pub aside : IsAside t u

-- what was done of some acts
abbrev pub AreDone : Shards → List Act → Knows → Knows → LinkObserved → LinkObserved → ℕ → ℕ → Result (Unit {0}) End → Type 0
AreDone engine acts k l t u lost after (Ok done) = IsWhole engine acts k l t u lost after
AreDone engine acts k l t u lost after (Err end) = IsStopped engine acts k l t u lost after end

-- room for the outputs of any one call of the engine: five for an own event, five for each session of a shard at a tick
pub record HasRoom (engine : Shards) (room : ℕ) : Type 0 where
  pub five : 5 ≤ room
  pub each : (shard : ℕ) → shard < length engine.locks → 5 * length (configs_at engine shard) ≤ room

-- a shard has so many sessions that room for five outputs of each can't be counted in 64 bits
pub record IsTooWide (engine : Shards) : Type 0 where
  pub shard : ℕ
  pub there : shard < length engine.locks
  pub wide : 2 ^ 64 ≤ 5 * length (configs_at engine shard)

-- why a worker ended that made so many turns of its number, and what is left out of its acts and its sends; when out of memory, some of
-- these or of its turns are
abbrev pub IsWorkerEnd : Shards → (ℕ → List Entry) → (ℕ → ℕ) → LinkObserved → LinkObserved → ℕ → ℕ → List Act → List Datagram → End → Type 0
IsWorkerEnd engine histories words t u turned turns cut untried Ended =
    (cut ≡ []) × (untried ≡ []) × (u.counts.over ≡ true) × (u.counts.receive_faults ≡ t.counts.receive_faults)
IsWorkerEnd engine histories words t u turned turns cut untried LinkFault =
    (cut ≡ []) × (untried ≡ []) × (u.counts.over ≡ false) × (u.counts.receive_faults ≡ risen t.counts.receive_faults 1)
IsWorkerEnd engine histories words t u turned turns cut untried (TurnsMade n) =
    (cut ≡ []) × (untried ≡ []) × (u.counts.over ≡ false) × (u.counts.receive_faults ≡ t.counts.receive_faults)
    × (n ≡ turns) × (u.counts.gave ≡ risen t.counts.gave turns)
IsWorkerEnd engine histories words t u turned turns cut untried (Full shard n) =
    (u.counts.over ≡ false) × (u.counts.receive_faults ≡ t.counts.receive_faults) × Stops engine histories words cut untried (Full shard n)
IsWorkerEnd engine histories words t u turned turns cut untried (Spent shard word) =
    (u.counts.over ≡ false) × (u.counts.receive_faults ≡ t.counts.receive_faults)
    × Stops engine histories words cut untried (Spent shard word)
IsWorkerEnd engine histories words t u turned turns cut untried Memory =
    (u.counts.over ≡ false) × (u.counts.receive_faults ≡ t.counts.receive_faults) × ((0 < length cut + length untried) ⊎ (turned < turns))
IsWorkerEnd engine histories words t u turned turns cut untried ClockFault = ⊥

-- what a worker did: of the arrivals that its link gave in this run, those of `done` were handled, and those of `cut` were not. Only
-- after Full, Spent or Memory can `cut` have some. The link gave `turned` answers, of which some may be Quiet
pub record HasWorked (engine : Shards) (k l : Knows) (t u : LinkObserved) (turns : ℕ) (end : End) (lost : ℕ) : Type 0 where
  pub done : List (ℕ × Arrival)
  pub cut : List (ℕ × Arrival)
  pub untried : List Datagram
  pub did : Did engine k l t u (done ++ cut) (worker_acts engine done) (worker_acts engine cut) untried 0 lost
  pub turned : ℕ
  pub ends : IsWorkerEnd engine (seen_at l) (met_word l) t u turned turns (worker_acts engine cut) untried end
  pub gave : u.counts.gave ≡ risen t.counts.gave turned
  pub each : length (done ++ cut) ≤ turned
  pub few : turned ≤ turns

-- the same after so many turns, with no end
pub record IsWorking (engine : Shards) (k l : Knows) (t u : LinkObserved) (count : ℕ) (lost : ℕ) : Type 0 where
  pub done : List (ℕ × Arrival)
  pub did : Did engine k l t u done (worker_acts engine done) [] [] 0 lost
  pub over : u.counts.over ≡ false
  pub no_fault : u.counts.receive_faults ≡ t.counts.receive_faults
  pub gave : u.counts.gave ≡ risen t.counts.gave count
  pub few : length done ≤ count
