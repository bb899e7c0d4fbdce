-- The calls of a caller of an engine, and what it sends.
use Rattle.std.specs.Prelude.{◌≡◌, ◌⊎◌, ℕ, ◌+◌, ◌-◌, ◌==◌, List, [], ◌∷◌, ◌++◌, length, map, Option, Some, None, if◌then◌else◌}
use Rattle.std.specs.List.{filter_map}
use Rattle.bfd_packet.specs.declared.arrival.Arrival.{Arrival}
use Rattle.bfd_packet.specs.declared.arrival.Datagram.{Datagram}
use Rattle.bfd_rules.specs.declared.outputs.Out.{Out}
use Rattle.bfd_rules.specs.declared.outputs.Out.TheVariants.{Changed, Sent}
use Rattle.bfd_shard.specs.declared.entry.Entry.{Entry}
use Rattle.bfd_shard.specs.declared.entry.ShardEvent.{ShardEvent}
use Rattle.bfd_engine.specs.Turned.{entry_of, given_after}
use Rattle.bfd_engine.specs.Engines.{Shards, configs_at}
use Rattle.bfd_engine.specs.Calls.{Act, Turns, Rests, arrival_act}

-- a call is its shard and its event
abbrev pub Call : Type 0
Call = ℕ × ShardEvent

-- an act with a turn is a call
abbrev pub call_in : Act → Option Call
call_in (Turns shard event) = Some (shard, event)
call_in (Rests outs answer) = None

-- the calls among some acts
abbrev pub calls_of : List Act → List Call
calls_of acts = filter_map call_in acts

abbrev pub on_shard : ℕ → ℕ → Call → Option Entry
on_shard caller shard call = if call.0 == shard then Some (entry_of caller call.1) else None

-- the entries that a caller's calls add to a shard's history
abbrev pub entries : ℕ → ℕ → List Call → List Entry
entries caller shard calls = filter_map (on_shard caller shard) calls

-- what an arrival, with its moment, resolves to
abbrev pub act_at : Shards → ℕ × Arrival → Act
act_at engine heard = arrival_act engine heard.0 heard.1

-- what a worker has to do: what each arrival resolves to
abbrev pub worker_acts : Shards → List (ℕ × Arrival) → List Act
worker_acts engine heard = map (act_at engine) heard

-- the packet of an output
abbrev pub datagram_in : Out → Option Datagram
datagram_in (Sent discr datagram) = Some datagram
datagram_in (Changed discr old new diag) = None

-- the packets among some outputs
abbrev pub datagrams : List Out → List Datagram
datagrams outs = filter_map datagram_in outs

-- the history before the entry of a caller that comes after so many others of that caller
abbrev pub until : ℕ → ℕ → List Entry → List Entry
until caller count [] = []
until caller count (entry ∷ history) =
    if entry.caller == caller
    then (if count == 0 then [] else entry ∷ until caller (count - 1) history)
    else entry ∷ until caller count history

-- what an act emits, when the shards have these histories: a call emits the outputs of its event after the entries before it.
-- The caller had so many entries on each shard before, and has made these calls since
abbrev pub given_by : Shards → ℕ → (ℕ → List Entry) → (ℕ → ℕ) → List Call → Act → List Out
given_by engine caller histories had before (Rests outs answer) = outs
given_by engine caller histories had before (Turns shard event) =
    (given_after (configs_at engine shard) (until caller (had shard + length (entries caller shard before)) (histories shard)) event).items

-- what the acts of a caller send, in order
abbrev pub sends_of_acts : Shards → ℕ → (ℕ → List Entry) → (ℕ → ℕ) → List Call → List Act → List Datagram
sends_of_acts engine caller histories had before [] = []
sends_of_acts engine caller histories had before (act ∷ acts) =
    datagrams (given_by engine caller histories had before act)
    ++ sends_of_acts engine caller histories had (before ++ calls_of (act ∷ [])) acts

-- the second list is the first without so many of its elements
abbrev pub Lacks : List Datagram → List Datagram → ℕ → Type 0
Lacks [] kept missing = (kept ≡ []) × (missing ≡ 0)
Lacks (x ∷ xs) kept missing =
    ((rest : List Datagram) × (kept ≡ x ∷ rest) × Lacks xs rest missing) ⊎ ((fewer : ℕ) × (missing ≡ fewer + 1) × Lacks xs kept fewer)
