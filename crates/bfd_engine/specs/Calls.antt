-- What a call of an engine resolves to, and what it changes. The functions on a caller's pass are total in the shard's
-- number: if the caller has no pass of a shard, they are empty or 0.
use Rattle.std.specs.Prelude.{ℕ, ◌≡◌, ◌≢◌, ◌≤◌, ◌<◌, ◌+◌, ◌/◌, ◌%◌, ◌++◌, List, [], ◌∷◌, length, slice_get, Option, None, Some, Result, Ok}
use Rattle.std.specs.Prelude.{Err}
use Rattle.bfd_packet.specs.declared.arrival.Arrival.{Arrival}
use Rattle.bfd_packet.specs.declared.arrival.Datagram.{Datagram}
use Rattle.bfd_packet.specs.declared.discard.Test.{Test}
use Rattle.bfd_packet.specs.Layout.{fields_of}
use Rattle.bfd_rules.specs.declared.outputs.Out.{Out}
use Rattle.bfd_rules.specs.declared.outputs.Out.TheVariants.{Sent}
use Rattle.bfd_rules.specs.declared.commands.Refusal.TheVariants.{UnknownSession}
use Rattle.bfd_sbfd.specs.Reflect.{reflect}
use Rattle.bfd_session.specs.declared.event.Answer.{Answer}
use Rattle.bfd_session.specs.declared.event.Answer.TheVariants.{Handled, Dropped, Refused}
use Rattle.bfd_session.specs.declared.event.Event.{Event}
use Rattle.bfd_session.specs.Arrivals.{Destination, Discarded, Reflected, Own as OwnEvent, comes_to}
use Rattle.bfd_session.specs.Rows.{table_of, place_of}
use Rattle.bfd_shard.specs.declared.entry.Entry.{Entry}
use Rattle.bfd_shard.specs.declared.entry.ShardEvent.{ShardEvent}
use Rattle.bfd_shard.specs.declared.entry.ShardEvent.TheVariants.{Own}
use Rattle.bfd_turn.specs.Lists.{calls}
use Rattle.bfd_turn.specs.Passes.{last_word}
use Rattle.bfd_engine.specs.declared.fault.EngineFault.{EngineFault}
use Rattle.bfd_engine.specs.declared.fault.EngineFault.TheVariants.{Memory, Full, Spent}
use Rattle.bfd_engine.specs.declared.turn.TurnFault.{TurnFault}
use Rattle.bfd_engine.specs.declared.turn.TurnFault.TheVariants.{Memory as NoMemory, Full as IsFull, Spent as IsSpent}
use Rattle.bfd_engine.specs.Turned.{by, entry_of, given_after}
use Rattle.bfd_engine.specs.Engines.{Shards, Held, Knows, configs_at}

abbrev pub seen_of : Option Held → List Entry
seen_of (Some (Some p)) = p.1.seen
seen_of (Some None) = []
seen_of None = []

-- what a pass has seen of a shard's history
abbrev pub seen_at : Knows → ℕ → List Entry
seen_at pass shard = seen_of (slice_get pass.1 shard)

abbrev pub met_word_of : Option Held → ℕ
met_word_of (Some (Some p)) = p.1.word
met_word_of (Some None) = 0
met_word_of None = 0

-- the last word of a shard's lock that it has met
abbrev pub met_word : Knows → ℕ → ℕ
met_word pass shard = met_word_of (slice_get pass.1 shard)

abbrev pub taken_of : Option Held → ℕ
taken_of (Some (Some p)) = p.1.taken
taken_of (Some None) = 0
taken_of None = 0

-- how many turns of a shard it has given back
abbrev pub taken_at : Knows → ℕ → ℕ
taken_at pass shard = taken_of (slice_get pass.1 shard)

abbrev pub made_of : Option Held → List ℕ
made_of (Some (Some p)) = p.1.made
made_of (Some None) = []
made_of None = []

-- the numbers of the passes that it has made
abbrev pub made_at : Knows → ℕ → List ℕ
made_at pass shard = made_of (slice_get pass.1 shard)

abbrev pub kept_of : Option Held → List (ℕ × List Entry)
kept_of (Some (Some p)) = p.1.joined
kept_of (Some None) = []
kept_of None = []

-- the number of each pass that it has joined, and its calls on a shard
abbrev pub kept_at : Knows → ℕ → List (ℕ × List Entry)
kept_at pass shard = kept_of (slice_get pass.1 shard)

-- the calls that it has made on a shard
abbrev pub mine : Knows → ℕ → List Entry
mine pass shard = calls by pass.0 (seen_at pass shard)

-- the pass k became l by a turn on a shard: it has seen others' entries, and then these
pub record Turned (k l : Knows) (shard : ℕ) (between new : List Entry) : Type 0 where
  pub number : l.0 ≡ k.0
  pub used : l.2 ≡ k.2
  pub others : calls by k.0 between ≡ []
  pub here : seen_at l shard ≡ (seen_at k shard ++ between) ++ new
  pub word : met_word k shard ≤ met_word l shard
  pub taken : taken_at l shard ≤ taken_at k shard + 1
  pub seen_elsewhere : (r : ℕ) → r ≢ shard → seen_at l r ≡ seen_at k r
  pub word_elsewhere : (r : ℕ) → r ≢ shard → met_word l r ≡ met_word k r
  pub taken_elsewhere : (r : ℕ) → r ≢ shard → taken_at l r ≡ taken_at k r
  pub made : (r : ℕ) → made_at l r ≡ made_at k r
  pub kept : (r : ℕ) → kept_at l r ≡ kept_at k r

-- a turn of the shard was taken, at a word that was below the last, and given back
pub record TookTurn (k l : Knows) (shard : ℕ) : Type 0 where
  pub counted : taken_at l shard ≡ taken_at k shard + 1
  pub later : met_word k shard < met_word l shard
  pub left : met_word l shard ≤ last_word

-- why a turn added no entry: out of memory, with a journal below its limit; the shard's journal that was seen is at its limit; or
-- the lock's last word was met
abbrev pub IsCause : EngineFault → Shards → ℕ → Knows → Type 0
IsCause Memory engine shard l = length (seen_at l shard) < engine.limit
IsCause (Full at n) engine shard l = (at ≡ shard) × (n ≡ engine.limit) × (length (seen_at l shard) ≡ n)
IsCause (Spent at word) engine shard l = (at ≡ shard) × (word ≡ last_word) × (met_word l shard ≡ word)

-- what a refused call used: a turn; or none, and then it has seen nothing new
abbrev pub HasUsed : EngineFault → Knows → Knows → ℕ → Type 0
HasUsed Memory k l shard = TookTurn k l shard
HasUsed (Full at n) k l shard = TookTurn k l shard
HasUsed (Spent at word) k l shard = (taken_at l shard ≡ taken_at k shard) × (seen_at l shard ≡ seen_at k shard)

-- the fault of a shard's turn
abbrev pub fault_of : ℕ → TurnFault → EngineFault
fault_of shard NoMemory = Memory
fault_of shard (IsFull n) = Full shard n
fault_of shard (IsSpent word) = Spent shard word

-- what a call resolves to: a turn of a shard with an event; or an answer without a turn, and these outputs
pub data Act : Type 0 where
  Turns : (shard : ℕ) (event : ShardEvent) → Act
  Rests : (outs : List Out) (answer : Answer) → Act

-- an own event of the session at this place of the table
abbrev pub own_act : Shards → ℕ → ℕ → Event → Act
own_act engine moment k event = Turns (k % length engine.locks) (Own (k / length engine.locks) moment event)

-- a reflector's packet: its answer is sent in the name of the reflector that Your Discriminator names, or it is discarded by
-- the first test that fails (RFC 7880 section 7.2)
abbrev pub reflect_act : Result Datagram Test → Arrival → Act
reflect_act (Ok datagram) arrival = Rests (Sent (fields_of arrival.payload).your datagram ∷ []) Handled
reflect_act (Err test) arrival = Rests [] (Dropped test)

-- what an arrival resolves to
abbrev pub coming_act : Shards → ℕ → Arrival → Destination → Act
coming_act engine moment arrival (Discarded test) = Rests [] (Dropped test)
coming_act engine moment arrival (Reflected place) = reflect_act (reflect engine.pool arrival) arrival
coming_act engine moment arrival (OwnEvent k event) = own_act engine moment k event

abbrev pub arrival_act : Shards → ℕ → Arrival → Act
arrival_act engine moment arrival = coming_act engine moment arrival (comes_to (table_of engine.configs engine.pool) arrival)

-- a command or a question to the session at this place, if there is one
abbrev pub ask_act : Shards → ℕ → Event → Option ℕ → Act
ask_act engine moment event (Some k) = own_act engine moment k event
ask_act engine moment event None = Rests [] (Refused UnknownSession)

-- a command or a question by discriminator; a reflector's names no session
abbrev pub asking_by_discr : Shards → ℕ → ℕ → Event → Act
asking_by_discr engine moment discr event = ask_act engine moment event (place_of discr engine.configs)

-- one turn, with its entry. The entry comes last in what the pass has seen, after others' entries, with which the journal was below
-- its limit. The outputs and the answer are those of that entry after the entries before it
pub record IsCall (engine : Shards) (shard : ℕ) (event : ShardEvent) (k l : Knows) (outs outs2 : List Out) (answer : Answer) : Type 0 where
  pub between : List Entry
  pub turned : Turned k l shard between (entry_of k.0 event ∷ [])
  pub took : TookTurn k l shard
  pub below : length (seen_at k shard ++ between) < engine.limit
  pub reported : outs2 ≡ outs ++ (given_after (configs_at engine shard) (seen_at k shard ++ between) event).items
  pub answered : answer ≡ (given_after (configs_at engine shard) (seen_at k shard ++ between) event).answer

-- one turn with no entry
pub record IsFailed (engine : Shards) (shard : ℕ) (k l : Knows) (outs outs2 : List Out) (fault : EngineFault) : Type 0 where
  pub between : List Entry
  pub turned : Turned k l shard between []
  pub reported : outs2 ≡ outs
  pub cause : IsCause fault engine shard l
  pub used : HasUsed fault k l shard

-- what a call did
abbrev pub IsDone : Act → Shards → Knows → Knows → List Out → List Out → Result Answer EngineFault → Type 0
IsDone (Rests reported answer) engine k l outs outs2 result = (result ≡ Ok answer) × (l ≡ k) × (outs2 ≡ outs ++ reported)
IsDone (Turns shard event) engine k l outs outs2 (Ok answer) = IsCall engine shard event k l outs outs2 answer
IsDone (Turns shard event) engine k l outs outs2 (Err fault) = IsFailed engine shard k l outs outs2 fault
