-- What an arrival resolves to, as a call.
use Rattle.bfd_engine.proofs.Common.{◌≡◌, ◌++◌, ◌∷◌, [], ℕ, List, Result, Ok, Err, refl, sym, subst, append-nil, Arrival, Datagram, Test}
use Rattle.bfd_engine.proofs.Common.{Out, Answer, Event, EngineFault, Shards, Knows, IsDone, coming_act, reflect_act, arrival_judged}
use Rattle.bfd_engine.proofs.Common.{comes_to, coming_to, first_table_failing, table_of, None, Some, Target}
use Rattle.std.specs.Result.{result_err}
use Rattle.bfd_packet.specs.Layout.{fields_of}
use Rattle.bfd_sbfd.specs.Reflect.{reflect}
use Rattle.bfd_session.specs.declared.event.Answer.TheVariants.{Handled, Dropped}
use Rattle.bfd_session.specs.Arrivals.{Destination, Discarded, Reflected, Own as OwnEvent}
use Rattle.bfd_session.specs.Discards.{answer_by}
use Rattle.bfd_session.specs.Reaching.{Reaches, sent_as}
use Rattle.bfd_engine.specs.Calls.{Act, Rests, own_act}

-- in the engine's table the arrival goes to this
abbrev pub Comes : Arrival → Destination → Shards → Type 0
Comes arrival to engine = comes_to (table_of engine.configs engine.pool) arrival ≡ to

-- .. and is for this target, by every test up to selection
abbrev pub Selects : Arrival → Target → Shards → Type 0
Selects arrival target engine = Comes arrival (coming_to (Some target) arrival) engine × Reaches engine.configs engine.pool arrival target
    × (None ≡ first_table_failing (table_of engine.configs engine.pool) arrival)

-- a target known by another name, in the engine's view
pub selected : (arrival : Arrival) {from target : Target} {inside engine : Shards} → inside ≡ engine → from ≡ target
    → Selects arrival from inside → Selects arrival target engine
selected arrival {from} {engine} view is h =
    subst (λ (t : Target). Selects arrival t engine) is (subst (Selects arrival from) view h)

-- the named reflector of the engine's pool says this
abbrev pub Says : Arrival → Result Out Test → Shards → Type 0
Says arrival said engine = said ≡ sent_as (fields_of arrival.payload).your (reflect engine.pool arrival)

-- the arrival's call changed no shard, and its answer names the test that failed
abbrev pub HasRested : Shards → ℕ → Arrival → Knows → List Out → List Out → Answer → Destination → Type 0
HasRested engine moment arrival k outs outs2 answer to =
    IsDone (coming_act engine moment arrival to) engine k k outs outs2 (Ok answer) × arrival_judged engine moment arrival to k answer

refused : (arrival : Arrival) (r : Result Datagram Test) {test : Test} → Err test ≡ sent_as (fields_of arrival.payload).your r
    → (reflect_act r arrival ≡ Rests [] (Dropped test)) × (Dropped test ≡ answer_by (result_err r))
refused arrival (Err t) e = (cc, cc)
refused arrival (Ok datagram) e = absurd (cc)

sent : (arrival : Arrival) (r : Result Datagram Test) {out : Out} → Ok out ≡ sent_as (fields_of arrival.payload).your r
    → (reflect_act r arrival ≡ Rests (out ∷ []) Handled) × (Handled ≡ answer_by (result_err r))
sent arrival (Err t) e = absurd (cc)
sent arrival (Ok datagram) e = (cc, refl)

module _ (engine : Shards) (moment : ℕ) (arrival : Arrival) (k : Knows) (outs : List Out) where
  rested : {outs2 reported : List Out} {answer : Answer} {to : Destination} → Comes arrival to engine
      → coming_act engine moment arrival to ≡ Rests reported answer → arrival_judged engine moment arrival to k answer
      → outs2 ≡ outs ++ reported
      → HasRested engine moment arrival k outs outs2 answer (comes_to (table_of engine.configs engine.pool) arrival)
  rested {outs2} {reported} {answer} {to} is act judged pushed =
      subst (HasRested engine moment arrival k outs outs2 answer) (sym is)
      (subst (λ (a : Act). IsDone a engine k k outs outs2 (Ok answer)) (sym act) (refl, refl, pushed), judged)

  -- a test up to selection discards it
  pub discarded : (test : Test) → Comes arrival (Discarded test) engine
      → HasRested engine moment arrival k outs outs (Dropped test) (comes_to (table_of engine.configs engine.pool) arrival)
  discarded test is = rested is refl refl (sym (append-nil outs))

  -- a reflector's test discards it
  pub unanswered : (place : ℕ) (test : Test) → Comes arrival (Reflected place) engine → Says arrival (Err test) engine
      → HasRested engine moment arrival k outs outs (Dropped test) (comes_to (table_of engine.configs engine.pool) arrival)
  unanswered place test is said =
      let r = refused arrival (reflect engine.pool arrival) said in rested is r.0 r.1 (sym (append-nil outs))

  -- a reflector answers it
  pub answered : {outs2 : List Out} (place : ℕ) (out : Out) → Comes arrival (Reflected place) engine → Says arrival (Ok out) engine
      → outs2 ≡ outs ++ out ∷ []
      → HasRested engine moment arrival k outs outs2 Handled (comes_to (table_of engine.configs engine.pool) arrival)
  answered place out is said pushed = let r = sent arrival (reflect engine.pool arrival) said in rested is r.0 r.1 pushed

  -- it is a session's own event
  pub own_done : (l : Knows) (outs2 : List Out) (result : Result Answer EngineFault) (place : ℕ) (event : Event)
      → Comes arrival (OwnEvent place event) engine → IsDone (own_act engine moment place event) engine k l outs outs2 result
      → IsDone (coming_act engine moment arrival (comes_to (table_of engine.configs engine.pool) arrival)) engine k l outs outs2 result
  own_done l outs2 result place event is done =
      subst (λ (d : Destination). IsDone (coming_act engine moment arrival d) engine k l outs outs2 result) (sym is) done
