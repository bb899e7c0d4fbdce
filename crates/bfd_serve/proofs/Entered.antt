-- What each entry of the closed shards did.
use Rattle.bfd_serve.proofs.RunCommon.{◌≡◌, ◌<◌, ◌+◌, ◌++◌, ◌∷◌, [], ◌==◌, ℕ, zero, suc, Bool, true, false, cond, List, Option, None, Some}
use Rattle.bfd_serve.proofs.RunCommon.{Result, Ok, Err, refl, sym, ap, ◌∙◌, subst, length, take, drop, arith, slice_get, AllByRecursion}
use Rattle.bfd_serve.proofs.RunCommon.{nat_tests, map-append, slice_get_within, dite, dec_lt, SessionConfig, Running, table_of, place_of}
use Rattle.bfd_serve.proofs.RunCommon.{Entry, Shard, CanHappen, IsHistory, IsOnTime, IsTaken, Line, calls, LinkObserved, TickerObserved, by}
use Rattle.bfd_serve.proofs.RunCommon.{entry_of, Shards, configs_at, Act, Rests, ask_act, coming_act, reflect_act, End, Limits, calls_of}
use Rattle.bfd_serve.proofs.RunCommon.{entries, worker_acts, is_clock_fault, journal_in, history_at, HaveRun, AreClosedShards, advances}
use Rattle.bfd_serve.proofs.RunCommon.{orders_due, order_act, orders_acts, orders_left, ticks_acts, timer_acts, Datagram, reply}
use Rattle.bfd_script.proofs.Elements.{each_more}
use Rattle.bfd_packet.specs.declared.arrival.Arrival.{Arrival}
use Rattle.bfd_packet.specs.declared.discard.Test.{Test}
use Rattle.bfd_rules.specs.declared.commands.Cmd.{Cmd}
use Rattle.bfd_demux.specs.declared.target.Target.{Target}
use Rattle.bfd_demux.specs.declared.target.Target.TheVariants.{Session, Reflector as ReflectorAt, Echo}
use Rattle.bfd_demux.specs.Selection.{first_table_failing, target_of}
use Rattle.bfd_sbfd.specs.Reflect.{reflect}
use Rattle.bfd_session.specs.declared.event.Answer.{Answer}
use Rattle.bfd_session.specs.declared.event.Event.{Event}
use Rattle.bfd_session.specs.declared.event.Event.TheVariants.{Packet, Returned, Command, Show as Showing}
use Rattle.bfd_session.specs.Alone.{effective}
use Rattle.bfd_session.specs.Arrivals.{coming_by}
use Rattle.bfd_shard.specs.declared.entry.ShardEvent.{ShardEvent}
use Rattle.bfd_shard.specs.declared.entry.ShardEvent.TheVariants.{Own, Tick as TickEvent}
use Rattle.bfd_shard.specs.History.{events_of, last_tick, runs}
use Rattle.bfd_script.specs.declared.line.entries.Line.TheVariants.{Cmd as CmdLine, Show}
use Rattle.bfd_engine.specs.Calls.{Turns}
use Rattle.bfd_engine.specs.Judging.{packet_answer, return_answer}
use Rattle.bfd_engine.proofs.Verdicts.{own_answer, packet_is, return_is, runs_there}
use Rattle.bfd_serve.specs.Entered.{AreTimely, AreJudged, HasAnswer}

-- the shard whose history has an entry

none_there : (before after : List Entry) (x : Entry) → [] ≡ before ++ x ∷ after → ⊥
none_there [] after x h = cc
none_there (b ∷ before) after x h = cc

shard_with : (states : List Shard) (number : ℕ) (o : Option Shard) (before after : List Entry) (x : Entry) → slice_get states number ≡ o
    → journal_in o ≡ before ++ x ∷ after
    → (shard : Shard) × (slice_get states number ≡ Some shard) × (shard.journal ≡ before ++ x ∷ after)
shard_with states number None before after x is h = absurd (none_there before after x h)
shard_with states number (Some shard) before after x is h = (shard, is, h)

split : (before after : List Entry) (x : Entry) → events_of (before ++ x ∷ after) ≡ events_of before ++ x.event ∷ events_of after
split before after x = map-append (λ e. e.event) before (x ∷ after)

-- every tick is on time
pub timely : {engine : Shards} {states : List Shard} → AreClosedShards engine states → AreTimely engine (history_at states)
timely {engine} {states} closed number caller t before after h =
    let x : Entry = entry_of caller (TickEvent t) in
    let cs : List SessionConfig = configs_at engine number in
    let s = shard_with states number _ before after x refl h in
    let made = closed.each number s.0 s.1 in
    let on =
    subst (IsOnTime cs) (ap events_of s.2 ∙ split before after x) (rw (← made.configs) made.kept.timely) in
    let observed = sym (split before [] x) in
    record {
      before = before;
      last = refl;
      exact = rw (← observed) (on.exact (events_of before) (events_of after) t refl);
      none_due = rw (← observed) (on.none_due (events_of before) (events_of after) t refl);
    }

-- lists of which all elements are of a kind

module _ {A : Type 0} (P : A → Type 0) where
  all_front : (xs ys : List A) → AllByRecursion P (xs ++ ys) → AllByRecursion P xs
  all_front [] ys h = tt
  all_front (x ∷ xs) ys h = (h.0, all_front xs ys h.1)

  all_at : (before after : List A) (x : A) → AllByRecursion P (before ++ x ∷ after) → P x
  all_at [] after x h = h.0
  all_at (b ∷ before) after x h = all_at before after x h.1

  all_rest : (b : Bool) (x : A) (xs : List A) → AllByRecursion P (cond b (x ∷ xs) xs) → AllByRecursion P xs
  all_rest true x xs h = h.1
  all_rest false x xs h = h

module _ (engine : Shards) where
  -- a packet that is an event fails no test on the table
  abbrev pub Fits : ShardEvent → Type 0
  Fits (Own place moment (Packet arrival)) = None ≡ first_table_failing (table_of engine.configs engine.pool) arrival
  Fits event = Unit {0}

  abbrev pub ActFits : Act → Type 0
  ActFits (Turns shard event) = Fits event
  ActFits (Rests outs answer) = Unit {0}

  abbrev pub EntryFits : Entry → Type 0
  EntryFits entry = Fits entry.event

  reflect_fits : (r : Result Datagram Test) (arrival : Arrival) → ActFits (reflect_act r arrival)
  reflect_fits (Ok datagram) arrival = tt
  reflect_fits (Err test) arrival = tt

  arrival_fits : (moment : ℕ) (arrival : Arrival) (failing : Option Test) (target : Option Target)
      → first_table_failing (table_of engine.configs engine.pool) arrival ≡ failing
      → ActFits (coming_act engine moment arrival (coming_by failing target arrival))
  arrival_fits moment arrival (Some test) target is = tt
  arrival_fits moment arrival None None is = tt
  arrival_fits moment arrival None (Some (Session place)) is = sym is
  arrival_fits moment arrival None (Some (ReflectorAt place)) is = reflect_fits (reflect engine.pool arrival) arrival
  arrival_fits moment arrival None (Some (Echo place sequence)) is = tt

  worker_fits : (heard : List (ℕ × Arrival)) → AllByRecursion ActFits (worker_acts engine heard)
  worker_fits [] = tt
  worker_fits (x ∷ heard) = (
    arrival_fits x.0 x.1 (first_table_failing (table_of engine.configs engine.pool) x.1)
        (target_of (table_of engine.configs engine.pool) x.1) refl,
    worker_fits heard,
  )

  command_fits : (moment : ℕ) (cmd : Cmd) (place : Option ℕ) → ActFits (ask_act engine moment (Command cmd) place)
  command_fits moment cmd None = tt
  command_fits moment cmd (Some k) = tt

  show_fits : (moment : ℕ) (place : Option ℕ) → ActFits (ask_act engine moment Showing place)
  show_fits moment None = tt
  show_fits moment (Some k) = tt

  order_fits : (order : Line) → ActFits (order_act engine order)
  order_fits (CmdLine moment discr cmd) = command_fits moment cmd (place_of discr engine.configs)
  order_fits (Show moment discr) = show_fits moment (place_of discr engine.configs)
  order_fits order = tt

  orders_fit : (orders : List Line) → AllByRecursion ActFits (orders_acts engine orders)
  orders_fit [] = tt
  orders_fit (order ∷ orders) = (order_fits order, orders_fit orders)

  advances_fit : (n t : ℕ) → AllByRecursion ActFits (advances n t)
  advances_fit zero t = tt
  advances_fit (suc n) t = each_more ActFits (advances n t) (Turns n (TickEvent t) ∷ []) (advances_fit n t) (tt, tt)

  ticks_fit : (orders : List Line) (ticks : List ℕ) → AllByRecursion ActFits (ticks_acts engine orders ticks)
  ticks_fit orders [] = tt
  ticks_fit orders (t ∷ ts) =
      each_more ActFits (orders_acts engine (take (orders_due t orders) orders) ++ advances (length engine.locks) t)
      (ticks_acts engine (drop (orders_due t orders) orders) ts)
      (each_more ActFits (orders_acts engine (take (orders_due t orders) orders)) (advances (length engine.locks) t)
      (orders_fit (take (orders_due t orders) orders)) (advances_fit (length engine.locks) t))
      (ticks_fit (drop (orders_due t orders) orders) ts)

  timer_fits : (orders : List Line) (ticks : List ℕ) (failed : Bool) → AllByRecursion ActFits (timer_acts engine orders ticks failed)
  timer_fits orders ticks true = each_more ActFits (ticks_acts engine orders ticks) [] (ticks_fit orders ticks) tt
  timer_fits orders ticks false =
      each_more ActFits (ticks_acts engine orders ticks) (orders_acts engine (orders_left orders ticks)) (ticks_fit orders ticks)
      (orders_fit (orders_left orders ticks))

  -- so do the entries of such acts
  entries_fit : (caller shard : ℕ) (acts : List Act) → AllByRecursion ActFits acts
      → AllByRecursion EntryFits (entries caller shard (calls_of acts))
  entries_fit caller shard [] h = tt
  entries_fit caller shard (Rests outs answer ∷ acts) h = entries_fit caller shard acts h.1
  entries_fit caller shard (Turns at event ∷ acts) h = by (at == shard) refl (entries_fit caller shard acts h.1)
    where
      by : (b : Bool) → (at == shard) ≡ b → AllByRecursion EntryFits (entries caller shard (calls_of acts))
          → AllByRecursion EntryFits (entries caller shard (calls_of (Turns at event ∷ acts)))
      by true is rest = rw is (h.0, rest)
      by false is rest = rw is rest

  -- and a history where those of each caller do
  history_fits : (history : List Entry) → ((n : ℕ) → AllByRecursion EntryFits (calls by n history)) → AllByRecursion EntryFits history
  history_fits [] h = tt
  history_fits (x ∷ history) h =
      let own : (x.caller == x.caller) ≡ true = grind (arith, nat_tests) in (
        (subst (λ b. AllByRecursion EntryFits (cond b (x ∷ calls by x.caller history) (calls by x.caller history))) own (h x.caller)).0,
        history_fits history (λ n. all_rest EntryFits (x.caller == n) x (calls by n history) (h n)),
      )

-- every packet in the histories of a run fits
module _ (engine : Shards) (states : List Shard) (orders : List Line) (workers : ℕ) (limits : Limits) (before after : ℕ → LinkObserved)
    (c d : TickerObserved) (ends : List End) (lost : ℕ)
    (closed : AreClosedShards engine states) (run : HaveRun engine (history_at states) orders workers limits before after c d ends lost)
  where
    timer_own : {shard : ℕ} → shard < length engine.locks → AllByRecursion (EntryFits engine) (calls by 0 (history_at states shard))
    timer_own {shard} inside =
        let did = run.timer.did in
        subst (AllByRecursion (EntryFits engine)) (sym (run.timer.own_is shard inside ∙ did.did.gains shard))
        (entries_fit engine 0 shard did.done (all_front (ActFits engine) did.done did.cut
        (subst (AllByRecursion (ActFits engine)) (sym did.all) (timer_fits engine orders did.got (is_clock_fault run.timer_end)))))

    worker_own : (at shard : ℕ) → at < workers → shard < length engine.locks
        → AllByRecursion (EntryFits engine) (calls by (at + 1) (history_at states shard))
    worker_own at shard less inside =
        let ran = run.each at less in
        subst (AllByRecursion (EntryFits engine)) (sym (ran.own_is shard inside ∙ ran.did.did.gains shard))
        (entries_fit engine (at + 1) shard (worker_acts engine ran.did.done) (worker_fits engine ran.did.done))

    own_fits : {shard : ℕ} (n : ℕ) → shard < length engine.locks → AllByRecursion (EntryFits engine) (calls by n (history_at states shard))
    own_fits zero inside = timer_own inside
    own_fits {shard} (suc at) inside = dite (dec_lt at workers) (λ less. let next : at + 1 ≡ suc at = omega arith in
        rw (← next) (worker_own at shard less inside))
        (λ far. subst (AllByRecursion (EntryFits engine)) (sym (run.others (suc at) shard inside (omega (arith, far)))) tt)

    packet_fits : {number : ℕ} (caller place moment : ℕ) (arrival : Arrival) (seen rest : List Entry) → number < length engine.locks
        → history_at states number ≡ seen ++ entry_of caller (Own place moment (Packet arrival)) ∷ rest
        → None ≡ first_table_failing (table_of engine.configs engine.pool) arrival
    packet_fits {number} caller place moment arrival seen rest inside h =
        all_at (EntryFits engine) seen rest (entry_of caller (Own place moment (Packet arrival)))
        (subst (AllByRecursion (EntryFits engine)) h (history_fits engine (history_at states number) (λ n. own_fits n inside)))

    -- the session of an own event accepts it
    own_taken : (number caller place moment : ℕ) (event : Event) (seen rest : List Entry)
        → history_at states number ≡ seen ++ entry_of caller (Own place moment event) ∷ rest
        → (number < length engine.locks) × IsTaken (configs_at engine number) place event
    own_taken number caller place moment event seen rest h =
        let x : Entry = entry_of caller (Own place moment event) in
        let s = shard_with states number _ seen rest x refl h in
        let made = closed.each number s.0 s.1 in
        let history : IsHistory (configs_at engine number) (events_of seen ++ Own place moment event ∷ events_of rest) =
        rw (← ap events_of s.2 ∙ split seen rest x) (rw (← made.configs) made.kept.history) in (
          omega (arith, slice_get_within states number s.0 s.1, closed.long),
          all_at (CanHappen (configs_at engine number)) (events_of seen) (events_of rest) (Own place moment event) history,
        )

    answered : (expected : ℕ → Running → Answer) (number caller : ℕ) {place : ℕ} (moment : ℕ) {event : Event} (seen : List Entry)
        → ((eff : ℕ) (s : Running) → reply eff event s ≡ expected eff s) → IsTaken (configs_at engine number) place event
        → HasAnswer expected engine number caller place moment event seen
    answered expected number caller {place} moment {event} seen is taken =
        let cs : List SessionConfig = configs_at engine number in
        let s = runs_there 0 (events_of seen) cs place _ taken.there in
        record {
          before = seen;
          last = refl;
          session = s.0;
          there = s.1;
          answered = own_answer (last_tick (events_of seen)) place moment event (runs (events_of seen) cs) s.0 s.1
              ∙ is (effective moment (last_tick (events_of seen)) s.0) s.0;
        }

    pub judged : AreJudged engine (history_at states)
    judged = record {
      packets = λ number caller place moment arrival seen rest h.
          let own = own_taken number caller place moment (Packet arrival) seen rest h in
          answered (packet_answer engine arrival) number caller moment seen
          (λ eff s. packet_is engine arrival eff s (packet_fits caller place moment arrival seen rest own.0 h)) own.1;
      returns = λ number caller place moment sequence seen rest h. answered (return_answer sequence) number caller moment seen
          (λ eff s. return_is sequence eff s) (own_taken number caller place moment (Returned sequence) seen rest h).1;
    }
