-- Events by one caller, and what the closed engine shows of them.
use Rattle.bfd_replay.proofs.WorkerCommon.{Bool, true, configs_at, ◌==◌, given_after, ◌≡◌, ◌<◌, ◌≤◌, ◌+◌, ◌%◌, ◌/◌, ◌++◌, ◌∙◌, ◌∷◌, false}
use Rattle.bfd_replay.proofs.WorkerCommon.{ℕ, [], List, length, map, get_or, sym, ap, subst, refl, append-nil, arith, length-append}
use Rattle.bfd_replay.proofs.WorkerCommon.{length-map, Option, None, Some, slice_get-get_or, EngineFault, Full, Memory, Spent, Knows}
use Rattle.bfd_replay.proofs.WorkerCommon.{Shards, made_at, seen_at, AreClosed, EachJoined, IsClosed, IsNewPass, Among, Apart, Happening}
use Rattle.bfd_replay.proofs.WorkerCommon.{in_shard, IsSole, entries_by, Shard, SessionConfig, started, has, last_tick, outcome_of, runs}
use Rattle.bfd_replay.proofs.WorkerCommon.{entry_of}
use Rattle.std.specs.Prelude.{max, if◌then◌else◌}
use Rattle.std.specs.List.{cons_option}
use Rattle.bfd_session.specs.declared.event.Event.{Event}
use Rattle.std.proofs.lemmas.List.Elements.{filter_map-append}
use Rattle.bfd_shard.specs.declared.entry.ShardEvent.{ShardEvent}
use Rattle.bfd_shard.specs.declared.entry.ShardEvent.TheVariants.{Own, Tick}
unfoldable use Rattle.bfd_shard.specs.History.{last_from}
use Rattle.bfd_shard.specs.Dealing.{event_in, history_of}
unfoldable use Rattle.bfd_shard.specs.Dealing.{share}
use Rattle.bfd_shard.proofs.Runs.{last_more, runs_more}
use Rattle.bfd_replay.specs.Happenings.{happening_outcomes, session_event}
use Rattle.bfd_replay.specs.Turning.{AllSole, HasKept, IsCutShort, IsRefusal, IsOfOne, HasSeen, brought, outcome_in}
use Rattle.bfd_replay.proofs.Histories.{left_runs, runs_share}
use Rattle.bfd_replay.proofs.Soles.{given_done, sole_of}
use Rattle.bfd_packet.specs.declared.arrival.Arrival.{Arrival}
use Rattle.bfd_sbfd.specs.declared.reflecting.Reflector.{Reflector}
use Rattle.bfd_session.specs.Arrivals.{Destination, Discarded, Reflected, Own as OwnTo, comes_to}
use Rattle.bfd_session.specs.Rows.{place_of, table_of}
use Rattle.bfd_session.specs.declared.event.Event.TheVariants.{Command, Show as Showing}
use Rattle.bfd_script.specs.declared.line.entries.Line.{Line}
use Rattle.bfd_script.specs.declared.line.entries.Line.TheVariants.{Rx, Tick as TickLine, Cmd, Show}
use Rattle.bfd_script.specs.Doing.{Doing, Rests, Reflects, Happens, Passes, arriving, asking}
use Rattle.bfd_replay.specs.Planned.{happening, happening_by}

-- an event more, if it is one of the sessions
abbrev pub past_after : List ShardEvent → Happening → List ShardEvent
past_after past h = past ++ cons_option (session_event h) []

pub outcome_first : (cs : List SessionConfig) (past : List ShardEvent) (h : Happening) (hs : List Happening)
    → happening_outcomes (last_tick past) (h ∷ hs) (runs past cs)
    ≡ outcome_in (last_tick past) h (runs past cs) ∷ happening_outcomes (last_tick (past_after past h)) hs (runs (past_after past h) cs)
outcome_first cs past (Apart outcome) hs = cc (append-nil past)
outcome_first cs past (Among event) hs = cc (last_more 0 past event, runs_more past event cs)

pub outcomes_none : (cs : List SessionConfig) (hs : List Happening)
    → happening_outcomes (last_tick []) hs (runs [] cs) ≡ happening_outcomes 0 hs (map started cs)
unfolding last_from
outcomes_none cs hs = let e : map started cs ≡ runs [] cs = left_runs [] cs in ap (λ ss. happening_outcomes 0 hs ss) (sym e)

-- a shard has every tick

last_own : (b : Bool) (last n r k m : ℕ) (event : Event) (es : List ShardEvent) → last_from last (history_of n r es) ≡ last_from last es
    → last_from last (cons_option (if b then Some (Own (k / n) m event) else None) (history_of n r es)) ≡ last_from last es
unfolding last_from
last_own true last n r k m event es rest = rest
last_own false last n r k m event es rest = rest

last_history : (last n r : ℕ) (es : List ShardEvent) → last_from last (history_of n r es) ≡ last_from last es
unfolding last_from
last_history last n r [] = refl
last_history last n r (Own k m event ∷ es) = last_own (k % n == r) last n r k m event es (last_history last n r es)
last_history last n r (Tick t ∷ es) = last_history (max last t) n r es

-- what an event of a shard gives, where all entries are caller 0's
pub given_stands : (engine : Shards) (k : Knows) {r : ℕ} (past : List ShardEvent) (event : ShardEvent) → r < length engine.locks
    → HasSeen engine past k
    → given_after (configs_at engine r) (seen_at k r) event
    ≡ outcome_of (last_tick past) event (share (length engine.locks) r (runs past engine.configs))
given_stands engine k {r} past event inside stands =
    let n = length engine.locks in
    cc (
      given_done 0 (configs_at engine r) (history_of n r past) event (stands r inside),
      last_history 0 n r past,
      runs_share n r past engine.configs inside,
    )

pub history_after : (n r : ℕ) (past : List ShardEvent) (h : Happening)
    → history_of n r (past_after past h) ≡ history_of n r past ++ brought n h r
history_after n r past (Apart outcome) = cc (append-nil past, append-nil (history_of n r past))
history_after n r past (Among event) = filter_map-append (event_in n r) past (event ∷ [])

few_by : (o : Option ShardEvent) (es : List ShardEvent) {m : ℕ} → length es ≤ m → length (cons_option o es) ≤ m + 1
few_by None es h = omega (arith, h)
few_by (Some e) es h = omega (arith, h)

pub history_few : (n r : ℕ) (es : List ShardEvent) → length (history_of n r es) ≤ length es
history_few n r [] = omega arith
history_few n r (e ∷ es) = omega (arith, few_by (event_in n r e) (history_of n r es) (history_few n r es))

pub past_few : (past : List ShardEvent) (h : Happening) → length (past_after past h) ≤ length past + 1
past_few past (Apart outcome) = omega (arith, length-append past [])
past_few past (Among event) = omega (arith, length-append past (event ∷ []))

-- one shard has every session and every event

pub one_share : {A : Type 0} (xs : List A) → share 1 0 xs ≡ xs
unfolding share
one_share [] = refl
one_share (x ∷ xs) = cc (one_share xs)

one_by : (k m : ℕ) (r q : ℕ) → r ≡ 0 → q ≡ k → (k % 1 ≡ r) × (k / 1 ≡ q)
one_by k m r q zero_is same = (omega (arith, zero_is), omega (arith, same))

pub one_shard : (h : Happening) → in_shard 1 0 h ≡ session_event h
one_shard (Apart outcome) = refl
one_shard (Among (Own k m event)) = rw ((one_by k m 0 k refl refl).0, (one_by k m 0 k refl refl).1) refl
one_shard (Among (Tick t)) = refl

pub one_history : (es : List ShardEvent) → history_of 1 0 es ≡ es
one_history [] = refl
one_history (e ∷ es) = ap (λ o. cons_option o (history_of 1 0 es)) (one_shard (Among e)) ∙ ap (λ xs. e ∷ xs) (one_history es)

pub one_brought : (h : Happening) → brought 1 h 0 ≡ cons_option (session_event h) []
one_brought h = ap (λ o. cons_option o []) (one_shard h)

-- a refused event

pub cut_short : (engine : Shards) (k l : Knows) (past : List ShardEvent) (most : ℕ) (fault : EngineFault) → length past < most
    → most ≤ engine.limit
    → ((r : ℕ) → r < length engine.locks → IsSole 0 (seen_at k r) → seen_at k r ≡ entries_by 0 (history_of (length engine.locks) r past))
    → IsRefusal fault engine k l → IsCutShort fault engine l
cut_short engine k l past most Memory few limit seen r = tt
cut_short engine k l past most (Spent at word) few limit seen r = (at, r.0, r.1)
cut_short engine k l past most (Full at n) few limit seen r = λ s.
    let w = r.2 in
    let sole = s at r.0 in
    let is : seen_at l at ≡ entries_by 0 (history_of (length engine.locks) at past) =
    cc (w.seen sole, seen at r.0 (w.sole sole), append-nil (seen_at k at)) in
    absurd (omega (
      arith,
      ap length is,
      length-map (history_of (length engine.locks) at past) (entry_of 0),
      history_few (length engine.locks) at past,
      r.1,
      few,
      limit,
    ))

-- the engine is closed

pub closed_at : {engine : Shards} {l : Knows} (shards : List Shard) {s : ℕ} → AreClosed engine l shards → s < length engine.locks
    → (shard : Shard) × IsClosed engine l s shard
closed_at [] closed h = absurd (omega (arith, closed.long, h))
closed_at (x ∷ shards) {s} closed h =
    (get_or (x ∷ shards) s x, closed.each s (get_or (x ∷ shards) s x) (slice_get-get_or (x ∷ shards) s x (omega (arith, closed.long, h))))

none_made : {engine : Shards} {times : ℕ} {k l : Knows} → IsNewPass engine k → HasKept times k l → (r : ℕ) → r < length engine.locks
    → made_at l r ≡ []
none_made new kept r inside = kept.made r ∙ new.made r inside

pub none_open : {engine : Shards} {times : ℕ} {k l : Knows} → IsNewPass engine k → HasKept times k l → EachJoined engine l
none_open {l = l} new kept r n inside made = let e : has n (made_at l r) ≡ false = ap (has n) (none_made new kept r inside) in absurd (cc)

-- then caller 0 was the only one
pub all_sole : {engine : Shards} {times : ℕ} {k l : Knows} {shards : List Shard} → IsNewPass engine k → HasKept times k l
    → AreClosed engine l shards → AllSole (length engine.locks) l
all_sole {shards = shards} new kept closed r inside =
    let c = (closed_at shards closed inside).1 in
    subst (IsSole 0) c.journal (sole_of 0 _ (λ n other. c.unmade n other (ap (has n) (none_made new kept r inside))))

-- and it stopped only when out of memory
pub never_stopped : {engine : Shards} {times : ℕ} {k l : Knows} {shards : List Shard} (fault : EngineFault) → IsNewPass engine k
    → HasKept times k l → times ≤ 400002
    → AreClosed engine l shards → IsCutShort fault engine l → fault ≡ Memory
never_stopped Memory new kept few closed stop = refl
never_stopped (Full at n) new kept few closed stop = absurd (stop (all_sole new kept closed))
never_stopped {shards = shards} (Spent at word) new kept few closed stop =
    absurd (omega (arith, (closed_at shards closed stop.1).1.word, kept.taken stop.0, new.taken stop.0 stop.1, few, stop.2))

-- a line that at most one of so many shards has

pub one_turn : (n : ℕ) (pool : List Reflector) (what : Doing) → ((t : ℕ) → what ≡ Passes t → n ≡ 1) → IsOfOne n (happening_by pool what)
one_turn n pool (Rests answer) h = tt
one_turn n pool (Reflects place arrival) h = tt
one_turn n pool (Happens place moment event) h = tt
one_turn n pool (Passes t) h = h t refl

arrives : (moment : ℕ) (arrival : Arrival) (to : Destination) (t : ℕ) → arriving moment arrival to ≡ Passes t → ⊥
arrives moment arrival (Discarded test) t e = absurd (cc)
arrives moment arrival (Reflected place) t e = absurd (cc)
arrives moment arrival (OwnTo place event) t e = absurd (cc)

asks : (moment : ℕ) (event : Event) (place : Option ℕ) (t : ℕ) → asking moment event place ≡ Passes t → ⊥
asks moment event None t e = absurd (cc)
asks moment event (Some place) t e = absurd (cc)

-- .. if it is no tick, or there is one shard
pub one_line : (n : ℕ) (configs : List SessionConfig) (pool : List Reflector) (line : Line) → ((t : ℕ) → line ≡ TickLine t → n ≡ 1)
    → IsOfOne n (happening configs pool line)
one_line n configs pool (Rx moment arrival) h = one_turn n pool (arriving moment arrival (comes_to (table_of configs pool) arrival))
    (λ t e. absurd (arrives moment arrival (comes_to (table_of configs pool) arrival) t e))
one_line n configs pool (TickLine t) h = h t refl
one_line n configs pool (Cmd moment discr cmd) h = one_turn n pool (asking moment (Command cmd) (place_of discr configs))
    (λ t e. absurd (asks moment (Command cmd) (place_of discr configs) t e))
one_line n configs pool (Show moment discr) h = one_turn n pool (asking moment Showing (place_of discr configs))
    (λ t e. absurd (asks moment Showing (place_of discr configs) t e))
