-- One more event is reported.
use Rattle.bfd_replay.proofs.StreamCommon.{◌≡◌, ◌+◌, ◌++◌, ◌∙◌, ℕ, List, [], ◌∷◌, length, Option, ap, refl, sym, subst, append_assoc}
use Rattle.bfd_replay.proofs.StreamCommon.{append-nil, arith, Appends, Line, Outcome, done_line, dropped, event_lines, lines_from}
use Rattle.bfd_replay.proofs.StreamCommon.{packets_sent, report, Happening, happening, happenings, happening_outcomes, ReportedUpTo}
use Rattle.bfd_replay.proofs.StreamCommon.{PendingLines}
use Rattle.bfd_replay.proofs.StreamCommon.{TookFront, TookUpTo, front_of_longer, none_taken, took_front, took_of_longer, took_on, took_rest}
use Rattle.std.specs.Prelude.{◌<◌, ◌≤◌, sum_by}
use Rattle.bfd_shard.specs.Dealing.{history_of}
use Rattle.std.specs.List.{cons_option, filter_map}
use Rattle.std.proofs.lemmas.List.Sums.{sum_by-cons}
use Rattle.bfd_shard.specs.declared.entry.ShardEvent.{ShardEvent}
use Rattle.bfd_shard.specs.History.{last_tick, runs}
use Rattle.bfd_engine.specs.Engines.{Knows, Shards}
use Rattle.bfd_engine.specs.Calls.{seen_at}
use Rattle.bfd_engine.specs.Opening.{IsNewPass}
use Rattle.bfd_replay.specs.Happenings.{Apart, Among, session_event}
use Rattle.bfd_replay.specs.declared.stream.pending.Stop.{Stop}
use Rattle.bfd_replay.specs.declared.stream.pending.Stop.TheVariants.{Refused, Unwritten}
use Rattle.bfd_replay.specs.Counts.{counts_of}
use Rattle.bfd_replay.specs.declared.report.counts.Counts.{Counts}
use Rattle.bfd_replay.specs.PendingLines.{HasBrought, HasReportedEvent, HasReportedFront, IsEventStop, IsStop, outcomes_on}
use Rattle.bfd_replay.specs.Turning.{AllSole, HasKept, HasSeen, Went, brought, outcome_in}
use Rattle.bfd_replay.specs.Working.{IsSole, entries_by}
use Rattle.bfd_replay.proofs.Going.{earlier_sole, entries_both}
use Rattle.bfd_replay.proofs.OneCaller.{cut_short, history_after, outcome_first, outcomes_none, past_after, past_few}

-- more was reported
pub reported_on : {first next last : Option (List ℕ)} {start reported after : PendingLines} {all some rest : List Outcome}
    → ReportedUpTo first next start reported all some → ReportedUpTo next last reported after some rest
    → ReportedUpTo first last start after all rest
reported_on {first} {next} {last} {start} {reported} {after} {all} {some} {rest} so_far now = record {
  lines = took_on _ next last _ _ _ so_far.lines now.lines;
  events = cc;
  txs = cc;
  drops = cc;
}

nothing_reported : (now : Option (List ℕ)) (reported : PendingLines) (os : List Outcome) → ReportedUpTo now now reported reported os os
nothing_reported now reported os = record { lines = none_taken now _; events = refl; txs = refl; drops = refl }

past_on : (past : List ShardEvent) (h : Happening) (rest : List ShardEvent)
    → past_after past h ++ rest ≡ past ++ cons_option (session_event h) rest
past_on past (Apart outcome) rest = cc (append-nil past)
past_on past (Among event) rest = append_assoc past (event ∷ []) rest

-- an event's lines stand behind the text, before those of the others
lines_split : (text : List ℕ) (n : ℕ) (o : Outcome) (os : List Outcome)
    → text ++ lines_from n (o ∷ os) ≡ (text ++ event_lines n o) ++ lines_from (n + 1) os
lines_split text n o os = cc (append_assoc text (event_lines n o) (lines_from (n + 1) os))

pub event_front : (old new : Option (List ℕ)) (before : PendingLines) (o : Outcome) (os : List Outcome)
    → TookFront old new (before.text ++ event_lines (before.events + 1) o)
    → TookFront old new (before.text ++ lines_from (before.events + 1) (o ∷ os))
event_front old new before o os took =
    subst (TookFront old new) (sym (lines_split before.text (before.events + 1) o os))
    (front_of_longer old new _ (lines_from (before.events + 1 + 1) os) took)

pub event_reported : (old new : Option (List ℕ)) (before after : PendingLines) (o : Outcome) → after.events ≡ before.events + 1
    → after.txs ≡ before.txs + packets_sent o → after.drops ≡ before.drops + dropped o
    → TookUpTo old new (before.text ++ event_lines (before.events + 1) o) after.text → (rest : List Outcome)
    → ReportedUpTo old new before after (o ∷ rest) rest
event_reported old new before after o events txs drops took rest = record {
  lines = subst (λ t. TookUpTo old new t (after.text ++ lines_from (after.events + 1) rest))
      (sym (lines_split before.text (before.events + 1) o rest))
      (rw events (took_of_longer old new _ after.text (lines_from (before.events + 1 + 1) rest) took));
  events = omega (arith, events);
  txs = omega (arith, txs, sum_by-cons packets_sent o rest);
  drops = omega (arith, drops, sum_by-cons dropped o rest);
}

-- what was reported of a script so far by caller 0, if it is the engine's only one
pub record IsReporting (engine : Shards) (lines left : List Line) (l : Knows) (old now : Option (List ℕ))
    (before after : PendingLines) : Type 0 where
  pub past : List ShardEvent
  pub short : length past + length left ≤ length lines
  pub whole : past ++ filter_map session_event (happenings engine.configs engine.pool left)
      ≡ filter_map session_event (happenings engine.configs engine.pool lines)
  pub seen : (r : ℕ) → r < length engine.locks → IsSole 0 (seen_at l r)
      → seen_at l r ≡ entries_by 0 (history_of (length engine.locks) r past)
  pub reported : AllSole (length engine.locks) l → ReportedUpTo old now before after
      (outcomes_on engine (happenings engine.configs engine.pool lines))
      (happening_outcomes (last_tick past) (happenings engine.configs engine.pool left) (runs past engine.configs))

pub reporting_none : {engine : Shards} (lines : List Line) {left : List Line} {k : Knows} (now : Option (List ℕ)) (reported : PendingLines)
    → left ≡ lines → IsNewPass engine k
    → IsReporting engine lines left k now now reported reported
reporting_none {engine} lines {left} {k} now reported same new = record {
  past = [];
  short = omega (arith, ap length same);
  whole = ap (λ ls. filter_map session_event (happenings engine.configs engine.pool ls)) same;
  seen = λ r inside s. new.seen r inside;
  reported = λ s. rw (ap (λ ls. happening_outcomes (last_tick []) (happenings engine.configs engine.pool ls) (runs [] engine.configs)) same
      ∙ outcomes_none engine.configs (happenings engine.configs engine.pool lines))
      (nothing_reported now reported (outcomes_on engine (happenings engine.configs engine.pool lines)));
}

module _ {engine : Shards} {lines left rest : List Line} {line : Line} {l : Knows} {old now : Option (List ℕ)} {before
    reported : PendingLines}
    (split : left ≡ line ∷ rest)
    (t : IsReporting engine lines left l old now before reported) where
  abbrev h : Happening
  h = happening engine.configs engine.pool line

  -- what the lines give that are left once this one was reported
  abbrev later : List Outcome
  later = happening_outcomes (last_tick (past_after t.past h)) (happenings engine.configs engine.pool rest)
      (runs (past_after t.past h) engine.configs)

  outcomes_split : outcome_in (last_tick t.past) h (runs t.past engine.configs) ∷ later
      ≡ happening_outcomes (last_tick t.past) (happenings engine.configs engine.pool left) (runs t.past engine.configs)
  outcomes_split = sym (outcome_first engine.configs t.past h (happenings engine.configs engine.pool rest))
      ∙ ap (λ ls. happening_outcomes (last_tick t.past) (happenings engine.configs engine.pool ls) (runs t.past engine.configs)) (sym split)

  stands : AllSole (length engine.locks) l → HasSeen engine t.past l
  stands s r inside = t.seen r inside (s r inside)

  pub reporting_next : {m : Knows} {next : Option (List ℕ)} {after : PendingLines}
      → ((r : ℕ) → r < length engine.locks → Went l m (brought (length engine.locks) (happening engine.configs engine.pool line) r) r)
      → HasReportedEvent engine (happening engine.configs engine.pool line) l m now next reported after
      → IsReporting engine lines rest m old next before after
  reporting_next {m} {next} {after} w more =
      let n = length engine.locks in
      let earlier : AllSole n m → AllSole n l = λ s r inside. (w r inside).sole (s r inside) in
      record {
        past = past_after t.past h;
        short = omega (arith, t.short, past_few t.past h, ap length split);
        whole = past_on t.past h (filter_map session_event (happenings engine.configs engine.pool rest))
            ∙ (ap (λ ls. t.past ++ filter_map session_event (happenings engine.configs engine.pool ls)) (sym split) ∙ t.whole);
        seen = λ r inside s. cc (
          (w r inside).seen s,
          t.seen r inside ((w r inside).sole s),
          history_after n r t.past h,
          entries_both (history_of n r t.past) (brought n h r),
        );
        reported = λ s. reported_on (t.reported (earlier s)) (subst (λ os. ReportedUpTo now next reported after os later) outcomes_split
            (more s t.past (stands (earlier s)) later));
      }

  pub reporting_front : {times : ℕ} (m : Knows) (next : Option (List ℕ)) → HasKept times l m
      → HasReportedFront engine (happening engine.configs engine.pool line) l m now next reported → AllSole (length engine.locks) m
      → TookFront old next (before.text ++ lines_from (before.events + 1)
      (outcomes_on engine (happenings engine.configs engine.pool lines)))
  reporting_front m next kept more s =
      let earlier : AllSole (length engine.locks) l = λ r inside. earlier_sole r kept (s r inside) in
      took_front old now next _ _ (t.reported earlier).lines
      (subst (λ os. TookFront now next (reported.text ++ lines_from (reported.events + 1) os)) outcomes_split
      (more s t.past (stands earlier) later))

  pub reporting_stopped : (m : Knows) (stop : Stop) → length lines ≤ engine.limit → IsEventStop engine l m stop → IsStop engine m stop
  reporting_stopped m (Unwritten fault) limit e = tt
  reporting_stopped m (Refused fault) limit e = cut_short engine l m t.past (length lines) fault (omega (arith, t.short, ap length split))
      limit t.seen e

-- the end: nothing is left
module _ {engine : Shards} {lines left : List Line} {l : Knows} {old now : Option (List ℕ)} {before reported : PendingLines}
    (none : left ≡ [])
    (t : IsReporting engine lines left l old now before reported) where
  pub reporting_brought : HasBrought engine (happenings engine.configs engine.pool lines) l
  reporting_brought s r inside = t.seen r inside (s r inside)
      ∙ ap (λ es. entries_by 0 (history_of (length engine.locks) r es)) (sym (append-nil t.past)
      ∙ (ap (λ ls. t.past ++ filter_map session_event (happenings engine.configs engine.pool ls)) (sym none) ∙ t.whole))

  pub reporting_all : AllSole (length engine.locks) l
      → ReportedUpTo old now before reported (outcomes_on engine (happenings engine.configs engine.pool lines)) []
  reporting_all s = subst (λ ls. ReportedUpTo old now before reported (outcomes_on engine (happenings engine.configs engine.pool lines))
      (happening_outcomes (last_tick t.past) (happenings engine.configs engine.pool ls) (runs t.past engine.configs))) none (t.reported s)

  pub reporting_end : AllSole (length engine.locks) l
      → TookFront old now (before.text ++ lines_from (before.events + 1) (outcomes_on engine (happenings engine.configs engine.pool lines)))
  reporting_end s = (reported.text ++ lines_from (reported.events + 1) [], (reporting_all s).lines)

-- the report of all events, if nothing was reported at first
module _ (old mid new : Option (List ℕ)) (start reported : PendingLines) (os : List Outcome) (text : start.text ≡ [])
    (events : start.events ≡ 0)
    (txs : start.txs ≡ 0) (drops : start.drops ≡ 0) where
  report_is : report os ≡ (start.text ++ lines_from (start.events + 1) os)
      ++ done_line (start.events + length os) (start.txs + sum_by packets_sent os) (start.drops + sum_by dropped os)
  report_is =
      let n : start.events + 1 ≡ 1 = omega (arith, events) in
      let e : start.events + length os ≡ length os = omega (arith, events) in
      let t : start.txs + sum_by packets_sent os ≡ sum_by packets_sent os = omega (arith, txs) in
      let d : start.drops + sum_by dropped os ≡ sum_by dropped os = omega (arith, drops) in
      rw (text, n, e, t, d) refl

  last_is : ReportedUpTo old mid start reported os [] → done_line (start.events + length os) (start.txs + sum_by packets_sent os)
      (start.drops + sum_by dropped os) ≡ done_line reported.events reported.txs reported.drops
  last_is all =
      let e : start.events + length os ≡ reported.events = omega (arith, all.events) in
      let t : start.txs + sum_by packets_sent os ≡ reported.txs = omega (arith, all.txs) in
      let d : start.drops + sum_by dropped os ≡ reported.drops = omega (arith, all.drops) in
      rw (e, t, d) refl

  left_to_write : ReportedUpTo old mid start reported os []
      → TookUpTo old mid (report os) (reported.text ++ done_line reported.events reported.txs reported.drops)
  left_to_write all =
      let last : List ℕ = done_line reported.events reported.txs reported.drops in
      let lines : List ℕ = start.text ++ lines_from (start.events + 1) os in
      let is : report os ≡ lines ++ last = cc (report_is, last_is all) in
      rw is (rw (← append-nil reported.text) (took_of_longer old mid _ _ last all.lines))

  pub report_whole : ReportedUpTo old mid start reported os []
      → Appends mid new (reported.text ++ done_line reported.events reported.txs reported.drops)
      → Appends old new (report os)
  report_whole all now = took_rest old mid new _ _ (left_to_write all) now

  pub report_front : ReportedUpTo old mid start reported os []
      → TookFront mid new (reported.text ++ done_line reported.events reported.txs reported.drops)
      → TookFront old new (report os)
  report_front all now = took_front old mid new _ _ (left_to_write all) now

  -- where the events' lines broke off
  pub lines_front : TookFront old new (start.text ++ lines_from (start.events + 1) os) → TookFront old new (report os)
  lines_front took = subst (TookFront old new) (sym report_is)
      (front_of_longer old new _ (done_line (start.events + length os) (start.txs + sum_by packets_sent os)
      (start.drops + sum_by dropped os)) took)

pub counts_reported : {old mid : Option (List ℕ)} (start reported : PendingLines) (os : List Outcome) → start.events ≡ 0 → start.txs ≡ 0
    → start.drops ≡ 0 → ReportedUpTo old mid start reported os []
    → (let c : Counts = record { events = reported.events; txs = reported.txs; drops = reported.drops } in c) ≡ counts_of os
counts_reported start reported os events txs drops all =
    let e : reported.events ≡ length os = omega (arith, all.events, events) in
    let t : reported.txs ≡ sum_by packets_sent os = omega (arith, all.txs, txs) in
    let d : reported.drops ≡ sum_by dropped os = omega (arith, all.drops, drops) in
    rw (e, t, d) refl
