-- The text of a script, event by event, and what is known of it once the engine is closed.
use Rattle.bfdd.proofs.WatchedTextCommon.{◌≡◌, ◌<◌, ◌≤◌, ◌+◌, ◌++◌, ◌∙◌, ◌∷◌, ℕ, [], List, length, map, sym, ap, subst, refl, arith}
use Rattle.bfdd.proofs.WatchedTextCommon.{length-map, slice_index_or, get_or_from_slice_get, Outcome, Ascends, started, Line, ShardEvent}
use Rattle.bfdd.proofs.WatchedTextCommon.{share, history_of, last_tick, last_from, runs, EngineFault, Full, Memory, Spent, Knows, Shards}
use Rattle.bfdd.proofs.WatchedTextCommon.{seen_at, IsNewPass, entry_of, happening_outcomes, in_shard, happening, happenings, IsSole}
use Rattle.bfdd.proofs.WatchedTextCommon.{entries_by, left_runs, Change, changes_in, changes_from, Group, group_after, Watching, watching}
use Rattle.bfdd.proofs.WatchedTextCommon.{watched, watched_line, watched_lines, watched_lines_from, AllSole, AreBehind, AreWatched}
use Rattle.bfdd.proofs.WatchedTextCommon.{IsRefusal, IsCutShort, IsUntaken, Went, brought, merged_of, news, outcome_in}
use Rattle.bfd_shard.proofs.Runs.{runs_configs}
use Rattle.bfd_script.specs.Doing.{doing}
use Rattle.bfd_replay.proofs.Going.{entries_both, went_on}
use Rattle.bfd_replay.proofs.OneCaller.{cut_short, history_after, history_few, outcome_first, past_after, past_few}
use Rattle.bfdd.proofs.Shared.{same_of}
use Rattle.bfdd.proofs.TextLines.{shard_news, shard_pieces, all_report, is_quiet}
use Rattle.bfdd.proofs.Steps.{lines_step, group_step, count_step, end_reported}

-- what these lines give, after these events of the sessions
abbrev pub outcomes_from : Shards → List Line → List ShardEvent → List Outcome
outcomes_from engine lines past = happening_outcomes (last_tick past) (happenings engine.configs engine.pool lines)
    (runs past engine.configs)

pub outcomes_start : (engine : Shards) (lines : List Line)
    → outcomes_from engine lines [] ≡ happening_outcomes 0 (happenings engine.configs engine.pool lines) (map started engine.configs)
unfolding last_from
outcomes_start engine lines =
    let e : map started engine.configs ≡ runs [] engine.configs = left_runs [] engine.configs in
    ap (λ ss. happening_outcomes 0 (happenings engine.configs engine.pool lines) ss) (sym e)

-- what was reported of a script so far, if caller 0 is the only one
pub record IsReported (engine : Shards) (lines left : List Line) (k : Knows) (number reported : ℕ) (text : List ℕ) (before g : Group) : Type
    0 where
  pub past : List ShardEvent
  pub short : length past + 1 ≤ number
  pub seen : (r : ℕ) → r < length engine.locks → IsSole 0 (seen_at k r)
      → seen_at k r ≡ entries_by 0 (history_of (length engine.locks) r past)
  pub whole : AllSole (length engine.locks) k → text ++ watched_lines_from number (outcomes_from engine left past) g
      ≡ watched_lines_from 1 (outcomes_from engine lines []) before
  pub after : AllSole (length engine.locks) k → group_after (changes_from number (outcomes_from engine left past)) g
      ≡ group_after (changes_from 1 (outcomes_from engine lines [])) before
  pub counted : AllSole (length engine.locks) k → reported + length (changes_from number (outcomes_from engine left past))
      ≡ length (changes_from 1 (outcomes_from engine lines []))

pub reported_none : {engine : Shards} (lines : List Line) {k : Knows} (g : Group) → IsNewPass engine k
    → IsReported engine lines lines k 1 0 [] g g
reported_none lines g new = record {
  past = [];
  short = omega arith;
  seen = λ r inside sole. new.seen r inside;
  whole = λ s. refl;
  after = λ s. refl;
  counted = λ s. omega arith;
}

-- at the loop's first turn
pub reported_first : {engine : Shards} {lines left : List Line} {k : Knows} {text : List ℕ} (g : Group) → IsNewPass engine k → left ≡ lines
    → text ≡ [] → IsReported engine lines left k 1 0 text g g
reported_first {engine} {lines} {left} {k} g new same none =
    subst (λ t. IsReported engine lines left k 1 0 t g g) (sym none)
    (subst (λ ls. IsReported engine lines ls k 1 0 [] g g) (sym same) (reported_none lines g new))

-- behind a line the watches lack no more than what it brought
pub behind_after : {engine : Shards} {limit : ℕ} {k l : Knows} {watches : List Watching} {new : ℕ → List ShardEvent}
    → AreWatched engine limit k watches
    → ((r : ℕ) → r < length engine.locks → Went k l (new r) r) → AreBehind engine limit l watches
behind_after {k = k} w went = record {
  long = w.long;
  each = λ r inside. record { before = seen_at k r; is = w.each r inside; begins = (went r inside).begins };
}

-- a shard's history, after a line and after the looks at it
both : (engine : Shards) (line : Line) {k l m : Knows}
    → ((r : ℕ) → r < length engine.locks → Went k l (brought (length engine.locks) (happening engine.configs engine.pool line) r) r)
    → ((r : ℕ) → r < length engine.locks → Went l m [] r) → (r : ℕ) → r < length engine.locks
    → Went k m (brought (length engine.locks) (happening engine.configs engine.pool line) r) r
both engine line went looked r inside = went_on (went r inside) (looked r inside)

seen_next : {engine : Shards} {lines left : List Line} (line : Line) {k m : Knows} {number reported : ℕ} {text : List ℕ} {before g : Group}
    (t : IsReported engine lines left k number reported text before g)
    → ((r : ℕ) → r < length engine.locks → Went k m (brought (length engine.locks) (happening engine.configs engine.pool line) r) r)
    → (r : ℕ) → r < length engine.locks → IsSole 0 (seen_at m r)
    → seen_at m r ≡ entries_by 0 (history_of (length engine.locks) r (past_after t.past (happening engine.configs engine.pool line)))
seen_next {engine} line t went r inside sole =
    let n = length engine.locks in
    let h = happening engine.configs engine.pool line in
    let w = went r inside in
    cc (w.seen sole, t.seen r inside (w.sole sole), entries_both (history_of n r t.past) (brought n h r), history_after n r t.past h)

-- what all watches report is what the line gives
changes_are : {engine : Shards} {lines left : List Line} (line : Line) {k m : Knows} {number reported : ℕ} {text : List ℕ} {before
    g : Group} {limit : ℕ} {watches : List Watching} {changes : List Change}
    (t : IsReported engine lines left k number reported text before g)
    → 0 < length engine.locks → Ascends engine.configs
    → ((r : ℕ) → r < length engine.locks → Went k m (brought (length engine.locks) (happening engine.configs engine.pool line) r) r)
    → AreWatched engine limit k watches → ((d : Watching)
    → changes ≡ merged_of (length engine.locks) (λ r. news number (slice_index_or watches r d) (seen_at m r)))
    → AllSole (length engine.locks) m
    → changes ≡ changes_in number (outcome_in (last_tick t.past) (happening engine.configs engine.pool line)
    (runs t.past engine.configs)).items
changes_are {engine} line {k} {m} {number} {limit = limit} {watches} t some up went watched_as news_are s =
    let n = length engine.locks in
    let cs = engine.configs in
    let h = happening engine.configs engine.pool line in
    let d : Watching = watching [] [] 0 in
    news_are d ∙ (same_of n (λ r. news number (slice_index_or watches r d) (seen_at m r))
    (λ r. shard_news number (last_tick t.past) (in_shard n r h) (share n r (runs t.past cs)))
    (λ r inside. let w = went r inside in
    ap (λ x. news number x (seen_at m r)) (get_or_from_slice_get watches r (watching (share n r cs) (seen_at k r) limit) d
    (watched_as.each r inside))
    ∙ shard_pieces n r number (seen_at k r) (seen_at m r) limit t.past h cs inside (t.seen r inside (w.sole (s r inside)))
    (w.seen (s r inside)))
    ∙ all_report number (last_tick t.past) h (runs t.past cs) some (subst Ascends (sym (runs_configs 0 t.past cs)) up)
    (is_quiet engine.pool (doing cs engine.pool line)))

-- one more line is reported
pub reported_next : {engine : Shards} {lines left rest : List Line} {line : Line} {k l m : Knows} {number reported : ℕ} {text : List
    ℕ} {before
    g : Group} {limit reported2 : ℕ} {watches : List Watching} {changes : List Change} {text2 : List ℕ} {g2 : Group}
    → 0 < length engine.locks
    → Ascends engine.configs
    → IsReported engine lines left k number reported text before g → left ≡ line ∷ rest
    → ((r : ℕ) → r < length engine.locks → Went k l (brought (length engine.locks) (happening engine.configs engine.pool line) r) r)
    → ((r : ℕ) → r < length engine.locks → Went l m [] r) → AreWatched engine limit k watches
    → ((d : Watching) → changes ≡ merged_of (length engine.locks) (λ r. news number (slice_index_or watches r d) (seen_at m r)))
    → reported2 ≡ reported + length changes → text2 ≡ text ++ watched_lines number changes g → g2 ≡ group_after changes g
    → IsReported engine lines rest m (number + 1) reported2 text2 before g2
reported_next {engine} {left = left} {rest} {line} {k} {m = m} {number} {reported} {text} {g = g} {reported2 = reported2} {changes =
    changes} {text2} {g2}
    some up t split went looked watched_as news_are counted_is text_is group_is =
    let h = happening engine.configs engine.pool line in
    let w = both engine line went looked in
    let first : outcomes_from engine left t.past ≡ outcome_in (last_tick t.past) h (runs t.past engine.configs) ∷ outcomes_from engine rest
    (past_after t.past h) =
    ap (λ ls. outcomes_from engine ls t.past) split ∙ outcome_first engine.configs t.past h (happenings engine.configs engine.pool rest) in
    let are : AllSole (length engine.locks) m → changes
    ≡ changes_in number (outcome_in (last_tick t.past) h (runs t.past engine.configs)).items =
    changes_are line t some up w watched_as news_are in
    let earlier : AllSole (length engine.locks) m → AllSole (length engine.locks) k = λ s r inside. (w r inside).sole (s r inside) in
    record {
      past = past_after t.past h;
      short = omega (arith, t.short, past_few t.past h);
      seen = seen_next line t w;
      whole = λ s. lines_step text number g first (are s) group_is text_is (t.whole (earlier s));
      after = λ s. group_step number g first (are s) group_is (t.after (earlier s));
      counted = λ s. count_step number reported reported2 first (are s) counted_is (t.counted (earlier s));
    }

-- a line that was refused

pub refused_stopped : {engine : Shards} {lines left : List Line} {k : Knows}
    (l : Knows) {number reported : ℕ} {text : List ℕ} {before g : Group} (fault : EngineFault)
    → IsReported engine lines left k number reported text before g → number ≤ engine.limit → IsRefusal fault engine k l
    → IsCutShort fault engine l
refused_stopped {engine} {k = k} l {number} fault t few r = cut_short engine k l t.past number fault (omega (arith, t.short)) few t.seen r

-- .. or whose changes couldn't be had
pub untaken_stopped : {engine : Shards} {lines left : List Line} (line : Line) {k l m : Knows} {number reported : ℕ} {text : List ℕ} {before
    g : Group} (fault : EngineFault) → IsReported engine lines left k number reported text before g → number ≤ engine.limit
    → ((r : ℕ) → r < length engine.locks → Went k l (brought (length engine.locks) (happening engine.configs engine.pool line) r) r)
    → ((r : ℕ) → r < length engine.locks → Went l m [] r)
    → (r : ℕ) × (r < length engine.locks) × IsUntaken fault engine engine.limit r m → IsCutShort fault engine m
untaken_stopped line Memory t few went looked u = tt
untaken_stopped line (Spent at word) t few went looked u = (u.0, u.1, u.2.1)
untaken_stopped {engine} line (Full at n) t few went looked u = λ s.
    let h = happening engine.configs engine.pool line in
    let is = seen_next line t (both engine line went looked) u.0 u.1 (s u.0 u.1) in
    let hist : List ShardEvent = history_of (length engine.locks) u.0 (past_after t.past h) in
    absurd (omega (
      arith,
      ap length is,
      length-map hist (entry_of 0),
      history_few (length engine.locks) u.0 (past_after t.past h),
      past_few t.past h,
      t.short,
      u.2.1,
      few,
    ))

-- the end: nothing is left
pub reported_all : {engine : Shards} {lines left : List Line} {k : Knows} {number reported : ℕ} {text more : List ℕ} {before g : Group}
    → left ≡ []
    → IsReported engine lines left k number reported text before g → more ≡ text ++ watched_line reported g
    → AllSole (length engine.locks) k
    → more ≡ watched (happening_outcomes 0 (happenings engine.configs engine.pool lines) (map started engine.configs)) before
reported_all {engine} {lines} {left} {number = number} {reported} {text} {before = before} {g} none t added s =
    end_reported text number reported (outcomes_from engine lines []) g before (ap (λ ls. outcomes_from engine ls t.past) none) (t.whole s)
    (t.after s) (t.counted s) added
    ∙ ap (λ os. watched os before) (outcomes_start engine lines)
