-- A script on shards is the script on the whole table.
use Rattle.bfd_replay.proofs.WorkerCommon.{◌∙◌, ◌≡◌, inl, inr, ◌<◌, ◌≤◌, ◌+◌, ◌*◌, ◌/◌, ◌%◌, ◌==◌, ◌∷◌, Bool, true, false, ℕ, zero, suc, []}
use Rattle.bfd_replay.proofs.WorkerCommon.{List, length, map, get_or, refl, sym, ap, subst, arith, Some, None, Option, add_comm}
use Rattle.bfd_replay.proofs.WorkerCommon.{slice_index_or, sum_by, if◌then◌else◌, length-map, slice_get-get_or, slice_get_within, eqb-true}
use Rattle.bfd_replay.proofs.WorkerCommon.{cases_lt, SessionConfig, started, Shard, CanHappen, IsShard, Shards, configs_at, Numbered, Piece}
use Rattle.bfd_replay.proofs.WorkerCommon.{Happening, Apart, Among, AreParts, in_shard, numbered, queue, apart_pieces, AreQueues, IsMet}
use Rattle.bfd_replay.proofs.WorkerCommon.{events_of_table, happening, happenings, AreMet, one_up, sum_to, ups, left_is, world_is, Lists}
use Rattle.bfd_replay.proofs.WorkerCommon.{AreStates, AreReported, totals, runs, queue_events, runs_share, Reflector}
use Rattle.std.specs.List.{AllByRecursion, cons_option}
use Rattle.bfd_session.specs.declared.event.Event.{Event}
use Rattle.bfd_session.specs.Rows.{Ascends}
use Rattle.bfd_session.proofs.Starting.{started_configs}
use Rattle.bfd_shard.specs.declared.entry.ShardEvent.TheVariants.{Own, Tick}
use Rattle.bfd_shard.specs.Dealing.{history_of, share}
use Rattle.bfd_shard.proofs.Sharing.{few_share}
use Rattle.bfd_script.specs.declared.line.entries.Line.{Line}
use Rattle.bfd_engine.proofs.Reaching.{dealt_event}
use Rattle.bfd_shard.proofs.Sharing.{share_map}
use Rattle.bfd_replay.specs.Counts.{counts_of}
use Rattle.bfd_replay.specs.declared.report.counts.Counts.{Counts}
use Rattle.bfd_replay.specs.Happenings.{happening_outcomes}
use Rattle.bfd_replay.specs.Replayed.{HasTotals, HaveReplayed, worker_of}
use Rattle.bfd_instance.specs.World.{world}
use Rattle.bfd_replay.proofs.Soles.{events_entries}
use Rattle.bfd_replay.proofs.Summing.{sum_same, ups_are as counted, ups_shared}

pub room_enough : (engine : Shards) (s : ℕ) {room : ℕ} {configs : List SessionConfig} → engine.configs ≡ configs
    → room ≡ 5 * length configs + 5 → 5 * length (configs_at engine s) + 5 ≤ room
room_enough engine s is enough = omega (arith, few_share (length engine.locks) s engine.configs, ap length is, enough)

-- the events of a queue may happen to its shard
own_met : (b : Bool) (engine : Shards) {n : ℕ} (s number : ℕ) {k : ℕ} (m : ℕ) {event : Event} (rest : List Numbered) → (k % n == s) ≡ b
    → n ≡ length engine.locks → 0 < n → CanHappen engine.configs (Own k m event)
    → AreMet engine s rest → AreMet engine s (cons_option (numbered number (if b then Some (Own (k / n) m event) else None)) rest)
own_met true engine {n} s number {k} m {event} rest is locks some can met =
    (rw (← eqb-true (k % n) s is) (dealt_event engine k n _ locks some can), met)
own_met false engine s number m rest is locks some can met = met

met_in : (engine : Shards) {n : ℕ} (s number : ℕ) (hs : List Happening) → n ≡ length engine.locks → 0 < n
    → AllByRecursion (IsMet engine.configs) hs → AreMet engine s (queue n s number hs)
met_in engine s number [] locks some met = tt
met_in engine s number (Apart o ∷ hs) locks some met = met_in engine s (number + 1) hs locks some met.1
met_in engine {n} s number (Among (Own k m event) ∷ hs) locks some met =
    own_met (k % n == s) engine s number m (queue n s (number + 1) hs) refl locks some met.0
    (met_in engine s (number + 1) hs locks some met.1)
met_in engine s number (Among (Tick t) ∷ hs) locks some met = (tt, met_in engine s (number + 1) hs locks some met.1)

short_one : (o : Option Numbered) (xs : List Numbered) {n : ℕ} → length xs ≤ n → length (cons_option o xs) ≤ suc n
short_one None xs h = omega (arith, h)
short_one (Some x) xs h = omega (arith, h)

short_queue : (n s number : ℕ) (hs : List Happening) → length (queue n s number hs) ≤ length hs
short_queue n s number [] = omega arith
short_queue n s number (h ∷ hs) = short_one (numbered number (in_shard n s h)) (queue n s (number + 1) hs) (short_queue n s (number + 1) hs)

past : {A : Type 0} (xs : List (List A)) (s : ℕ) → length xs ≤ s → slice_index_or xs s [] ≡ []
past [] s h = refl
past (x ∷ xs) zero h = absurd (omega (arith, h))
past (x ∷ xs) (suc s) h = past xs s (omega (arith, h))

pub short_queues : {shards : ℕ} {hs : List Happening} {queues : List (List Numbered)} (s : ℕ) → AreQueues shards hs queues
    → length (slice_index_or queues s []) ≤ length hs
short_queues {shards} {hs} {queues} s are = elim (cases_lt s shards) [
  | inl inside ↦ omega (arith, ap length (are.each s inside), short_queue shards s 1 hs)
  | inr beyond ↦ omega (arith, ap length (past queues s (omega (arith, are.long, beyond))))
]

pub met_queues : (engine : Shards) {shards : ℕ} {hs : List Happening} {queues : List (List Numbered)} → shards ≡ length engine.locks
    → 0 < shards → AreQueues shards hs queues → AllByRecursion (IsMet engine.configs) hs
    → (s : ℕ) → s < length engine.locks → AreMet engine s (slice_index_or queues s [])
met_queues engine {hs} locks some are met s inside =
    subst (AreMet engine s) (sym (are.each s (omega (arith, inside, locks)))) (met_in engine s 1 hs locks some met)

-- the parts are those of the script's events
pub are_parts : {engine : Shards} {shards workers : ℕ} {hs : List Happening} {configs : List SessionConfig} {queues : List
    (List Numbered)} {all : List (List (List Piece))} (parts : List (List Piece)) {apart : List Piece}
    → 0 < shards → shards ≡ length engine.locks → engine.configs ≡ configs → Ascends configs → AreQueues shards hs queues
    → AreReported engine queues workers all → length parts ≡ shards + 1
    → ((s : ℕ) → s < shards → slice_index_or parts s [] ≡ slice_index_or (slice_index_or all (s % length all) []) s [])
    → slice_index_or parts shards [] ≡ apart → apart ≡ apart_pieces 1 hs
    → AreParts shards 1 0 hs (map started configs) parts
are_parts {shards} {configs} parts some locks is ascends are reported_are long each last apart_is = record {
  some = some;
  long = long;
  each = λ s h. cc (each s h, reported_are.each s (omega (arith, h, locks)), are.each s h, share_map started shards s configs);
  others = cc;
  ascends = subst Ascends (sym (started_configs configs)) ascends;
}

-- the states are those of the script
pub have_replayed : {engine : Shards} (script : Lists) {shards workers : ℕ} {queues : List (List Numbered)} {states : List Shard}
    → shards ≡ length engine.locks → engine.configs ≡ script.configs
    → AreQueues shards (happenings script.configs script.pool script.events) queues → AreStates engine queues workers states
    → HaveReplayed script shards (worker_of workers) states
have_replayed script {shards} {workers} {states} locks is are all = record {
  long = cc;
  each = λ s state e. let one = all.each s state e in record {
    configs = cc;
    journal = cc (
      are.each s (omega (arith, slice_get_within states s state e, all.long, locks)),
      queue_events shards s 1 (happenings script.configs script.pool script.events),
      add_comm (s % workers) 1,
    );
  };
}

-- a shard of no session, as what stands where none is
pub none : Shard
none = record { sessions = []; last = 0; journal = []; limit = 0; room = 0 }

-- how many sessions are Up
pub ups_are : {script : Lists} (shards : ℕ) (by : ℕ → ℕ) {up : ℕ} {states : List Shard} (d : Shard) → 0 < shards
    → HaveReplayed script shards by states
    → ((k : ℕ) (e : Shard) → k < length states → IsShard (get_or states k e))
    → up ≡ sum_to (λ k. sum_by one_up (get_or states k d).sessions) (length states) → up ≡ (totals script).ups
ups_are zero by d some have kept is = absurd (omega (arith, some))
ups_are {script} (suc n) by {states = states} d some have kept is = cc (
  sum_same (λ k. sum_by one_up (get_or states k d).sessions) (λ k. ups (share (suc n) k (runs (events_of_table script) script.configs)))
      (suc n) (λ k h.
      (let inside : k < length states = omega (arith, h, have.long) in
      let state = get_or states k d in
      let one = have.each k state (slice_get-get_or states k d inside) in
      cc (
        counted state.sessions,
        (kept k d inside).whole,
        events_entries (by k) (history_of (suc n) k (events_of_table script)),
        runs_share _ k (events_of_table script) script.configs h,
      ))),
  ups_shared n (runs (events_of_table script) script.configs),
  left_is script,
)

-- what a replay counted
pub totals_are : (script : Lists) (shards : ℕ) (by : ℕ → ℕ) {counts : Counts} {up : ℕ} {states : List Shard} → 0 < shards
    → HaveReplayed script shards by states
    → ((k : ℕ) (e : Shard) → k < length states → IsShard (get_or states k e))
    → ((d : Shard) → up ≡ sum_to (λ k. sum_by one_up (get_or states k d).sessions) (length states))
    → counts ≡ counts_of (happening_outcomes 0 (happenings script.configs script.pool script.events) (map started script.configs))
    → HasTotals script counts up
totals_are script shards by {counts} {up} some have kept is counted_are =
    let are : counts ≡ counts_of (world script) = counted_are ∙ ap counts_of (world_is script) in
    let ups : up ≡ (totals script).ups = ups_are shards by none some have kept (is none) in
    rw (are, ups) refl

pub happenings_long : (configs : List SessionConfig) (pool : List Reflector) (lines : List Line)
    → length (happenings configs pool lines) ≡ length lines
happenings_long configs pool lines = length-map lines (happening configs pool)
