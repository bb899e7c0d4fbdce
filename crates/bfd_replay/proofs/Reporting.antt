-- The report of a script by one caller, once its engine is closed.
use Rattle.bfd_replay.proofs.WorkerCommon.{map, started, ◌≡◌, ◌≤◌, ◌∙◌, ℕ, List, ap, subst, refl, arith, slice_get_within, Result, Ok, Err}
use Rattle.bfd_replay.proofs.WorkerCommon.{Shard, Shards, Knows, AreClosed, IsNewPass, Full, Memory, Spent, Happening, happenings, Lists}
use Rattle.bfd_replay.proofs.WorkerCommon.{report, replayed, world_is}
use Rattle.bfd_edge.specs.declared.fault.Fault.{Fault}
use Rattle.bfd_edge.specs.declared.fault.Fault.TheVariants as sink
use Rattle.bfd_edge.specs.Faults.{HasCause, Rose}
use Rattle.bfd_replay.specs.declared.stream.pending.Stop.{Stop}
use Rattle.bfd_replay.specs.declared.stream.pending.Stop.TheVariants.{Refused, Unwritten}
use Rattle.bfd_replay.specs.Happenings.{happening_outcomes}
use Rattle.bfd_replay.specs.Replayed.{HaveReplayed, taker_of}
use Rattle.bfd_replay.specs.PendingLines.{HasBrought, HasStopCause, IsClosedAfter, IsMeant, IsStop, reason_of, outcomes_on}
use Rattle.bfd_replay.specs.Turning.{HasKept, IsOpenedFor}
use Rattle.bfd_replay.proofs.OneCaller.{all_sole, never_stopped}

-- no shard refused the only caller an event but when out of memory
pub meant : {engine : Shards} {times : ℕ} {k l : Knows} {shards : List Shard} (stop : Stop) → IsNewPass engine k → HasKept times k l
    → times ≤ 400002 → AreClosed engine l shards
    → IsStop engine l stop → IsMeant stop
meant (Unwritten fault) new kept few closed stop = tt
meant (Refused Memory) new kept few closed stop = tt
meant (Refused (Full at n)) new kept few closed stop = (let e = never_stopped (Full at n) new kept few closed stop in absurd (cc))
meant (Refused (Spent at word)) new kept few closed stop = (let e = never_stopped (Spent at word) new kept few closed stop in absurd (cc))

pub stop_cause : {T : Type 0} (before now : ℕ) (stop : Stop) → HasStopCause before now stop → IsMeant stop
    → (let r : Result T Fault = Err (reason_of stop) in HasCause before now r)
stop_cause {T} before now (Unwritten sink.Failed) h m = record { later = h.later; failed = λ e. h.failed refl; wanted = λ e. absurd (cc) }
stop_cause {T} before now (Unwritten sink.Memory) h m = record { later = h.later; failed = λ e. absurd (cc); wanted = λ e. h.wanted refl }
stop_cause before now (Refused Memory) h m = record { later = omega (arith, h); failed = λ e. absurd (cc); wanted = λ e. h }
stop_cause before now (Refused (Full at n)) h m = absurd m
stop_cause before now (Refused (Spent at word)) h m = absurd m

pub calm_cause : {T : Type 0} (done : T) (before now : ℕ) → now ≡ before → (let r : Result T Fault = Ok done in HasCause before now r)
calm_cause done before now calm = record { later = omega (arith, calm); failed = λ e. absurd (cc); wanted = λ e. absurd (cc) }

pub cause_as : {S T : Type 0} (fault : Fault) (before mid now : ℕ) → mid ≡ before
    → (let r : Result S Fault = Err fault in HasCause mid now r) → (let r : Result T Fault = Err fault in HasCause before now r)
cause_as sink.Failed before mid now same h = record {
  later = omega (arith, h.later, same);
  failed = λ e. subst (λ n. Rose n now) same (h.failed refl);
  wanted = λ e. absurd (cc);
}
cause_as sink.Memory before mid now same h = record {
  later = omega (arith, h.later, same);
  failed = λ e. absurd (cc);
  wanted = λ e. h.wanted refl ∙ same;
}

pub closed_after : {engine : Shards} {times : ℕ} {k l : Knows} {states : List Shard} (hs : List Happening) → IsNewPass engine k
    → HasKept times k l → AreClosed engine l states
    → HasBrought engine hs l → IsClosedAfter engine hs states
closed_after {engine} {states = states} hs new kept closed brought = record {
  long = closed.long;
  each = λ number state e.
      (let c = closed.each number state e in (
        c.configs,
        c.journal ∙ brought (all_sole new kept closed) number
            (omega (arith, slice_get_within states number state e, closed.long)),
      ));
}

module _ (script : Lists) {engine : Shards} {shards limit : ℕ} {whole : Lists}
    (o : IsOpenedFor engine script.configs script.pool shards limit) (same : script ≡ whole) where
  happenings_are : happenings engine.configs engine.pool script.events ≡ happenings script.configs script.pool script.events
  happenings_are = ap (λ cs. happenings cs engine.pool script.events) o.configs_are
      ∙ ap (λ p. happenings script.configs p script.events) o.pool_is

  pub outcomes_were : outcomes_on engine (happenings engine.configs engine.pool script.events)
      ≡ happening_outcomes 0 (happenings script.configs script.pool script.events) (map started script.configs)
  outcomes_were = cc (happenings_are, o.configs_are)

  pub report_on : report (outcomes_on engine (happenings engine.configs engine.pool script.events)) ≡ replayed whole
  report_on = cc (happenings_are, o.configs_are, world_is script, same)

  pub replayed_on : {states : List Shard} → IsClosedAfter engine (happenings engine.configs engine.pool script.events) states
      → HaveReplayed whole shards (taker_of 1) states
  replayed_on {states} c = record {
    long = c.long ∙ o.shards_are;
    each = λ number state e. let h = c.each number state e in record {
      configs = cc (h.0, o.shards_are, o.configs_are, same);
      journal = cc (h.1, o.shards_are, happenings_are, same);
    };
  }
