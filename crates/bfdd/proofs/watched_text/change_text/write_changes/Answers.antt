-- One more event is reported, and at the end the whole is.
use Rattle.std.proofs.Common.{◌≡◌, List, ◌∷◌, length, ap, sym, ◌∙◌, arith, rules}
use Rattle.std.proofs.lemmas.List.{nil_from_length}
use Rattle.bfd_watch.specs.declared.change.Change.{Change}
use Rattle.bfd_replay.proofs.Going.{kept_less, kept_same, kept_then}
use Rattle.bfdd.proofs.Steps.{few_step}
use Rattle.bfdd.proofs.Reported.{reported_first, behind_after, reported_next, refused_stopped, untaken_stopped, reported_all}
use Rattle.bfdd.proofs.watched_text.change_text.write_changes.Goals as goal

pub loop-line-init : goal.loop-line-init
loop-line-init g c = record {
  of = c.requires.new.of;
  there = c.requires.new.there;
  kept = kept_same 2 c.args.pass.now;
  watched = c.requires.watched;
  room = c.requires.room;
  reported = reported_first c.args.group c.requires.new (search rules) (search rules);
  few = search rules;
  numbers = search rules;
}

pub happen-requires-clause-number : goal.happen-requires-clause-number
happen-requires-clause-number g c = c.loop-line.invariant.kept.number ∙ c.requires.new.number

pub poll_all-requires-clause-number : goal.poll_all-requires-clause-number
poll_all-requires-clause-number g c = c.happen.ensures.kept.number ∙ (c.loop-line.invariant.kept.number ∙ c.requires.new.number)

pub poll_all-requires-clause-behind : goal.poll_all-requires-clause-behind
poll_all-requires-clause-behind g c = behind_after c.loop-line.invariant.watched c.in-Ok.ensures.went

pub returns-in-Err-clause-kept : goal.returns-in-Err-clause-kept
returns-in-Err-clause-kept g c =
    let split : c.loop-line.line-iterator.rest.items ≡ c.in-Some.line ∷ c.next.new.self.rest.items = search rules in
    kept_less (omega (arith, ap length split, c.loop-line.invariant.numbers)) (kept_then c.loop-line.invariant.kept c.happen.ensures.kept)

pub returns-in-Err-clause-stopped : goal.returns-in-Err-clause-stopped
returns-in-Err-clause-stopped g c =
    let split : c.loop-line.line-iterator.rest.items ≡ c.in-Some.line ∷ c.next.new.self.rest.items = search rules in
    refused_stopped c.happen.new.pass c.in-Err.fault c.loop-line.invariant.reported
    (omega (arith, ap length split, c.loop-line.invariant.numbers, c.requires.limit)) c.in-Err.ensures.refused

pub returns-in-Err-poll_all-clause-kept : goal.returns-in-Err-poll_all-clause-kept
returns-in-Err-poll_all-clause-kept g c =
    let split : c.loop-line.line-iterator.rest.items ≡ c.in-Some.line ∷ c.next.new.self.rest.items = search rules in
    kept_less (omega (arith, ap length split, c.loop-line.invariant.numbers))
    (kept_then (kept_then c.loop-line.invariant.kept c.happen.ensures.kept) c.poll_all.ensures.kept)

pub returns-in-Err-poll_all-clause-stopped : goal.returns-in-Err-poll_all-clause-stopped
returns-in-Err-poll_all-clause-stopped g c =
    let split : c.loop-line.line-iterator.rest.items ≡ c.in-Some.line ∷ c.next.new.self.rest.items = search rules in
    untaken_stopped c.in-Some.line c.in-Err-poll_all.fault c.loop-line.invariant.reported
    (omega (arith, ap length split, c.loop-line.invariant.numbers, c.requires.limit)) c.in-Ok.ensures.went
    c.poll_all.ensures.went c.in-Err-poll_all.ensures.untaken

pub returns-in_default-clause-kept : goal.returns-in_default-clause-kept
returns-in_default-clause-kept g c =
    let split : c.loop-line.line-iterator.rest.items ≡ c.in-Some.line ∷ c.next.new.self.rest.items = search rules in
    kept_less (omega (arith, ap length split, c.loop-line.invariant.numbers))
    (kept_then (kept_then c.loop-line.invariant.kept c.happen.ensures.kept) c.poll_all.ensures.kept)

pub loop-line-preserved : goal.loop-line-preserved
loop-line-preserved g c =
    let split : c.loop-line.line-iterator.rest.items ≡ c.in-Some.line ∷ c.next.new.self.rest.items = search rules in
    let cs : List Change = c.as_slice-list.result.now in
    let are : cs ≡ c.in-Ok-poll_all.changes.items = search rules in
    record {
      of = c.poll_all.ensures.of;
      there = c.poll_all.ensures.there;
      kept = kept_less (omega arith) (kept_then (kept_then c.loop-line.invariant.kept c.happen.ensures.kept) c.poll_all.ensures.kept);
      watched = c.in-Ok-poll_all.ensures.watched;
      room = λ shard. omega (arith, c.loop-line.invariant.room shard, c.happen.ensures.room);
      reported = reported_next c.requires.some c.requires.ascends c.loop-line.invariant.reported split c.in-Ok.ensures.went
          c.poll_all.ensures.went
          c.loop-line.invariant.watched
          (λ d. are ∙ c.in-Ok-poll_all.ensures.reported d) (search rules) c.in-Ok-report.ensures.reported
          c.in-Ok-report.ensures.after;
      few = few_step c.loop-line.text.items c.loop-line.number cs c.loop-line.group c.in-Ok-report.ensures.reported
          c.loop-line.invariant.few;
      numbers = omega (arith, ap length split, c.loop-line.invariant.numbers);
    }

pub returns-in_default-close-clause-kept : goal.returns-in_default-close-clause-kept
returns-in_default-close-clause-kept g c = kept_less (omega (arith, c.loop-line.invariant.numbers)) c.loop-line.invariant.kept

pub returns-clause-kept : goal.returns-clause-kept
returns-clause-kept g c = kept_less (omega (arith, c.loop-line.invariant.numbers)) c.loop-line.invariant.kept

pub returns-clause-reported : goal.returns-clause-reported
returns-clause-reported g c = λ s.
    reported_all (nil_from_length c.loop-line.line-iterator.rest.items
    (sym c.loop-line.line-iterator.rest.ok.0 ∙ c.in-None.ensures.steps.0))
    c.loop-line.invariant.reported c.in-Ok-close.ensures.reported s
