-- One more line is reported.
use Rattle.bfd_replay.proofs.StreamCommon.{◌∙◌, arith, refl}
use Rattle.std.proofs.Common.{rules}
use Rattle.std.proofs.lemmas.List.{reverse-reverse}
use Rattle.bfd_replay.proofs.Going.{kept_less, kept_same, kept_then}
use Rattle.bfd_replay.proofs.Events.{reporting_all, reporting_brought, reporting_end, reporting_front, reporting_next, reporting_none}
use Rattle.bfd_replay.proofs.Events.{reporting_stopped}
use Rattle.bfd_replay.proofs.stream.reporting.report_lines.Goals as goal

pub lines-init : goal.lines-init
lines-init g c = record {
  of = c.requires.new.of;
  there = c.requires.new.there;
  kept = kept_same c.args.reported.now.events c.args.pass.now;
  room = c.requires.room;
  pending = reporting_none c.args.events.items (g.K.Sink.taken c.args.sink.now) c.args.reported.now
      (cc (reverse-reverse c.args.events.items))
      c.requires.new;
  numbers = search rules;
  calm = refl;
}

pub lines-preserved : goal.lines-preserved
lines-preserved g c =
    let i = c.lines.invariant in
    let split = c.in-Some.ensures.first in
    record {
      of = c.report_line.ensures.of;
      there = c.report_line.ensures.there;
      kept = kept_less (omega (arith, c.in-Ok.ensures.events)) (kept_then i.kept c.report_line.ensures.kept);
      room = λ shard. omega (arith, i.room shard, c.report_line.ensures.room);
      pending = reporting_next split i.pending c.in-Ok.ensures.went c.in-Ok.ensures.reported;
      numbers = omega (arith, c.in-Some.ensures.fewer, i.numbers, c.in-Ok.ensures.events);
      calm = c.in-Ok.ensures.calm ∙ i.calm;
    }

pub returns-in-Err-clause-kept : goal.returns-in-Err-clause-kept
returns-in-Err-clause-kept g c =
    let split = c.in-Some.ensures.first in
    kept_less (omega (arith, c.in-Some.ensures.fewer, c.lines.invariant.numbers))
    (kept_then c.lines.invariant.kept c.report_line.ensures.kept)

pub returns-in-Err-clause-front : goal.returns-in-Err-clause-front
returns-in-Err-clause-front g c =
    let split = c.in-Some.ensures.first in
    reporting_front split c.lines.invariant.pending c.report_line.new.pass (g.K.Sink.taken c.report_line.new.sink)
    c.report_line.ensures.kept
    c.report_line.ensures.front

pub returns-in-Err-clause-stopped : goal.returns-in-Err-clause-stopped
returns-in-Err-clause-stopped g c =
    let split = c.in-Some.ensures.first in
    reporting_stopped split c.lines.invariant.pending c.report_line.new.pass c.in-Err.stop c.requires.limit c.in-Err.ensures.stopped

pub returns-clause-kept : goal.returns-clause-kept
returns-clause-kept g c = kept_less (omega (arith, c.lines.invariant.numbers)) c.lines.invariant.kept

pub returns-clause-brought : goal.returns-clause-brought
returns-clause-brought g c =
    reporting_brought (search rules) c.lines.invariant.pending

pub returns-clause-reported : goal.returns-clause-reported
returns-clause-reported g c =
    reporting_all (search rules) c.lines.invariant.pending

pub returns-clause-front : goal.returns-clause-front
returns-clause-front g c =
    reporting_end (search rules) c.lines.invariant.pending
