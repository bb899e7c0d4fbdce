-- One more piece is taken, and passed on or kept; at the end all are.
use Rattle.bfd_replay.proofs.ReportCommon.{◌∙◌, List, map-set, set, Dealt, IsSpread, first_key, head_key}
use Rattle.bfd_replay.proofs.PiecesGiven.{Giving, all_given, give_more, given_broken, given_front, take_more}
use Rattle.bfd_replay.proofs.report.giving.give.Given.{Over}
use Rattle.bfd_replay.proofs.report.giving.give.Goals as goal
use Rattle.bfd_replay.proofs.report.giving.give.Goals.{In-Ok}

taken : (g : Over) (c : In-Ok g) {dealt : List Dealt} → IsSpread dealt c.args.rests.now.items
    → Giving dealt (set c.loop-s.rests.items c.in-Some.s c.take_counted.new.rest) (g.K.Sink.taken c.args.sink.now)
    (g.K.Sink.taken c.loop-s.sink) c.args.text.now.items c.take_counted.new.text.items c.in-Ok.sums.0 c.in-Ok.sums.1
taken g c {dealt} h =
    take_more c.loop-s.invariant.heads c.in-Some.ensures.some c.index_mut-rest.ensures.value (cc (c.in-Ok.ensures.rest))
    (cc (c.in-Ok.ensures.text)) (cc (c.in-Ok.ensures.txs)) (cc (c.in-Ok.ensures.drops))
    (c.loop-s.invariant.goes dealt h)

pub loop-s-preserved : goal.loop-s-preserved
loop-s-preserved g c = record {
  goes = λ dealt h. give_more c.in_ok-give_on.ensures.text (taken g (goal.at.loop-s-preserved g c).In-Ok h);
  heads = cc (
    map-set first_key c.loop-s.rests.items c.in-Some.s c.take_counted.new.rest,
    map-set head_key c.loop-s.heads c.in-Some.s c.first.result,
    c.loop-s.invariant.heads,
  );
  calm = c.in_ok-give_on.ensures.calm ∙ c.loop-s.invariant.calm;
}

pub returns-in_default-take_counted-clause-front : goal.returns-in_default-take_counted-clause-front
returns-in_default-take_counted-clause-front g c = λ dealt h. given_front (c.loop-s.invariant.goes dealt h)

pub returns-in_err-give_on-clause-front : goal.returns-in_err-give_on-clause-front
returns-in_err-give_on-clause-front g c = λ dealt h. given_broken _ (taken g (goal.at.returns-in_err-give_on-clause-front g c).In-Ok h)
    c.give_on.ensures.front

pub returns-clause-reported : goal.returns-clause-reported
returns-clause-reported g c = λ dealt h. (all_given _ c.loop-s.invariant.heads c.in_default.ensures.none
    (c.loop-s.invariant.goes dealt h)).0

pub returns-clause-front : goal.returns-clause-front
returns-clause-front g c = λ dealt h. given_front (c.loop-s.invariant.goes dealt h)

pub returns-clause-txs : goal.returns-clause-txs
returns-clause-txs g c = λ dealt h. (all_given _ c.loop-s.invariant.heads c.in_default.ensures.none (c.loop-s.invariant.goes dealt h)).1

pub returns-clause-drops : goal.returns-clause-drops
returns-clause-drops g c = λ dealt h. (all_given _ c.loop-s.invariant.heads c.in_default.ensures.none (c.loop-s.invariant.goes dealt h)).2
