-- One more piece is taken, and at the end all are.
use Rattle.bfd_replay.proofs.ReportCommon.{arith, map-set, first_key, head_key}
use Rattle.bfd_replay.proofs.Taking.{go, gone}
use Rattle.bfd_replay.proofs.report.gathering.gather.Goals as goal

pub loop-s-preserved : goal.loop-s-preserved
loop-s-preserved c = record {
  goes = λ dealt h. go c.in_ok-sent.sent c.in_ok-sent.dropped c.loop-s.invariant.heads c.in-Some.ensures.some c.index_mut-rest.ensures.value
      (cc (c.in_ok-sent.ensures.rest))
      (cc (c.in_ok-sent.ensures.text)) (cc (c.in_ok-sent.ensures.txs)) (cc (c.in_ok-sent.ensures.drops)) (c.loop-s.invariant.goes dealt h);
  heads = cc (
    map-set first_key c.loop-s.rests.items c.in-Some.s c.take.new.self,
    map-set head_key c.loop-s.heads c.in-Some.s c.first.result,
    c.loop-s.invariant.heads,
  );
  few = omega (arith, c.loop-s.invariant.few, c.in_ok-sent.ensures.few);
}

pub returns-clause-reported : goal.returns-clause-reported
returns-clause-reported c = λ dealt h. (gone _ c.loop-s.invariant.heads c.in_default.ensures.none (c.loop-s.invariant.goes dealt h)).0

pub returns-clause-txs : goal.returns-clause-txs
returns-clause-txs c = λ dealt h. (gone _ c.loop-s.invariant.heads c.in_default.ensures.none (c.loop-s.invariant.goes dealt h)).1

pub returns-clause-drops : goal.returns-clause-drops
returns-clause-drops c = λ dealt h. (gone _ c.loop-s.invariant.heads c.in_default.ensures.none (c.loop-s.invariant.goes dealt h)).2
