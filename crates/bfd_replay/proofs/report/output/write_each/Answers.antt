-- The sink accepted the texts before this one, and a prefix of it.
use Rattle.bfd_replay.proofs.Written.{each_front}
use Rattle.bfd_replay.proofs.report.output.write_each.Goals as goal

pub returns-in_err-write_all-clause-front : goal.returns-in_err-write_all-clause-front
returns-in_err-write_all-clause-front g c =
    each_front _ (g.K.Sink.taken c.loop-at.sink) _ (λ t. t.items) c.args.texts.now c.loop-at.at c.index-texts-at.result c.loop-at-test.true
    c.index-texts-at.is c.as_slice.ensures.value c.loop-at.invariant.took c.write_all.ensures.front
