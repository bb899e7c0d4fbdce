-- The other parts stay.
use Rattle.bfd_replay.proofs.WorkerCommon.{refl}
use Rattle.bfd_replay.proofs.Ordering.{take_wide, take_others}
use Rattle.bfd_replay.proofs.worker.finish.take_part.Goals as goal

pub returns-clause-wide : goal.returns-clause-wide
returns-clause-wide c = take_wide (λ parts. parts.items) c.args.all.now.items c.args.at c.args.shard c.index_mut-parts.result.now _
    c.replace.new.dest c.requires.at c.index_mut-parts.ensures.value refl

pub returns-clause-others : goal.returns-clause-others
returns-clause-others c = take_others (λ parts. parts.items) c.args.all.now.items c.args.at c.args.shard c.index_mut-parts.result.now _ _
    c.requires.at c.index_mut-parts.ensures.value refl
