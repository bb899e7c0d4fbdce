-- The other queues stay.
use Rattle.bfd_replay.proofs.WorkerCommon.{[], get_or-set_other}
use Rattle.bfd_replay.proofs.worker.jobs.take_own.Goals as goal

pub returns-then-own-clause-others : goal.returns-then-own-clause-others
returns-then-own-clause-others c = λ r other. get_or-set_other c.args.queues.now.items _ r c.replace.new.dest [] other
