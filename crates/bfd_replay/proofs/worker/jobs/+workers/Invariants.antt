use Rattle.bfd_replay.proofs.WorkerCommon.{◌+◌, ◌*◌, length}
use Rattle.bfd_replay.proofs.worker.jobs.+workers.Given as goal

abbrev pub decreases-work_each : goal.decreases-work_each
decreases-work_each g l = 4 * length l.jobs.now

abbrev pub decreases-work_beside : goal.decreases-work_beside
decreases-work_beside g l = 4 * length l.rest.now + 3

abbrev pub decreases-work_beside-others : goal.decreases-work_beside-others
decreases-work_beside-others g l = 4 * length l.rest.now + 1
