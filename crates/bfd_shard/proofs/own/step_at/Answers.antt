-- The session at the place accepts the event.
use Rattle.bfd_shard.proofs.Common.{sym, ap, Running}
use Rattle.bfd_shard.proofs.own.step_at.Goals as goal

pub step-answer-requires-clause-takes : goal.step-answer-requires-clause-takes
step-answer-requires-clause-takes g c =
    rw (← ap (λ (s : Running). s.config) (sym c.index_mut-seat.ensures.value)) (c.requires.takes c.index_mut-seat.result.now)
