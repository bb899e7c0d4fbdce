use Rattle.bfd_edge.proofs.Placing.{grown}
use Rattle.bfd_edge.proofs.places.reach.Goals as goal

pub growing-preserved : goal.growing-preserved
growing-preserved g c = cc (c.in_ok-push.ensures.items, grown c.growing.places.items)

pub returns-in_err-push-clause-same : goal.returns-in_err-push-clause-same
returns-in_err-push-clause-same g c = cc (c.in_err-push.ensures.items)
