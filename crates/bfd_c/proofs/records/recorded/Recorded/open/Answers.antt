-- Each record is of its session's kind.
use Rattle.bfd_c.proofs.Keeping.{fresh_kinds}
use Rattle.bfd_c.proofs.records.recorded.Recorded.open.Goals as goal

pub invariant_of-result : goal.invariant_of-result
invariant_of-result g c = rw (c.in_ok-records.ensures, c.deref.ensures.value, c.in_ok-instance.ensures) (fresh_kinds c.args.configs.items)
