-- The calls so far, each with what it gave.
use Rattle.std.proofs.Common.{◌≡◌, ◌++◌}
use Rattle.std.specs.List.{AllZip}
use Rattle.std.specs.Fn.{FnReturns}
use Rattle.bfd_engine.proofs.beside.in_turn.Given as goal

abbrev pub invariant-loop-job : goal.invariant-loop-job
invariant-loop-job g l = record {
  can : (goal.iterator-loop-job g).can_next l.job-iterator;
  finite : (goal.iterator-loop-job g).is_finite l.job-iterator;
  all : l.yielded ++ l.job-iterator.rest.items ≡ l.fn.jobs.items;
  given : AllZip (λ job x. FnReturns g.F.Fn l.fn.f (job, tt) x) l.yielded l.given.items;
}
