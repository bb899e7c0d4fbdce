-- The pass is the same, after turns of its own.
use Rattle.bfd_thread_tests.specs.Turns.{IsAfterTurns}
use Rattle.bfd_thread_tests.proofs.turn.add_all.Given as goal

abbrev pub invariant-loop-number : goal.invariant-loop-number
invariant-loop-number g l = IsAfterTurns l.initial.pass l.pass
