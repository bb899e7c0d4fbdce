use Rattle.bfd_turn.proofs.Common.{◌≡◌, ◌≤◌, having_met}
use Rattle.bfd_turn.proofs.lock.TurnLock.turn.Given as goal

-- the pass has met later words, and all else is as it was
abbrev pub invariant-loop : goal.invariant-loop
invariant-loop g l = (l.pass ≡ (l.fn.pass.0, having_met l.pass.1.word l.pass.1.looks l.fn.pass.1)) × (l.fn.pass.1.word ≤ l.pass.1.word)
