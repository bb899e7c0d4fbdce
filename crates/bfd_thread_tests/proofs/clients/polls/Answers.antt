-- One more poll.
use Rattle.bfd_thread_tests.proofs.Worked.{grown_then}
use Rattle.bfd_thread_tests.proofs.clients.polls.Goals as goal

pub returns-in_err-poll-clause-grown : goal.returns-in_err-poll-clause-grown
returns-in_err-poll-clause-grown g c = grown_then c.args.pass.now c.loop-count.pass c.poll.new.pass c.loop-count.invariant.grown
    c.poll.ensures.grown

pub loop-count-preserved : goal.loop-count-preserved
loop-count-preserved g c = record {
  of = c.poll.ensures.of;
  there = c.poll.ensures.there;
  grown = grown_then c.args.pass.now c.loop-count.pass c.poll.new.pass c.loop-count.invariant.grown c.poll.ensures.grown;
  reported = c.in_ok-poll.ensures.reported;
}
