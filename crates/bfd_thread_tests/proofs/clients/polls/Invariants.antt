-- After each poll the client has received what was seen.
use Rattle.bfd_engine.specs.Engines.{IsOf, AllThere}
use Rattle.bfd_engine.specs.Calls.{seen_at}
use Rattle.bfd_thread_tests.specs.Calling.{HasGrown}
use Rattle.bfd_thread_tests.specs.Following.{IsClientReported}
use Rattle.bfd_thread_tests.proofs.clients.polls.Given as goal

abbrev pub invariant-loop-count : goal.invariant-loop-count
invariant-loop-count g l = record {
  of : IsOf l.engine l.pass.1;
  there : AllThere l.pass.1;
  grown : HasGrown l.initial.pass l.pass;
  reported : IsClientReported (seen_at l.pass 0) l.client.watch l.client.reported.items;
}
