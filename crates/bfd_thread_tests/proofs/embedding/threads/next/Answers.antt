-- One more call, and what was seen of it.
use Rattle.std.proofs.Common.{rules, ◌≡◌, ◌++◌, ◌∷◌, [], refl, subst}
use Rattle.bfd_engine.specs.Calls.{IsDone}
use Rattle.bfd_thread_tests.specs.declared.embedding.threads.Saw.{Saw}
use Rattle.bfd_thread_tests.specs.Calling.{act_of}
use Rattle.bfd_thread_tests.proofs.Worked.{worked_one}
use Rattle.bfd_thread_tests.proofs.embedding.threads.next.Goals as goal

pub returns-clause-worked : goal.returns-clause-worked
returns-clause-worked g c =
    let e = c.args.engine.now in
    let saw : Saw = record { answer = c.make-answer.result; outs = c.make-answer.new.outs } in
    let calls : c.args.job.now.calls.items ≡ c.pop.new.self.items ++ c.in-Some.call ∷ [] = search rules in
    worked_one e
    (record {
      pass = c.make-answer.new.pass;
      calls = c.pop.new.self;
      saw = c.push_reserved.new.self;
      room = c.args.job.now.room;
      ended = c.args.job.now.ended;
    })
    c.in-Some.call saw c.requires.ready c.make-answer.ensures.of c.make-answer.ensures.there refl calls (cc (c.in_ok-reserve.ensures.items))
    (subst (λ o. IsDone (act_of e c.in-Some.call) e c.args.job.now.pass c.make-answer.new.pass o.items c.make-answer.new.outs.items
    c.make-answer.result) c.in_ok-outs.ensures c.make-answer.ensures.call)
