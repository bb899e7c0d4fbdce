-- The engine is opened for the script, and closed with no pass but caller 0's.
use Rattle.std.proofs.Common.{rules, ◌≡◌, ◌∙◌, Ok, length, map, ap, arith}
use Rattle.std.proofs.lemmas.Result.{IfErr-weaker, IfOk-at_ok, IfOk-weaker}
use Rattle.bfd_session.specs.Step.{started}
use Rattle.bfd_engine.specs.declared.fault.EngineFault.TheVariants.{Memory}
use Rattle.bfd_replay.specs.Happenings.{happening_outcomes}
use Rattle.bfd_replay.specs.Planned.{happenings}
use Rattle.bfd_watch.specs.Watched as watch
use Rattle.bfd_replay.specs.Turning.{AllSole, IsCutShort}
use Rattle.bfd_replay.proofs.OneCaller.{never_stopped, none_open}
use Rattle.bfdd.specs.Members.{group_in, watched_of}
use Rattle.bfdd.proofs.Closing.{first_watched, room_enough, in_order, taken_apart, closed_text}
use Rattle.bfdd.proofs.watched_text.change_text.watched.Goals as goal

pub write_changes-reported-requires-clause-ascends : goal.write_changes-reported-requires-clause-ascends
write_changes-reported-requires-clause-ascends g c = in_order c.in_ok-engine.ensures.engine
    (taken_apart c.script.view_is c.requires.script).configs.ascends

pub write_changes-reported-requires-clause-watched : goal.write_changes-reported-requires-clause-watched
write_changes-reported-requires-clause-watched g c = first_watched c.in_ok-engine.ensures.engine c.deref-2.ensures.value (search rules)
    c.in_ok-engine.ensures.pass c.in_ok-watches.ensures.long c.in_ok-watches.ensures.each

pub write_changes-reported-requires-clause-room : goal.write_changes-reported-requires-clause-room
write_changes-reported-requires-clause-room g c = room_enough c.in_ok-engine.ensures.engine (search rules)

pub close-states-requires-clause-first : goal.close-states-requires-clause-first
close-states-requires-clause-first g c = c.write_changes-reported.ensures.kept.number ∙ c.in_ok-engine.ensures.pass.number

pub close-states-requires-clause-joined : goal.close-states-requires-clause-joined
close-states-requires-clause-joined g c = none_open c.in_ok-engine.ensures.pass c.write_changes-reported.ensures.kept

pub text_of-requires : goal.text_of-requires
text_of-requires g c = IfErr-weaker c.write_changes-reported.result
    (λ fault. IsCutShort fault c.in_ok-engine.engine c.write_changes-reported.new.pass)
    (λ fault. fault ≡ Memory)
    (λ fault. never_stopped fault c.in_ok-engine.ensures.pass c.write_changes-reported.ensures.kept
    (omega (arith, (taken_apart c.script.view_is c.requires.script).events.few)) c.close-states.ensures.closed)
    c.write_changes-reported.ensures.stopped

pub returns : goal.returns
returns g c = IfOk-weaker c.text_of.result (λ text. c.write_changes-reported.result ≡ Ok text)
    (λ text. text.items ≡ watched_of c.args.need c.args.members.now c.args.script)
    (λ text same. closed_text c.args.members.now c.script.view_is c.in_ok-engine.ensures.engine c.in_ok-engine.ensures.pass
    c.write_changes-reported.ensures.kept c.close-states.ensures.closed
    (IfOk-at_ok (λ t. AllSole (length c.in_ok-engine.engine.locks) c.write_changes-reported.new.pass
    → t.items ≡ watch.watched (happening_outcomes 0 (happenings c.in_ok-engine.engine.configs c.in_ok-engine.engine.pool
    c.script.inside.events.items) (map started c.in_ok-engine.engine.configs)) c.in_ok-group.group) same
    c.write_changes-reported.ensures.reported)
    (c.in_ok-group.ensures ∙ ap (λ cs. group_in c.args.need c.args.members.now (map started cs)) c.deref.ensures.value)) c.text_of.ensures
