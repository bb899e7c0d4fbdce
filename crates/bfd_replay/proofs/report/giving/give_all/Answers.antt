-- What the one part has, or all of them have, is what was dealt.
use Rattle.bfd_replay.proofs.ReportCommon.{◌++◌, IsSpread, dealt_text, subst, sym}
use Rattle.bfd_replay.proofs.Alone.{is_all, sole_drops, sole_texts, sole_txs}
use Rattle.bfd_replay.proofs.Written.{took_nothing}
use Rattle.bfd_replay.proofs.report.giving.give_all.Goals as goal

pub returns-in_default-clause-front : goal.returns-in_default-clause-front
returns-in_default-clause-front g c = λ dealt h. took_nothing (g.K.Sink.taken c.args.sink.now) (c.args.text.now.items ++ dealt_text dealt)

pub returns-in_default-rests_of-clause-front : goal.returns-in_default-rests_of-clause-front
returns-in_default-rests_of-clause-front g c = λ dealt h. took_nothing (g.K.Sink.taken c.args.sink.now)
    (c.args.text.now.items ++ dealt_text dealt)

pub returns-in_default-heads_of-clause-front : goal.returns-in_default-heads_of-clause-front
returns-in_default-heads_of-clause-front g c = λ dealt h. took_nothing (g.K.Sink.taken c.args.sink.now)
    (c.args.text.now.items ++ dealt_text dealt)

pub returns-in-Some-clause-reported : goal.returns-in-Some-clause-reported
returns-in-Some-clause-reported g c = λ dealt h. rw (← sole_texts h (is_all c.args.parts.now.items c.in-Some.is c.in-Ok.ensures)
    c.index_mut.ensures.value) c.give_sole.ensures.reported

pub returns-in-Some-clause-front : goal.returns-in-Some-clause-front
returns-in-Some-clause-front g c = λ dealt h. rw (← sole_texts h (is_all c.args.parts.now.items c.in-Some.is c.in-Ok.ensures)
    c.index_mut.ensures.value) c.give_sole.ensures.front

pub returns-in-Some-clause-txs : goal.returns-in-Some-clause-txs
returns-in-Some-clause-txs g c = λ dealt h. rw (← sole_txs h (is_all c.args.parts.now.items c.in-Some.is c.in-Ok.ensures)
    c.index_mut.ensures.value) c.give_sole.ensures.txs

pub returns-in-Some-clause-drops : goal.returns-in-Some-clause-drops
returns-in-Some-clause-drops g c = λ dealt h. rw (← sole_drops h (is_all c.args.parts.now.items c.in-Some.is c.in-Ok.ensures)
    c.index_mut.ensures.value) c.give_sole.ensures.drops

pub returns-clause-reported : goal.returns-clause-reported
returns-clause-reported g c = λ dealt h. c.give.ensures.reported dealt (subst (IsSpread dealt) (sym c.in-Ok-rests_of.ensures) h)

pub returns-clause-front : goal.returns-clause-front
returns-clause-front g c = λ dealt h. c.give.ensures.front dealt (subst (IsSpread dealt) (sym c.in-Ok-rests_of.ensures) h)

pub returns-clause-txs : goal.returns-clause-txs
returns-clause-txs g c = λ dealt h. c.give.ensures.txs dealt (subst (IsSpread dealt) (sym c.in-Ok-rests_of.ensures) h)

pub returns-clause-drops : goal.returns-clause-drops
returns-clause-drops g c = λ dealt h. c.give.ensures.drops dealt (subst (IsSpread dealt) (sym c.in-Ok-rests_of.ensures) h)
