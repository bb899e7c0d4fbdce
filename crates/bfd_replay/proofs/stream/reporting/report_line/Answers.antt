-- A tick of several shards, or any other line.
use Rattle.bfd_replay.proofs.StreamCommon.{happening, subst}
use Rattle.bfd_replay.specs.Turning.{IsOfOne}
use Rattle.bfd_replay.proofs.stream.reporting.report_line.Goals as goal

pub report_one-requires-clause-one : goal.report_one-requires-clause-one
report_one-requires-clause-one g c = subst (λ n. IsOfOne n (happening c.args.engine.now.configs c.args.engine.now.pool c.args.line))
    c.shards.ensures.value (c.in-None.ensures.none _ _)

pub returns-in-Some-clause-reported : goal.returns-in-Some-clause-reported
returns-in-Some-clause-reported g c = rw c.in-Some.ensures.some c.report_parts.ensures.reported

pub returns-in-Some-clause-front : goal.returns-in-Some-clause-front
returns-in-Some-clause-front g c = rw c.in-Some.ensures.some c.report_parts.ensures.front

pub returns-in-Some-clause-went : goal.returns-in-Some-clause-went
returns-in-Some-clause-went g c = rw c.in-Some.ensures.some c.report_parts.ensures.went

pub returns-in-None-clause-reported : goal.returns-in-None-clause-reported
returns-in-None-clause-reported g c = c.report_one.ensures.reported

pub returns-in-None-clause-front : goal.returns-in-None-clause-front
returns-in-None-clause-front g c = c.report_one.ensures.front
