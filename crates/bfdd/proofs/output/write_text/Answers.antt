-- What the sink accepted is a prefix of the report.
use Rattle.bfdd.proofs.output.write_text.Goals as goal

pub returns-in-Ok-clause-front : goal.returns-in-Ok-clause-front
returns-in-Ok-clause-front g c = rw c.in-Report.is c.write_replay.ensures.front

pub returns-in-Err-clause-front : goal.returns-in-Err-clause-front
returns-in-Err-clause-front g c = rw c.in-Report.is c.write_replay.ensures.front
