-- Of a script that is served the bytes decide no answer.
use Rattle.std.proofs.Common.{refl}
use Rattle.bfdd.specs.Serving.{job_by}
use Rattle.bfdd.proofs.ServedText.{unwanted}
use Rattle.bfdd.proofs.job.serving.serve_answer.Goals as goal

pub returns-in-Ok-serve_by-clause-answer : goal.returns-in-Ok-serve_by-clause-answer
returns-in-Ok-serve_by-clause-answer g c = unwanted (job_by c.args.numbers) _ c.in-Ok-serve_by.answer refl c.in-Ok.ensures.read
