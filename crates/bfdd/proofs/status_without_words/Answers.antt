-- But for one kind of error the status is Usage.
use Rattle.std.proofs.Common.{◌≡◌, ◌≢◌, refl}
use Rattle.std.specs.declared.io.ErrorKind.{ErrorKind}
use Rattle.std.specs.declared.io.ErrorKind.TheVariants.{OutOfMemory}
use Rattle.bfdd.specs.declared.job.status.Status.TheVariants.{Usage}
use Rattle.bfdd.specs.Status.{status_without_words}
use Rattle.bfdd.proofs.status_without_words.Goals as goal

usage_else : (kind : ErrorKind) → kind ≢ OutOfMemory → Usage ≡ status_without_words kind
usage_else OutOfMemory other = absurd (other refl)
usage_else kind other = refl

pub returns-in_default-clause-value : goal.returns-in_default-clause-value
returns-in_default-clause-value c = usage_else c.args.kind c.in_default.not-OutOfMemory
