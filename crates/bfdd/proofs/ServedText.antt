-- What `serve` has to report: a text that goes with every finish, and none that its bytes decide.
use Rattle.std.proofs.Common.{◌≡◌, ℕ, Bool, true, false, if◌then◌else◌, List, length, Option, Some, None, Result, Ok, Err, sym, subst}
use Rattle.std.proofs.lemmas.Bool.{le-ltb}
use Rattle.std.proofs.lemmas.List.{append-nil}
use Rattle.std.specs.Prelude.{IfSome}
use Rattle.std.specs.Io.KnownBytes.{Consumes, IsAtEnd}
use Rattle.bfd_script.specs.declared.fields.fault.BadLine.{BadLine as FaultyLine}
use Rattle.bfd_script.specs.Reading.{Lists, script_of}
use Rattle.bfd_serve.specs.declared.run.finish.Finish.{Finish}
use Rattle.bfd_serve.specs.declared.run.finish.Finish.TheVariants as finish
use Rattle.bfdd.specs.declared.words.job.Job.{Job}
use Rattle.bfdd.specs.declared.words.job.Job.TheVariants.{Serve}
use Rattle.bfdd.specs.declared.job.status.Status.TheVariants.{TooLarge}
use Rattle.bfdd.specs.Answers.{HasText}
use Rattle.bfdd.specs.Serving.{status_of}
use Rattle.bfdd.specs.Sources.{IsRead}
use Rattle.bfdd.specs.Text.{Wanted, bare, most_bytes, unserved, wanted_of}
use Rattle.bfdd.specs.Words.{serves}

-- the served text goes with every finish
pub goes_with : (end : Finish) (text : List ℕ) → HasText (status_of end) text
goes_with finish.Done text = tt
goes_with end text = tt

-- the bytes that are observed of a source are those that were read to its end
pub read_whole : (bytes : List ℕ) (right : Option (List ℕ)) (more : List ℕ) → Consumes (Some bytes) right more → IsAtEnd right
    → bytes ≡ more
read_whole bytes None more read end = absurd read
read_whole bytes (Some rest) more read end = cc (append-nil more)

-- the bytes of a script that is served decide no answer
unwanted_by : (long : Bool) (read : Result Lists FaultyLine) {script : Lists} (answer : Wanted) → long ≡ false → read ≡ Ok script
    → IfSome (if long then Some (bare TooLarge) else unserved read) (λ w. answer ≡ w)
unwanted_by false (Ok other) answer short is = tt
unwanted_by false (Err bad) answer short is = cc
unwanted_by true read answer short is = cc

pub unwanted : (job : Job) (left : Option (List ℕ)) {right : Option (List ℕ)} {script : Lists} (answer : Wanted) → serves job ≡ true
    → IsRead true left right script
    → IfSome (wanted_of job left) (λ w. answer ≡ w)
unwanted (Serve hands turns ticks journal) None answer serving live = tt
unwanted (Serve hands turns ticks journal) (Some bytes) {right} {script} answer serving live =
    let same = read_whole bytes right live.bytes live.read live.end in
    unwanted_by _ _ answer (le-ltb most_bytes (length bytes) (rw same live.few))
    (subst (λ l. script_of true l ≡ Ok script) (sym same) live.spelled)
unwanted job left answer serving live = cc
