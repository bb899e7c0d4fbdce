-- What a job has to write, by the branches of `answer_to`.
use Rattle.std.proofs.Common.{◌≡◌, ℕ, List, true, false, Option, Some, None, Result, Ok, Err, refl, subst}
use Rattle.bfd_script.specs.declared.fields.fault.BadLine.{BadLine as FaultyLine}
use Rattle.bfd_script.specs.Reading.{Lists, script_of}
use Rattle.bfd_instance.specs.World.{replayed, totals}
use Rattle.bfd_load.specs.Load.{script}
use Rattle.bfd_pair.specs.Schedule.{schedule}
use Rattle.bfd_pair.specs.Line.{pair_line}
use Rattle.bfdd.specs.Members.{first_unknown, watched_of}
use Rattle.bfdd.specs.declared.words.job.Job.{Job}
use Rattle.bfdd.specs.declared.words.job.Job.TheVariants.{Replay, Serve, Load, Pair, Watch}
use Rattle.bfdd.specs.Answers.{IsAnswer}
use Rattle.bfdd.specs.declared.job.status.Status.TheVariants.{BadLine, NoMember}
use Rattle.bfdd.specs.Text.{Wanted, answer_to, bare, complaint_line, ends, load_line, over, done_with, unserved, watch_wanted}
use Rattle.bfdd.specs.Text.{watched_unless}
use Rattle.bfdd.specs.Words.{reads, watches}

of_known : (P : Wanted → Type 0) {v w : Wanted} → P v → Some v ≡ Some w → P w
of_known P {v} {w} fact is = let same : v ≡ w = cc in subst P same fact

over_is : (P : Wanted → Type 0) (f : Lists → Wanted) → ((script : Lists) → P (f script))
    → ((bad : FaultyLine) → P (ends (BadLine bad.line bad.fault) (complaint_line bad))) → (read : Result Lists FaultyLine) → P (over f read)
over_is P f each complained (Ok script) = each script
over_is P f each complained (Err bad) = complained bad

unless_is : (P : Wanted → Type 0) → ((text : List ℕ) → P (done_with text)) → ((discr : ℕ) → P (bare (NoMember discr)))
    → (stranger : Option ℕ) (text : List ℕ) → P (watched_unless stranger text)
unless_is P done strange None text = done text
unless_is P done strange (Some discr) text = strange discr

unserved_is : (P : Wanted → Type 0) → ((bad : FaultyLine) → P (ends (BadLine bad.line bad.fault) (complaint_line bad)))
    → (read : Result Lists FaultyLine) {w : Wanted} → unserved read ≡ Some w → P w
unserved_is P complained (Ok script) is = cc
unserved_is P complained (Err bad) is = of_known P (complained bad) is

-- a fact about all that a job may have to write is one about what it has to
pub each_answer : (job : Job) (P : Wanted → Type 0) → ((text : List ℕ) → P (done_with text))
    → (reads job ≡ true → (bad : FaultyLine) → P (ends (BadLine bad.line bad.fault) (complaint_line bad)))
    → (watches job ≡ true → (discr : ℕ) → P (bare (NoMember discr))) → (bytes : List ℕ) (w : Wanted) → answer_to job bytes ≡ Some w → P w
each_answer (Replay hands) P done complained strange bytes w is = of_known P
    (over_is P (λ script. done_with (replayed script)) (λ script. done (replayed script)) (complained refl) (script_of false bytes)) is
each_answer (Watch need members shards) P done complained strange bytes w is = of_known P
    (over_is P (watch_wanted need members) (λ script. unless_is P done (strange refl) (first_unknown members script.configs)
    (watched_of need members script))
    (complained refl) (script_of false bytes)) is
each_answer (Load sessions ticks seed hands) P done complained strange bytes w is =
    of_known P (done (load_line sessions (totals (script sessions ticks seed)))) is
each_answer (Pair events seed) P done complained strange bytes w is = of_known P (done (pair_line seed (schedule seed events))) is
each_answer (Serve hands turns ticks journal) P done complained strange bytes w is =
    unserved_is P (complained refl) (script_of true bytes) is

-- it is a text that goes with its status
pub is_answer : (job : Job) (bytes : List ℕ) (w : Wanted) → answer_to job bytes ≡ Some w → IsAnswer w
is_answer job bytes w is = each_answer job (λ v. IsAnswer v) (λ text. tt) (λ reading bad. refl) (λ watching discr. refl) bytes w is
