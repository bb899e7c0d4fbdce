-- What a job has to report that reads a script.
use Rattle.std.proofs.Common.{◌≡◌, ◌⊎◌, ◌≤◌, ℕ, true, false, if◌then◌else◌, List, [], length, Option, Some, None, Result, Ok, Err, inl, inr, refl}
use Rattle.std.proofs.Common.{sym, subst, arith}
use Rattle.std.proofs.lemmas.Bool.{le-ltb}
use Rattle.std.specs.Prelude.{IfSome, nat_lt}
use Rattle.std.specs.Io.KnownBytes.{Consumes, IsAtEnd}
use Rattle.bfd_script.specs.Reading.{Lists, script_of}
use Rattle.bfdd.specs.declared.words.job.Job.{Job}
use Rattle.bfdd.specs.declared.words.job.Job.TheVariants.{Replay, Serve, Load, Pair, Watch}
use Rattle.bfdd.specs.Answers.{IsAnswer}
use Rattle.bfdd.specs.Reports.{ReportsBytes}
use Rattle.bfdd.specs.Sources.{IsFaulty, IsOverlong, IsRead}
use Rattle.bfdd.specs.Text.{Wanted, answer_to, answer_within, most_bytes, wanted_of}
use Rattle.bfdd.specs.Words.{reads, serves}
use Rattle.bfdd.proofs.Answering.{is_answer}
use Rattle.bfdd.proofs.ServedText.{read_whole}

-- what a job writes of a script that was read
abbrev pub Answers : Job → Lists → Wanted → Type 0
Answers job script w = (bytes : List ℕ) → script_of false bytes ≡ Ok script → answer_to job bytes ≡ Some w

-- bytes that are few enough decide by what they spell
within : (job : Job) (bytes : List ℕ) {w : Wanted} → length bytes ≤ most_bytes → answer_to job bytes ≡ Some w
    → answer_within job bytes ≡ Some w
within job bytes few is =
    let short : nat_lt most_bytes (length bytes) ≡ false = le-ltb most_bytes (length bytes) few in
    rw short is

wanted_by : (job : Job) (left : Option (List ℕ)) (w : Wanted) → reads job ≡ true
    → ((bytes : List ℕ) → left ≡ Some bytes → answer_within job bytes ≡ Some w)
    → IfSome (wanted_of job left) (λ v. w ≡ v)
wanted_by job None w reading is = rw reading tt
wanted_by job (Some bytes) w reading is = rw (reading, is bytes refl) refl

-- what a faulty text has reported
faulty_spelled : (job : Job) {left right : Option (List ℕ)} {w : Wanted} → reads job ≡ true → serves job ≡ false
    → (faulty : IsFaulty false left right w) → answer_to job faulty.bytes ≡ Some w
faulty_spelled (Replay hands) reading closed faulty = rw (faulty.spelled, faulty.complained) refl
faulty_spelled (Watch need members shards) reading closed faulty = rw (faulty.spelled, faulty.complained) refl
faulty_spelled job reading closed faulty = cc

pub read_wanted : (job : Job) (left right : Option (List ℕ)) (script : Lists) (w : Wanted) → reads job ≡ true
    → IsRead false left right script → Answers job script w → IfSome (wanted_of job left) (λ v. w ≡ v)
read_wanted job left right script w reading read is = wanted_by job left w reading (λ bytes known.
    let same : bytes ≡ read.bytes = read_whole bytes right read.bytes (subst (λ l. Consumes l right read.bytes) known read.read) read.end in
    rw same (within job read.bytes read.few (is read.bytes read.spelled)))

pub read_reports : (job : Job) (left right : Option (List ℕ)) (script : Lists) (w : Wanted) → IsRead false left right script
    → Answers job script w → ReportsBytes job left right w
read_reports job left right script w read is = inl record {
  bytes = read.bytes;
  read = λ _. read.read;
  end = λ _. read.end;
  few = read.few;
  spelled = is read.bytes read.spelled;
}

pub read_answer : (job : Job) (left right : Option (List ℕ)) (script : Lists) (w : Wanted) → IsRead false left right script
    → Answers job script w → IsAnswer w
read_answer job left right script w read is = is_answer job read.bytes w (is read.bytes read.spelled)

pub none_reports : (job : Job) (left right : Option (List ℕ)) (w : Wanted) → reads job ≡ true → serves job ≡ false
    → IsFaulty false left right w ⊎ IsOverlong left right w → ReportsBytes job left right w
none_reports job left right w reading closed (inl faulty) = inl record {
  bytes = faulty.bytes;
  read = λ _. faulty.read;
  end = λ _. faulty.end;
  few = faulty.few;
  spelled = faulty_spelled job reading closed faulty;
}
none_reports job left right w reading closed (inr long) = inr (reading, long)

-- a job that reads nothing
pub alone_reports : (job : Job) (left right : Option (List ℕ)) (w : Wanted) → reads job ≡ false → answer_to job [] ≡ Some w
    → ReportsBytes job left right w
alone_reports job left right w closed is = inl record {
  bytes = [];
  read = λ reading. cc;
  end = λ reading. cc;
  few = omega arith;
  spelled = is;
}
