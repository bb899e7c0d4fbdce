-- What a run does with the text of its source.
use Rattle.std.specs.Prelude.{true, false, ℕ, List, [], ◌∷◌, ◌++◌, length, nat_lt, codes, Option, Some, None, Result, Ok, Err}
use Rattle.std.specs.Prelude.{if◌then◌else◌}
use Rattle.std.specs.Fmt.{decimal}
use Rattle.bfd_script.specs.declared.fields.fault.BadLine.{BadLine as FaultyLine}
use Rattle.bfd_script.specs.Complaints.{complaint}
use Rattle.bfd_script.specs.Reading.{Lists, script_of}
use Rattle.bfd_script.specs.Spelling.{line}
use Rattle.bfd_instance.specs.World.{Totals, replayed, totals}
use Rattle.bfd_load.specs.Load.{script}
use Rattle.bfd_pair.specs.Schedule.{schedule}
use Rattle.bfd_pair.specs.Line.{pair_line}
use Rattle.bfdd.specs.Members.{first_unknown, watched_of}
use Rattle.bfdd.specs.declared.words.job.Job.{Job}
use Rattle.bfdd.specs.declared.words.job.Job.TheVariants.{Replay, Serve, Load, Pair, Watch}
use Rattle.bfdd.specs.declared.job.status.Status.{Status}
use Rattle.bfdd.specs.declared.job.status.Status.TheVariants.{Done, BadLine, TooLarge, NoMember}
use Rattle.bfdd.specs.Words.{reads}

-- the most bytes that a text may have
abbrev pub most_bytes : ℕ
most_bytes = 67108864

-- the required result of a run: its status, and what is written
pub record Wanted : Type 0 where
  pub status : Status
  pub text : List ℕ

abbrev pub ends : Status → List ℕ → Wanted
ends status text = record { status = status; text = text }

-- a text, and no fault
abbrev pub done_with : List ℕ → Wanted
done_with text = ends Done text

-- nothing is written
abbrev pub bare : Status → Wanted
bare status = ends status []

-- `bad LINE FAULT`, and LF
abbrev pub complaint_line : FaultyLine → List ℕ
complaint_line bad = complaint bad ++ 10 ∷ []

-- a text that is no script has its first faulty line reported
abbrev pub over : (Lists → Wanted) → Result Lists FaultyLine → Wanted
over f (Ok script) = f script
over f (Err bad) = ends (BadLine bad.line bad.fault) (complaint_line bad)

-- the result of a watch, by the first member that names no session
abbrev pub watched_unless : Option ℕ → List ℕ → Wanted
watched_unless (Some discr) text = bare (NoMember discr)
watched_unless None text = done_with text

abbrev pub watch_wanted : ℕ → List ℕ → Lists → Wanted
watch_wanted need members script = watched_unless (first_unknown members script.configs) (watched_of need members script)

-- `load SESSIONS EVENTS TXS DROPS UP`
abbrev pub load_line : ℕ → Totals → List ℕ
load_line sessions t =
    line (codes "load" ∷ decimal sessions ∷ decimal t.events ∷ decimal t.txs ∷ decimal t.drops ∷ decimal t.ups ∷ [])

-- for a script with packets and ticks from outside, the bytes alone decide nothing; a text that is no script has its first faulty line
-- reported
abbrev pub unserved : Result Lists FaultyLine → Option Wanted
unserved (Ok script) = None
unserved (Err bad) = Some (ends (BadLine bad.line bad.fault) (complaint_line bad))

-- the required result of a job, if the source has these bytes and they decide it; a job that doesn't read them ignores them
abbrev pub answer_to : Job → List ℕ → Option Wanted
answer_to (Replay hands) bytes = Some (over (λ script. done_with (replayed script)) (script_of false bytes))
answer_to (Watch need members shards) bytes = Some (over (watch_wanted need members) (script_of false bytes))
answer_to (Load sessions ticks seed hands) bytes = Some (done_with (load_line sessions (totals (script sessions ticks seed))))
answer_to (Pair events seed) bytes = Some (done_with (pair_line seed (schedule seed events)))
answer_to (Serve hands turns ticks journal) bytes = unserved (script_of true bytes)

-- the same, except that a text may be too large
abbrev pub answer_within : Job → List ℕ → Option Wanted
answer_within job bytes = if nat_lt most_bytes (length bytes) then Some (bare TooLarge) else answer_to job bytes

abbrev pub of_bytes : Job → Option (List ℕ) → Option Wanted
of_bytes job (Some bytes) = answer_within job bytes
of_bytes job None = None

-- the required result of a job, if the bytes of the source are observed or aren't read
abbrev pub wanted_of : Job → Option (List ℕ) → Option Wanted
wanted_of job left = if reads job then of_bytes job left else answer_to job []

abbrev pub wanted : Option Job → Option (List ℕ) → Option Wanted
wanted (Some job) left = wanted_of job left
wanted None left = None
