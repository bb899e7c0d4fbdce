-- What opening a handle returns.
use Rattle.std.specs.Prelude.{ℕ, ◌≡◌, ◌≢◌, ◌==◌, List, [], ◌∷◌, Option, Result, Ok, Err, if◌then◌else◌}
use Rattle.bfd_session.specs.declared.event.SessionConfig.{SessionConfig}
use Rattle.bfd_script.specs.declared.fields.fault.BadLine.{BadLine}
use Rattle.bfd_script.specs.Reading.{Lists}
use Rattle.bfd_c.specs.declared.opening.Complaint.{Complaint}
use Rattle.bfd_c.specs.declared.opening.Unopened.{Unopened}
use Rattle.bfd_c.specs.declared.opening.Unopened.TheVariants.{Memory, Bad, Events}
use Rattle.bfd_c.specs.declared.fields.Fields.{Fields}
use Rattle.bfd_c.specs.Engines.{Instance, new_instance, opened_by, opened_for}
use Rattle.bfd_c.specs.Fields.{config_of}
use Rattle.bfd_c.specs.Sizes.{complaint_size, session_size, sized}
use Rattle.bfd_c.specs.Structs.{complaint_of}

-- a table of one session
abbrev pub one : SessionConfig → List SessionConfig
one config = config ∷ []

-- what the struct of a complaint holds after a call that answered this code: with code 5 the complaint, if the text has one
abbrev pub complaint_by : Result Lists BadLine → Complaint → Complaint
complaint_by (Err bad) before = complaint_of bad
complaint_by (Ok s) before = before

abbrev pub complained : ℕ → Result Lists BadLine → Complaint → Complaint
complained code text before = if code == 5 then complaint_by text before else before

-- a text that is a table alone gives its engine
abbrev pub IsOpenedWith : Result Lists BadLine → Instance → Type 0
IsOpenedWith (Err bad) e = ⊥
IsOpenedWith (Ok s) e = (s.events ≡ []) × (e ≡ new_instance s.configs s.pool)

-- why any other text gives none: its complaint, or its event lines; or memory ran out
abbrev pub IsWhy : Result Lists BadLine → Unopened → Type 0
IsWhy text Memory = Unit {0}
IsWhy (Err bad) (Bad b) = b ≡ bad
IsWhy (Ok s) (Bad b) = ⊥
IsWhy (Err bad) Events = ⊥
IsWhy (Ok s) Events = s.events ≢ []

-- what a handle holds after it was opened with a text, with this struct for its complaint; and the code
abbrev pub opened_reporting : Complaint → Result Lists BadLine → Option Instance → Option Instance × ℕ
opened_reporting before text held = sized (before.size == complaint_size) (λ code. (held, code)) (opened_by text held)

-- after it was opened with the session of these fields
abbrev pub opened_with_fields : Fields → Option Instance → Option Instance × ℕ
opened_with_fields f held = sized (f.size == session_size) (λ code. (held, code)) (opened_for (config_of f) held)
