-- What the calls that read return, and what they change.
use Rattle.std.specs.Prelude.{ℕ, ◌==◌, Option, None, Some, List, [], ◌∷◌}
use Rattle.bfd_rules.specs.declared.outputs.Out.{Out}
use Rattle.bfd_c.specs.declared.structs.Output.{Output}
use Rattle.bfd_c.specs.declared.structs.Answered.{Answered}
use Rattle.bfd_c.specs.Engines.{Instance, soonest}
use Rattle.bfd_c.specs.Sizes.{answered_size, output_size, sized}
use Rattle.bfd_c.specs.Structs.{output_of, answer_for_c}

-- an engine after the first output that is left was read, and the code
abbrev pub next_by : List Out → Instance → Instance × ℕ
next_by [] e = (e, 4)
next_by (out ∷ outs) e = (record e { left = outs }, 0)

-- what the struct of an output holds afterwards, if it held this before
abbrev pub output_read : List Out → Output → Output
output_read [] before = before
output_read (out ∷ outs) before = output_of out

-- the same of an engine that is asked for the next output in a struct: the engine with the code, and what the struct holds
abbrev pub next_asked : Output → Instance → Instance × ℕ
next_asked before e = sized (before.size == output_size) (λ code. (e, code)) (next_by e.left e)

abbrev pub output_asked : Output → Instance → Output
output_asked before e = sized (before.size == output_size) (λ code. before) (output_read e.left before)

abbrev pub output_read_of : Option Instance → Output → Output
output_read_of None before = before
output_read_of (Some e) before = output_asked before e

-- what the struct of an answer holds afterwards, and the code
abbrev pub answer_read : Option Instance → Answered → Answered × ℕ
answer_read None before = (before, 1)
answer_read (Some e) before = sized (before.size == answered_size) (λ code. (before, code)) (answer_for_c e.discr e.answer, 0)

-- the due tick, and the code
abbrev pub due_read_by : Option ℕ → ℕ → ℕ × ℕ
due_read_by None before = (before, 4)
due_read_by (Some t) before = (t, 0)

abbrev pub due_read : Option Instance → ℕ → ℕ × ℕ
due_read None before = (before, 1)
due_read (Some e) before = due_read_by (soonest e.world.sessions) before
