-- The sizes of the structs of C that can grow: a caller writes the one that it was compiled with into the first field.
use Rattle.std.specs.Prelude.{ℕ, Bool, if◌then◌else◌}

abbrev pub session_size : ℕ
session_size = 116

abbrev pub packet_size : ℕ
packet_size = 64

abbrev pub answered_size : ℕ
answered_size = 64

abbrev pub session_state_size : ℕ
session_state_size = 312

abbrev pub output_size : ℕ
output_size = 120

abbrev pub complaint_size : ℕ
complaint_size = 16

-- the result of a call whose structs have sizes that this version knows; if they don't, it does nothing, and the code is 11
abbrev pub sized : {X : Type 0} → Bool → (ℕ → X) → X → X
sized known refused done = if known then done else refused 11
