-- The outside over memory: what it keeps, what it answers, and what it keeps afterwards.
use Rattle.std.specs.Prelude.{◌≡◌, ◌==◌, ℕ, Bool, true, false, List, ◌++◌, length, take, drop, min, Result, Ok, Err, if◌then◌else◌}
use Rattle.std.specs.List.{list_any}
use Rattle.bfd_edge.specs.declared.fault.Fault.{Fault}
use Rattle.bfd_edge.specs.declared.fault.Fault.TheVariants.{Failed, Memory}
use Rattle.bfd_edge.specs.Faults.{raised}

-- a source over memory
pub record Given : Type 0 where
  -- the bytes that are left
  pub left : List ℕ
  -- how many bytes it gives at most in one call
  pub chunk : ℕ
  -- the calls so far
  pub calls : ℕ
  -- the numbers of the calls that fail, counted from 0
  pub fails : List ℕ
  -- how often it failed
  pub faults : ℕ

-- a sink over memory
pub record Taken : Type 0 where
  -- the bytes that were accepted
  pub bytes : List ℕ
  -- how many bytes it accepts at most in one call
  pub chunk : ℕ
  -- the calls so far
  pub calls : ℕ
  -- the numbers of the calls that fail, counted from 0
  pub fails : List ℕ
  -- how often it failed
  pub faults : ℕ

-- the call of this number is one of those that fail
abbrev pub is_to_fail : ℕ → List ℕ → Bool
is_to_fail call fails = list_any (λ n. n == call) fails

-- how many bytes a call with this much room gives
abbrev pub given_count : Given → ℕ → ℕ
given_count s room = min (min room s.chunk) (length s.left)

-- what a read with this much room answers
abbrev pub read_answer : Given → ℕ → Result ℕ Fault
read_answer s room = if is_to_fail s.calls s.fails then Err Failed else Ok (given_count s room)

-- the source after a read with this much room
abbrev pub after_read : Given → ℕ → Given
after_read s room =
    if is_to_fail s.calls s.fails
    then record s { calls = raised s.calls; faults = raised s.faults }
    else record s { calls = raised s.calls; left = drop (given_count s room) s.left }

-- the buffer after a read
abbrev pub filled : Given → List ℕ → List ℕ
filled s buffer =
    if is_to_fail s.calls s.fails
    then buffer
    else take (given_count s (length buffer)) s.left ++ drop (given_count s (length buffer)) buffer

-- a sink before a write of a piece, the answer, and the sink afterwards
abbrev pub AnswersWrite : Taken → List ℕ → Result ℕ Fault → Taken → Type 0
AnswersWrite old piece (Ok count) new =
    (is_to_fail old.calls old.fails ≡ false)
    × (count ≡ min (length piece) old.chunk)
    × (new ≡ record old { calls = raised old.calls; bytes = old.bytes ++ take count piece })
AnswersWrite old piece (Err Failed) new =
    (is_to_fail old.calls old.fails ≡ true)
    × (new ≡ record old { calls = raised old.calls; faults = raised old.faults })
AnswersWrite old piece (Err Memory) new =
    (is_to_fail old.calls old.fails ≡ false)
    × (new ≡ record old { calls = raised old.calls })
