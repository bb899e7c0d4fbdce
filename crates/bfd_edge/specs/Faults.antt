-- Counts of faults, and what a failure shows about them.
use Rattle.std.specs.Prelude.{◌≡◌, ℕ, ◌+◌, ◌-◌, ◌^◌, ◌≤◌, min, max, Result, IsErrOf}
use Rattle.bfd_edge.specs.declared.fault.Fault.{Fault}
use Rattle.bfd_edge.specs.declared.fault.Fault.TheVariants.{Failed, Memory}

-- one more, at most 2^64 - 1
abbrev pub raised : ℕ → ℕ
raised count = min (count + 1) (2 ^ 64 - 1)

-- the count after so many more: it never falls, and stays at 2^64 - 1
abbrev pub risen : ℕ → ℕ → ℕ
risen count more = max count (min (count + more) (2 ^ 64 - 1))

-- the count rose by one or more; at 2^64 - 1 it counts as risen by any number
abbrev pub Rose : ℕ → ℕ → Type 0
Rose before now = raised before ≤ now

-- the count didn't fall; if the call failed, the count rose; out of memory is no fault, and leaves the count
pub record HasCause {T : Type 0} (before now : ℕ) (result : Result T Fault) : Type 0 where
  pub later : before ≤ now
  pub failed : IsErrOf result Failed → Rose before now
  pub wanted : IsErrOf result Memory → now ≡ before
