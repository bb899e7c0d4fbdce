-- How long a tail waits for its head (RFC 8562 section 5.11). Intervals and moments are in microseconds.
use Rattle.std.specs.Prelude.{ℕ, ◌+◌, ◌*◌, Option, option_map}
use Rattle.bfd_rules.specs.declared.variables.Vars.{Vars}

-- the Detection Time of a tail: the head's Detect Mult times its Desired Min TX Interval, as they were received last
abbrev pub wait : Vars → ℕ
wait v = v.remote_mult * v.remote_tx

-- when the Detection Time expires, if it runs: from the last packet on
abbrev pub deadline : Vars → Option ℕ
deadline v = option_map (λ heard. heard + wait v) v.heard
