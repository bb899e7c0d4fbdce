-- How long an initiator waits for an answer (RFC 7880 sections 6.2 and 7.3.3, RFC 5880 section 6.8.4).
-- Intervals and moments are in microseconds.
use Rattle.std.specs.Prelude.{ℕ, ◌+◌, ◌*◌, if◌then◌else◌, Option, None, option_map}
use Rattle.bfd_rules.specs.declared.variables.Vars.{Vars}
use Rattle.bfd_rules.specs.Quantities.{is_up, tx_interval}

-- the Detection Time of an initiator, whose bfd.DemandMode is 1: its own Detect Mult times its own transmit interval
abbrev pub wait : Vars → ℕ
wait v = v.mult * tx_interval v

-- when the Detection Time expires, if it runs: it runs in Up alone, from the last answer on
abbrev pub deadline : Vars → Option ℕ
deadline v = if is_up v.state then option_map (λ heard. heard + wait v) v.heard else None
