-- How a head announces a changed interval (RFC 8562 section 5.10): the next packets carry P, as many as its Detect Mult, and
-- a longer interval is used once they are sent. No tail answers them.
use Rattle.std.specs.Prelude.{ℕ, ◌==◌, if◌then◌else◌}
use Rattle.bfd_rules.specs.declared.variables.Poll.{Poll}
use Rattle.bfd_rules.specs.declared.variables.Poll.TheVariants.{Idle, Wanted}
use Rattle.bfd_rules.specs.declared.variables.Vars.{Vars}

-- packets with P are still to be sent, or none
abbrev pub poll_of : ℕ → Poll
poll_of left = if left == 0 then Idle else Wanted

-- so many packets with P are still to be sent; once there are none, the configured interval is used
abbrev pub counted : ℕ → Vars → Vars
counted left v = record v { left = left; poll = poll_of left; used_tx = if left == 0 then v.tx else v.used_tx }
