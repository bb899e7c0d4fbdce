-- What holds after every single rule of a point-to-point session: a change of an interval is negotiated by a Poll
-- Sequence and used only when it may be (RFC 5880 sections 6.5, 6.6, 6.8.2 and 6.8.3).
use Rattle.std.specs.Prelude.{ℕ, min, max, ◌==◌, Bool, not, ◌&&◌, ◌||◌, if◌then◌else◌, option_map}
use Rattle.bfd_rules.specs.declared.variables.Vars.{Vars}
use Rattle.bfd_rules.specs.declared.variables.Poll.{Poll}
use Rattle.bfd_rules.specs.declared.variables.Poll.TheVariants.{Idle, Wanted, Running}
use Rattle.bfd_rules.specs.Quantities.{is_up, is_idle, adv_tx, demand_here}

-- a change of the advertised Desired Min TX or of Required Min RX needs a Poll Sequence, also while one runs (section 6.8.3)
unfoldable pub poll_renewed : Vars → Vars → Vars
poll_renewed before v =
    if (adv_tx v == adv_tx before) && (v.rx == before.rx) then v else record v { poll = Wanted }

-- outside Up, and in Up when no poll is on, the advertised interval is the one in use
abbrev pub is_settled_tx : Vars → Bool
is_settled_tx v = not (is_up v.state) || is_idle v.poll

-- a longer Desired Min TX in Up, and a shorter Required Min RX, are used only when the poll has ended. A shorter
-- Desired Min TX and a longer Required Min RX are used immediately (section 6.8.3, which delays a shorter Required Min RX in Up alone)
unfoldable pub used_renewed : Vars → Vars
used_renewed v =
    record v {
      used_tx = if is_settled_tx v then adv_tx v else min v.used_tx (adv_tx v);
      used_rx = if is_idle v.poll then v.rx else max v.used_rx v.rx;
    }

-- a running Poll Sequence starts again
abbrev pub poll_again : Poll → Poll
poll_again Idle = Idle
poll_again Wanted = Wanted
poll_again (Running first) = Wanted

-- when Demand mode ends here, the Detection Time runs from now on; when it begins here, a running poll starts again
unfoldable pub demand_renewed : ℕ → Vars → Vars → Vars
demand_renewed eff before v =
    if demand_here before
    then (if demand_here v then v else record v { heard = option_map (λ _. eff) v.heard })
    else (if demand_here v then record v { poll = poll_again v.poll } else v)

-- the variables v, which a rule computed from the variables before, renewed
unfoldable pub renewed : ℕ → Vars → Vars → Vars
renewed eff before v = demand_renewed eff before (used_renewed (poll_renewed before v))
