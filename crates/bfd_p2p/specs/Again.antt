-- A packet with nothing new for a session in Up, except perhaps that the peer is in Up too. It changes when the peer was last heard.
use Rattle.std.specs.Prelude.{◌≡◌, ℕ, Some, List}
use Rattle.bfd_packet.specs.declared.control.State.TheVariants.{Up}
use Rattle.bfd_rules.specs.declared.config.Config.{Config}
use Rattle.bfd_rules.specs.declared.outputs.Out.{Out}
use Rattle.bfd_rules.specs.declared.variables.Vars.{Vars}
use Rattle.bfd_rules.specs.declared.variables.Mark.{Mark}
use Rattle.bfd_rules.specs.declared.verdict.Verdict.TheVariants.{Accepted}
use Rattle.bfd_rules.specs.EventFrame.{course, begins, stamped}
use Rattle.bfd_rules.specs.Sound.{IsSound}
use Rattle.bfd_p2p.specs.Settle.{settle}
use Rattle.bfd_p2p.specs.Receive.{received, verdict_on}
use Rattle.bfd_p2p.specs.Finish.{finish}

-- the variables after it
abbrev pub heard_again : ℕ → Vars → Vars
heard_again eff v = record v { remote_state = Up; heard = Some eff; at = eff }

-- what the parts of the event do: settling and the end do nothing, and reception keeps the peer's state and the moment
pub record IsAgain (c : Config) (eff ttl : ℕ) (raw : List ℕ) (v : Vars) : Type 0 where
  pub settled : (m : Mark) (os : List Out) → settle c eff eff (course (stamped (Some eff) v) m os) ≡ course (stamped (Some eff) v) m os
  pub received : (m : Mark) (os : List Out) → received c eff ttl raw (course (stamped (Some eff) v) m os) ≡ course (heard_again eff v) m os
  pub verdict : verdict_on c ttl raw (stamped (Some eff) v) ≡ Accepted
  pub finished : (os : List Out)
      → finish c eff (course (heard_again eff v) (begins (stamped (Some eff) v)) os)
      ≡ course (heard_again eff v) (begins (stamped (Some eff) v)) os
  pub sound : IsSound c (heard_again eff v)
  pub echoless : v.echo_every ≡ 0
