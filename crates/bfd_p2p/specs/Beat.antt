-- A tick by which a periodic packet is due, and nothing else: the packet is sent, and the next due tick is drawn.
use Rattle.std.specs.Prelude.{◌≡◌, ◌≤◌, ℕ, Some, List}
use Rattle.bfd_num.specs.Numbers.{next_j}
use Rattle.bfd_rules.specs.declared.config.Config.{Config}
use Rattle.bfd_rules.specs.declared.outputs.Out.{Out}
use Rattle.bfd_rules.specs.declared.variables.Vars.{Vars}
use Rattle.bfd_rules.specs.EventFrame.{course, begins, announces}
use Rattle.bfd_rules.specs.Jitter.{pick}
use Rattle.bfd_rules.specs.Quantities.{tx_interval}
use Rattle.bfd_rules.specs.Sound.{IsSound}
use Rattle.bfd_p2p.specs.Over.{IsOver}
use Rattle.bfd_p2p.specs.Settle.{poll_sent, settle}
use Rattle.bfd_p2p.specs.Finish.{finish}

-- the variables once the packet is sent
abbrev pub sent_at : ℕ → Vars → Vars
sent_at eff v = record v { poll = poll_sent eff v.poll; base = eff }

-- and at the end of the tick
abbrev pub redrawn_at : ℕ → Vars → Vars
redrawn_at eff v =
    record v { poll = poll_sent eff v.poll; base = eff; tx_due = Some (pick eff (tx_interval v) v.mult v.j); j = next_j v.j }

-- what the parts of the tick do: settling sends the packet, so that the outputs become outs, and the end draws the due tick
pub record IsBeat (c : Config) (limit eff : ℕ) (v : Vars) (os outs : List Out) : Type 0 where
  pub settled : settle c limit eff (course v (begins v) os) ≡ course (sent_at eff v) (announces v (begins v)) outs
  pub finished : finish c eff (course (sent_at eff v) (announces v (begins v)) outs)
      ≡ course (redrawn_at eff v) (announces v (begins v)) outs
  pub over : limit ≤ eff → IsOver limit (redrawn_at eff v)
  pub sound : IsSound c (redrawn_at eff v)
  pub echoless : v.echo_every ≡ 0
