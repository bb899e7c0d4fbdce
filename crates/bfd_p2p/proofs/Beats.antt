-- A tick by which a periodic packet is due and nothing else sends it, and draws the next due tick.
use Rattle.std.proofs.Common.{◌≡◌, ◌≤◌, ℕ, Bool, true, false, not, refl, sym, ◌∙◌, List, Option, None, Some, IsSome}
use Rattle.std.proofs.lemmas.Bool.{eq-eqb}
use Rattle.bfd_num.specs.Numbers.{floor_tick}
use Rattle.bfd_num.specs.Due.{has_come}
use Rattle.bfd_rules.specs.declared.config.Config.{Config}
use Rattle.bfd_rules.specs.declared.outputs.Out.{Out}
use Rattle.bfd_rules.specs.declared.variables.Vars.{Vars}
use Rattle.bfd_rules.specs.declared.variables.Mark.{Mark}
use Rattle.bfd_rules.specs.declared.variables.Poll.{Poll}
use Rattle.bfd_rules.specs.declared.variables.Poll.TheVariants.{Idle, Wanted, Running}
use Rattle.bfd_rules.specs.Quantities.{deadline, seq_deadline, may_send, is_idle}
use Rattle.bfd_rules.specs.EventFrame.{Course, course, begins, announces, drawn, redrawn}
use Rattle.bfd_rules.specs.Sound.{IsRenewed, IsSteady, IsSound}
use Rattle.bfd_rules.proofs.Still.{same_itself}
use Rattle.bfd_p2p.specs.Settle.{settle, detection, sequence, periodic, periodic_packet, poll_sent}
use Rattle.bfd_p2p.specs.Transmit.{transmits}
use Rattle.bfd_p2p.specs.Finish.{finish, extra}
use Rattle.bfd_p2p.specs.Beat.{IsBeat, redrawn_at, sent_at}
use Rattle.bfd_p2p.proofs.Idle.{renews_announced}

-- a due tick that has come is present
there : (t : ℕ) (due : Option ℕ) → has_come t due ≡ true → IsSome due
there t None h = cc
there t (Some d) h = refl

-- settling with a periodic packet due alone
settle_sends : (c : Config) (limit eff : ℕ) (s : Course) → has_come limit (deadline s.vars) ≡ false
    → has_come limit (seq_deadline s.vars) ≡ false
    → has_come (floor_tick limit) s.vars.tx_due ≡ true → may_send c.active s.vars ≡ true → settle c limit eff s ≡ periodic_packet c eff s
unfolding settle detection sequence periodic
settle_sends c limit eff s late seq_late due may = rw (late, seq_late, due, may) refl

-- the packet leaves nothing to renew
packet_sends : (c : Config) (eff : ℕ) (v : Vars) (m : Mark) (os outs : List Out) → IsRenewed (sent_at eff v)
    → course v m outs ≡ transmits c (not (is_idle v.poll)) false (course v m os)
    → periodic_packet c eff (course v m os) ≡ course (sent_at eff v) (announces v m) outs
unfolding periodic_packet
packet_sends c eff v m os outs h sent = rw (← sent) (sym (renews_announced eff v.seq v (announces v m) outs h))

-- a Poll Sequence that begins was on before
may_stay : (active : Bool) (eff : ℕ) (v : Vars) (poll : Poll)
    → may_send active (record v { poll = poll_sent eff poll }) ≡ may_send active (record v { poll = poll })
may_stay active eff v Idle = refl
may_stay active eff v Wanted = refl
may_stay active eff v (Running first) = refl

-- the end of the tick has nothing to report
finish_draws : (c : Config) (eff : ℕ) (v : Vars) (outs : List Out) → may_send c.active (sent_at eff v) ≡ true
    → finish c eff (course (sent_at eff v) (announces v (begins v)) outs) ≡ course (redrawn_at eff v) (announces v (begins v)) outs
unfolding finish extra redrawn drawn
finish_draws c eff v outs may = rw (same_itself v.state, eq-eqb v.diag v.diag refl, may) refl

pub is_beat : (c : Config) (limit eff : ℕ) (v : Vars) (os outs : List Out) → IsSound c v → v.echo_every ≡ 0
    → has_come limit (deadline v) ≡ false → has_come limit (seq_deadline v) ≡ false → has_come (floor_tick limit) v.tx_due ≡ true
    → course v (begins v) outs ≡ transmits c (not (is_idle v.poll)) false (course v (begins v) os)
    → IsSteady c (sent_at eff v) → IsSteady c (redrawn_at eff v) → (limit ≤ eff → has_come limit (deadline (sent_at eff v)) ≡ false)
    → (limit ≤ eff → has_come (floor_tick limit) (redrawn_at eff v).tx_due ≡ false) → IsBeat c limit eff v os outs
is_beat c limit eff v os outs sound echoless late seq_late due sent steady end_steady still_late later =
    let may : may_send c.active v ≡ true = sound.due.0 (there (floor_tick limit) v.tx_due due) in
    let still_may : may_send c.active (sent_at eff v) ≡ true = may_stay c.active eff v v.poll ∙ may in
    record {
      settled = settle_sends c limit eff (course v (begins v) os) late seq_late due may
          ∙ packet_sends c eff v (begins v) os outs steady.renewed sent;
      finished = finish_draws c eff v outs still_may;
      over = λ reached. record { late = still_late reached; seq_late = seq_late; due_later = later reached };
      sound = record { steady = end_steady; due = (λ _. still_may, λ _. refl) };
      echoless = echoless;
    }
