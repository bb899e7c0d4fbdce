-- An event by which nothing is due, and which does nothing of its own, leaves sound variables as they are and puts
-- nothing out.
use Rattle.bfd_sbfd.proofs.Common.{◌≡◌, ℕ, true, false, refl, List, floor_tick, has_come, Out, Vars, Course, course, begins, redrawn}
use Rattle.bfd_sbfd.proofs.Common.{InitiatorConfig, deadline, IsInitiatorSound}
use Rattle.bfd_rules.proofs.Still.{no_news, drawn_stands}
use Rattle.bfd_sbfd.specs.Settle as settling
use Rattle.bfd_sbfd.specs.Finish as finishing

-- settling with nothing due

settle_rests : (c : InitiatorConfig) (limit eff : ℕ) (s : Course)
    → has_come limit (deadline s.vars) ≡ false → has_come (floor_tick limit) s.vars.tx_due ≡ false → settling.settle c limit eff s ≡ s
unfolding settling.settle settling.detection settling.periodic
settle_rests c limit eff s late due_later = rw (late, due_later) refl

-- the end of an event with no news and a due tick that stands

finish_rests : {c : InitiatorConfig} (eff : ℕ) {v : Vars} (os : List Out) → IsInitiatorSound c v
    → finishing.finish c eff (course v (begins v) os) ≡ course v (begins v) os
unfolding finishing.finish finishing.extra redrawn
finish_rests eff {v} os sound = rw (no_news v, drawn_stands true v sound.due) refl

-- both

pub tick_rests : (c : InitiatorConfig) (limit eff : ℕ) (v : Vars) (os : List Out) → IsInitiatorSound c v
    → has_come limit (deadline v) ≡ false → has_come (floor_tick limit) v.tx_due ≡ false
    → finishing.finish c eff (settling.settle c limit eff (course v (begins v) os)) ≡ course v (begins v) os
tick_rests c limit eff v os sound late due_later = cc (
  settle_rests c limit eff (course v (begins v) os) late due_later,
  finish_rests eff os sound,
)
