-- An event by which nothing is due, and which does nothing of its own, leaves sound variables as they are and emits
-- nothing.
use Rattle.bfd_mp.proofs.Common.{◌≡◌, ◌&&◌, not, ℕ, Bool, true, false, refl, sym, ap, List, floor_tick, has_come, Out, Vars, may_send}
use Rattle.bfd_mp.proofs.Common.{Course, course, begins, is_news, is_unannounced, drawn, redrawn, HeadConfig, TailConfig, deadline}
use Rattle.bfd_mp.proofs.Common.{IsHeadSound}
use Rattle.bfd_mp.proofs.Common.{IsTailSound, Mark}
use Rattle.std.proofs.Math.Bool.{and-false}
use Rattle.bfd_rules.proofs.Still.{no_news, drawn_stands}
use Rattle.bfd_mp.specs.HeadSettle as head
use Rattle.bfd_mp.specs.HeadFinish as finishing
use Rattle.bfd_mp.specs.TailSettle as tail
use Rattle.bfd_mp.proofs.Drawing.{may_always}

-- a head

head_settle_rests : (c : HeadConfig) (limit eff : ℕ) (s : Course) → has_come (floor_tick limit) s.vars.tx_due ≡ false
    → head.settle c limit eff s ≡ s
unfolding head.settle
head_settle_rests c limit eff s due_later = rw due_later refl

head_finish_rests : (c : HeadConfig) (eff : ℕ) {v : Vars} (os : List Out) → IsHeadSound v
    → finishing.finish c eff (course v (begins v) os) ≡ course v (begins v) os
unfolding finishing.finish finishing.extra redrawn
head_finish_rests c eff {v} os sound = rw (no_news v, drawn_stands true v (λ _. may_always sound.steady, λ _. sound.due)) refl

pub head_rests : (c : HeadConfig) (limit eff : ℕ) (v : Vars) (os : List Out) → IsHeadSound v → has_come (floor_tick limit) v.tx_due ≡ false
    → finishing.finish c eff (head.settle c limit eff (course v (begins v) os)) ≡ course v (begins v) os
head_rests c limit eff v os sound due_later = cc (
  head_settle_rests c limit eff (course v (begins v) os) due_later,
  head_finish_rests c eff os sound,
)

-- a tail, whose events end with nothing

pub tail_settle_rests : (c : TailConfig) (limit : ℕ) (s : Course) → has_come limit (deadline s.vars) ≡ false → tail.settle c limit s ≡ s
unfolding tail.settle
tail_settle_rests c limit s late = rw late refl

-- that is how an event ends when no packet may be sent: no news is reported, and no due tick is drawn

tail_may_never : {c : TailConfig} (active : Bool) {v : Vars} → IsTailSound c v → may_send active v ≡ false
tail_may_never active h = rw h.silent.remote_min_rx refl

pub tail_announces_nothing : (c : TailConfig) (active : Bool) (m : Mark) (v : Vars) → IsTailSound c v → is_unannounced active m v ≡ false
tail_announces_nothing c active m v h = rw (tail_may_never active h) (and-false (is_news m v && not m.answered))

pub tail_draws_nothing : (c : TailConfig) (active : Bool) (m : Mark) (v : Vars) → IsTailSound c v → drawn active m v ≡ v
unfolding drawn
tail_draws_nothing c active m v h = rw (tail_may_never active h) (ap (λ o. record v { tx_due = o }) (sym h.silent.tx_due))
