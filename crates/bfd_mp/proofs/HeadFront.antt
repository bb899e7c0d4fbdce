-- What was emitted before stays ahead of what a head's rules emit, and changes nothing else of them.
use Rattle.bfd_mp.proofs.Common.{◌≡◌, ℕ, Bool, true, false, List, refl, is_some, floor_tick, has_come, Cmd, Out, Course, is_unannounced}
use Rattle.bfd_mp.proofs.Common.{based}
use Rattle.bfd_mp.proofs.Common.{redrawn, after, either, changes-after, sends-after, HeadConfig, transmits, head_refusal, head_commanded}
use Rattle.bfd_mp.proofs.Common.{head_done}
use Rattle.bfd_mp.specs.HeadSettle as settling
use Rattle.bfd_mp.specs.HeadFinish as finishing

transmits-after : (c : HeadConfig) (poll : Bool) (os : List Out) (s : Course)
    → transmits c poll (after os s) ≡ after os (transmits c poll s)
unfolding transmits
transmits-after c poll os s = sends-after c.discr _ os s

-- settling

periodic_packet-after : (c : HeadConfig) (eff : ℕ) (os : List Out) (s : Course)
    → settling.periodic_packet c eff (after os s) ≡ after os (settling.periodic_packet c eff s)
unfolding settling.periodic_packet
periodic_packet-after c eff os s = rw transmits-after refl

pub settle-after : (c : HeadConfig) (limit eff : ℕ) (os : List Out) (s : Course)
    → settling.settle c limit eff (after os s) ≡ after os (settling.settle c limit eff s)
unfolding settling.settle
settle-after c limit eff os s = either os (has_come (floor_tick limit) s.vars.tx_due) _ s _ _ (periodic_packet-after c eff os s) refl

-- commands and the end of an event

pub commanded-after : (c : HeadConfig) (cmd : Cmd) (os : List Out) (s : Course)
    → head_commanded c cmd (after os s) ≡ after os (head_commanded c cmd s)
unfolding head_commanded
commanded-after c cmd os s = either os (is_some (head_refusal s.vars cmd)) s _ _ _ refl (changes-after c.discr (head_done cmd s.vars) os s)

announced-after : (c : HeadConfig) (eff : ℕ) (os : List Out) (s : Course)
    → based eff (transmits c false (after os s)) ≡ after os (based eff (transmits c false s))
announced-after c eff os s = rw transmits-after refl

extra-after : (c : HeadConfig) (eff : ℕ) (os : List Out) (s : Course)
    → finishing.extra c eff (after os s) ≡ after os (finishing.extra c eff s)
unfolding finishing.extra
extra-after c eff os s = either os (is_unannounced true s.mark s.vars) _ s _ _ (announced-after c eff os s) refl

pub finish-after : (c : HeadConfig) (eff : ℕ) (os : List Out) (s : Course)
    → finishing.finish c eff (after os s) ≡ after os (finishing.finish c eff s)
unfolding finishing.finish redrawn
finish-after c eff os s = rw extra-after refl
