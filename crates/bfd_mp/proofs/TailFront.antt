-- What was emitted before stays ahead of what a tail's rules emit, and changes nothing else of them.
use Rattle.bfd_mp.proofs.Common.{◌≡◌, ℕ, List, refl, is_some, Control, fields_of, has_come, Cmd, Out, is_admin_down, Course, TailConfig}
use Rattle.bfd_mp.proofs.Common.{deadline, tail_refusal, tail_commanded, tail_done, after, either, changes-after}
use Rattle.bfd_mp.specs.TailSettle as settling
use Rattle.bfd_mp.specs.TailReceive as receiving

pub settle-after : (c : TailConfig) (limit : ℕ) (os : List Out) (s : Course)
    → settling.settle c limit (after os s) ≡ after os (settling.settle c limit s)
unfolding settling.settle
settle-after c limit os s = either os (has_come limit (deadline s.vars)) _ s _ _ (changes-after c.discr (settling.silenced s.vars) os s)
    refl

moves_state-after : (c : TailConfig) (packet : Control) (os : List Out) (s : Course)
    → receiving.moves_state c packet (after os s) ≡ after os (receiving.moves_state c packet s)
unfolding receiving.moves_state
moves_state-after c packet os s = changes-after c.discr _ os s

accepted-after : (c : TailConfig) (eff : ℕ) (packet : Control) (os : List Out) (s : Course)
    → receiving.accepted c eff packet (after os s) ≡ after os (receiving.accepted c eff packet s)
unfolding receiving.accepted receiving.keeps_fields
accepted-after c eff packet os s = either os (is_admin_down s.vars.state) _ _ _ _ refl (moves_state-after c packet os _)

pub received-after : (c : TailConfig) (eff : ℕ) (raw : List ℕ) (os : List Out) (s : Course)
    → receiving.received c eff raw (after os s) ≡ after os (receiving.received c eff raw s)
unfolding receiving.received
received-after c eff raw os s = either os (fields_of raw).auth s _ _ _ refl (accepted-after c eff (fields_of raw) os s)

pub commanded-after : (c : TailConfig) (cmd : Cmd) (os : List Out) (s : Course)
    → tail_commanded c cmd (after os s) ≡ after os (tail_commanded c cmd s)
unfolding tail_commanded
commanded-after c cmd os s = either os (is_some (tail_refusal s.vars cmd)) s _ _ _ refl (changes-after c.discr (tail_done cmd s.vars) os s)
