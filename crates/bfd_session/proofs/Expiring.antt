-- A tick forgets that a packet was heard exactly when the Detection Time has expired.
use Rattle.bfd_session.proofs.Common.{◌≡◌, ◌+◌, ◌-◌, ◌==◌, ◌||◌, ◌&&◌, ℕ, Bool, true, false, refl, ◌∙◌, Option, None, Some, is_none, IsSome}
use Rattle.bfd_session.proofs.Common.{[], arith, if◌then◌else◌, common_steps, Down, Up, floor_tick, has_come, Config, Vars, deadline}
use Rattle.bfd_session.proofs.Common.{seq_deadline, is_up, demand_here, may_send, poll_again, poll_renewed, used_renewed, demand_renewed}
use Rattle.bfd_session.proofs.Common.{renewed, Course, enters, changes, sends, is_unannounced, redrawn, renews, moves, transmits, failed}
use Rattle.bfd_session.proofs.Common.{HeadConfig, Echo, EchoResult, Failed, SessionConfig, PointToPoint, Running, Flow, detects, detects_by}
use Rattle.bfd_session.proofs.Common.{settled_by, settled_running, settles_echo, echoing, sound_by, tick, tick_next, ticked_flow, begun}
use Rattle.bfd_session.proofs.Common.{Initiator, Head, Tail, option_map, IsSound}
use Rattle.std.proofs.Math.Bool.{or-false}
use Rattle.bfd_packet.specs.States.{is_init_or_up}
use Rattle.bfd_rules.specs.Sound as point
use Rattle.bfd_rules.proofs.Heard.{alike, drawn_heard}
use Rattle.bfd_p2p.specs.Settle as settling
use Rattle.bfd_p2p.specs.Finish as finishing
use Rattle.bfd_sbfd.specs.Waiting.{wait, deadline as initiator_deadline}
use Rattle.bfd_sbfd.proofs.Expiry as initiator
use Rattle.bfd_mp.specs.Waiting.{deadline as tail_deadline}
use Rattle.bfd_mp.specs.Counting.{counted}
use Rattle.bfd_mp.specs.Transmit.{transmits as head_transmits}
use Rattle.bfd_mp.specs.HeadSettle as head_settle
use Rattle.bfd_mp.specs.HeadFinish as head_finish
use Rattle.bfd_mp.proofs.Expiry as tail

-- Renewal: whether a packet was heard stays

mapped_none : (eff : ℕ) (o : Option ℕ) → is_none (option_map (λ _. eff) o) ≡ is_none o
mapped_none eff None = refl
mapped_none eff (Some x) = refl

poll_heard : (before v : Vars) → (poll_renewed before v).heard ≡ v.heard
unfolding poll_renewed
poll_heard before v = grind (arith, common_steps)

demand_none : (eff : ℕ) (before v : Vars) → is_none (demand_renewed eff before v).heard ≡ is_none v.heard
unfolding demand_renewed
demand_none eff before v = by (demand_here before) (demand_here v)
  where
    by : (a b : Bool) → is_none (if a then (if b then v else record v { heard = option_map (λ _. eff) v.heard })
        else (if b then record v { poll = poll_again v.poll } else v)).heard ≡ is_none v.heard
    by true true = refl
    by true false = mapped_none eff v.heard
    by false true = refl
    by false false = refl

renewed_none : (eff : ℕ) (before v : Vars) → is_none (renewed eff before v).heard ≡ is_none v.heard
unfolding renewed used_renewed
renewed_none eff before v = cc (demand_none eff before (used_renewed (poll_renewed before v)), poll_heard before v)

renews_none : (eff : ℕ) (v : Vars) (s : Course) → is_none (renews eff v s).vars.heard ≡ is_none v.heard
unfolding renews
renews_none eff v s = renewed_none eff s.vars v

moves_none : (discr eff : ℕ) (v : Vars) (s : Course) → is_none (moves discr eff v s).vars.heard ≡ is_none v.heard
unfolding moves changes
moves_none discr eff v s = renewed_none eff s.vars v

-- settling

either : {n : Bool} (b : Bool) (x y : Course) → is_none x.vars.heard ≡ n → is_none y.vars.heard ≡ n
    → is_none (if b then x else y).vars.heard ≡ n
either true x y hx hy = hx
either false x y hx hy = hy

silent_none : (v : Vars) → is_none (settling.goes_silent (settling.forgets_peer v)).heard ≡ true
silent_none v = by (is_init_or_up v.state)
  where
    by : (b : Bool) → is_none (if b then enters Down 1 (settling.forgets_peer v) else settling.forgets_peer v).heard ≡ true
    by true = refl
    by false = refl

or_come : (n come : Bool) (x y : Course) → is_none x.vars.heard ≡ true → is_none y.vars.heard ≡ n
    → is_none (if come then x else y).vars.heard ≡ (n || come)
or_come true true x y hx hy = hx
or_come false true x y hx hy = hx
or_come true false x y hx hy = hy
or_come false false x y hx hy = hy

detection_none : (c : Config) (limit eff : ℕ) (s : Course)
    → is_none (settling.detection c limit eff s).vars.heard ≡ (is_none s.vars.heard || has_come limit (deadline s.vars))
unfolding settling.detection
detection_none c limit eff s =
    or_come (is_none s.vars.heard) (has_come limit (deadline s.vars))
    (moves c.discr eff (settling.goes_silent (settling.forgets_peer s.vars)) s) s
    (moves_none c.discr eff (settling.goes_silent (settling.forgets_peer s.vars)) s ∙ silent_none s.vars) refl

sequence_none : (limit eff : ℕ) (s : Course) → is_none (settling.sequence limit eff s).vars.heard ≡ is_none s.vars.heard
unfolding settling.sequence
sequence_none limit eff s = either (has_come limit (seq_deadline s.vars)) _ s (renews_none eff (settling.forgets_sequence s.vars) s) refl

periodic_packet_none : (c : Config) (eff : ℕ) (s : Course) → is_none (settling.periodic_packet c eff s).vars.heard ≡ is_none s.vars.heard
unfolding settling.periodic_packet transmits sends
periodic_packet_none c eff s = renews_none eff _ _

periodic_none : (c : Config) (limit eff : ℕ) (s : Course) → is_none (settling.periodic c limit eff s).vars.heard ≡ is_none s.vars.heard
unfolding settling.periodic
periodic_none c limit eff s = either (has_come (floor_tick limit) s.vars.tx_due && may_send c.active s.vars) _ s
    (periodic_packet_none c eff s) refl

settle_none : (c : Config) (limit eff : ℕ) (s : Course)
    → is_none (settling.settle c limit eff s).vars.heard ≡ (is_none s.vars.heard || has_come limit (deadline s.vars))
unfolding settling.settle
settle_none c limit eff s = periodic_none c limit eff _ ∙ sequence_none limit eff _ ∙ detection_none c limit eff s

-- the end of an event

extra_none : (c : Config) (eff : ℕ) (s : Course) → is_none (finishing.extra c eff s).vars.heard ≡ is_none s.vars.heard
unfolding finishing.extra transmits sends
extra_none c eff s = either (is_unannounced c.active s.mark s.vars) _ s refl refl

finish_none : (c : Config) (eff : ℕ) (s : Course) → is_none (finishing.finish c eff s).vars.heard ≡ is_none s.vars.heard
unfolding finishing.finish redrawn
finish_none c eff s = cc (drawn_heard c.active _ _, extra_none c eff s)

-- the Echo function: its failure forgets nothing

settled_by_none : (c : Config) (eff : ℕ) (result : EchoResult) (e : Echo) (f : Flow)
    → is_none (settled_by c eff result e f).course.vars.heard ≡ is_none f.course.vars.heard
unfolding sends
settled_by_none c eff Failed e f = moves_none c.discr eff (failed 2 f.course.vars) f.course
settled_by_none c eff result e f = refl

settled_running_none : (c : Config) (limit eff : ℕ) (echo : Option Echo) (f : Flow)
    → is_none (settled_running c limit eff echo f).course.vars.heard ≡ is_none f.course.vars.heard
settled_running_none c limit eff None f = refl
settled_running_none c limit eff (Some e) f = settled_by_none c eff _ _ f

settles_echo_none : (c : Config) (limit eff : ℕ) (f : Flow)
    → is_none (settles_echo c limit eff f).course.vars.heard ≡ is_none f.course.vars.heard
unfolding settles_echo
settles_echo_none c limit eff f = settled_running_none c limit eff (echoing c f.course.vars f.echo) f

-- the other kinds: what was heard is forgotten, or kept

none_by : (come : Bool) (heard : Option ℕ) {after : Option ℕ} → after ≡ (if come then None else heard)
    → is_none after ≡ (is_none heard || come)
none_by true None is = cc
none_by true (Some m) is = cc
none_by false None is = cc
none_by false (Some m) is = cc

-- a head hears nothing, and so its events forget nothing

one_fewer_heard : (v : Vars) (none : Bool) → (if none then v else counted (v.left - 1) v).heard ≡ v.heard
one_fewer_heard v true = refl
one_fewer_heard v false = refl

head_settle_heard : (c : HeadConfig) (limit eff : ℕ) (s : Course) → (head_settle.settle c limit eff s).vars.heard ≡ s.vars.heard
unfolding head_settle.settle head_settle.periodic_packet
head_settle_heard c limit eff s = alike (has_come (floor_tick limit) s.vars.tx_due) (head_settle.periodic_packet c eff s) s _
    (one_fewer_heard s.vars (s.vars.left == 0)) refl

head_extra_heard : (c : HeadConfig) (eff : ℕ) (s : Course) → (head_finish.extra c eff s).vars.heard ≡ s.vars.heard
unfolding head_finish.extra head_transmits sends
head_extra_heard c eff s = alike (is_unannounced true s.mark s.vars) _ s s.vars.heard refl refl

head_finish_heard : (c : HeadConfig) (eff : ℕ) (s : Course) → (head_finish.finish c eff s).vars.heard ≡ s.vars.heard
unfolding head_finish.finish redrawn
head_finish_heard c eff s =
    let t : Course = head_finish.extra c eff s in drawn_heard true t.mark t.vars ∙ head_extra_heard c eff s

head_heard : (c : HeadConfig) (limit eff : ℕ) (s : Course)
    → (head_finish.finish c eff (head_settle.settle c limit eff s)).vars.heard ≡ s.vars.heard
head_heard c limit eff s = head_finish_heard c eff (head_settle.settle c limit eff s) ∙ head_settle_heard c limit eff s

-- the whole tick

tick_by : (c : SessionConfig) (s : Running) (limit eff : ℕ)
    → is_none (tick c limit eff (begun None s [])).course.vars.heard ≡ (is_none s.vars.heard || has_come limit (detects_by c s.vars))
unfolding tick
tick_by (PointToPoint c) s limit eff = finish_none c eff _ ∙ settles_echo_none c limit eff _
    ∙ settle_none c limit eff (begun None s []).course
tick_by (Initiator c) s limit eff = none_by (has_come limit (initiator_deadline s.vars)) s.vars.heard
    (initiator.tick_heard c limit eff (begun None s []).course)
tick_by (Head c) s limit eff = cc (head_heard c limit eff (begun None s []).course, or-false (is_none s.vars.heard))
tick_by (Tail c) s limit eff = none_by (has_come limit (tail_deadline s.vars)) s.vars.heard
    (tail.tail_heard c limit (begun None s []).course)

pub tick_expires : (s : Running) (limit eff : ℕ) → is_none (tick_next limit eff s).vars.heard
    ≡ (is_none s.vars.heard || has_come limit (detects s))
unfolding ticked_flow
tick_expires s limit eff = tick_by s.config s limit eff

-- a Detection Time runs only where a packet was heard: in Demand mode too, since a session in Up has heard one

mapped_there : (f : ℕ → ℕ) (o : Option ℕ) → IsSome (option_map f o) → IsSome o
mapped_there f None h = h
mapped_there f (Some x) h = refl

demand_up : (v : Vars) → demand_here v ≡ true → v.state ≡ Up
demand_up v h = grind (arith, common_steps)

deadline_heard : {c : Config} {v : Vars} (here : Bool) → demand_here v ≡ here → point.IsPlain c v → IsSome (deadline v) → IsSome v.heard
deadline_heard {v} true is plain there = plain.up_heard (demand_up v is)
deadline_heard {v} false is plain there = mapped_there _ v.heard (rw is at there)

initiator_heard : (v : Vars) (up : Bool) → is_up v.state ≡ up → IsSome (initiator_deadline v) → IsSome v.heard
initiator_heard v true is there = mapped_there (λ heard. heard + wait v) v.heard (rw is at there)
initiator_heard v false is there = cc

heard_by : (c : SessionConfig) (s : Running) → sound_by c s → IsSome (detects_by c s.vars) → IsSome s.vars.heard
heard_by (PointToPoint c) s sound there = deadline_heard (demand_here s.vars) refl sound.vars.steady.plain there
heard_by (Initiator c) s sound there = initiator_heard s.vars (is_up s.vars.state) refl there
heard_by (Head c) s sound there = cc
heard_by (Tail c) s sound there = mapped_there _ s.vars.heard there

pub detects_heard : (s : Running) → IsSound s → IsSome (detects s) → IsSome s.vars.heard
detects_heard s sound there = heard_by s.config s sound there
