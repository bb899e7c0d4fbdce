-- A tick by which nothing is due leaves sound variables as they are, and emits nothing.
use Rattle.bfd_session.proofs.Common.{◌≡◌, ◌*◌, ◌++◌, append-nil, ℕ, Bool, true, false, refl, ap, ◌∙◌, Option, None, Some, IsSome, IsTrue}
use Rattle.bfd_session.proofs.Common.{◌↔◌, List, [], if◌then◌else◌, leb-false, has_come, sooner, Config, Vars, deadline, seq_deadline, Echo}
use Rattle.bfd_session.proofs.Common.{SessionConfig, PointToPoint, Running, Flow, due, due_by, tick_of, should_echo, echoing, interval_of}
use Rattle.bfd_session.proofs.Common.{echo_due}
use Rattle.bfd_session.proofs.Common.{settled_running, settles_echo, goes_on, number_by, number_after, turns_echo, IsPointSound, sound_by}
use Rattle.bfd_session.proofs.Common.{tick, tick_next, ticked_flow, tick_emits, begun, Initiator, Head, Tail, option_map, IsSound, Out}
use Rattle.bfd_p2p.proofs.Repeated.{settle_rests, finish_rests}
use Rattle.bfd_sbfd.specs.Waiting.{deadline as initiator_deadline}
use Rattle.bfd_sbfd.proofs.Rest as initiator
use Rattle.bfd_mp.proofs.Rest as tree
use Rattle.bfd_echo.specs.Timing.{due as echo_tick}
use Rattle.bfd_echo.proofs.DueTick.{outcome_rests}
use Rattle.bfd_session.proofs.DueTick.{parts, not_late, not_due}

-- the Echo function with nothing due

running_rests : (c : Config) (t eff : ℕ) (echo : Option Echo) (f : Flow)
    → has_come t (option_map (λ e. echo_tick e (interval_of f.course.vars) f.course.vars.mult) echo) ≡ false
    → settled_running c (1000 * t) eff echo f ≡ f
running_rests c t eff None f later = refl
running_rests c t eff (Some e) f later = rw (outcome_rests e t (interval_of f.course.vars) f.course.vars.mult c.discr (leb-false _ t later))
    refl

settles_echo_rests : (c : Config) (t eff : ℕ) (f : Flow) → has_come t (echo_due c f.course.vars f.echo) ≡ false
    → settles_echo c (1000 * t) eff f ≡ f
unfolding settles_echo
settles_echo_rests c t eff f later = running_rests c t eff (echoing c f.course.vars f.echo) f later

-- one that runs exactly when it should goes on

goes_on_by : (eff next : ℕ) (should : Bool) (echo : Option Echo) → (IsSome echo ↔ IsTrue should)
    → (if should then Some (goes_on eff next echo) else None) ≡ echo
goes_on_by eff next true None both = let true_too = both.1 refl in cc
goes_on_by eff next false (Some e) both = let true_too = both.0 refl in cc
goes_on_by eff next should echo both = refl

number_by_rests : (next : ℕ) (should : Bool) (echo : Option Echo) → (IsSome echo ↔ IsTrue should)
    → (if should then next else number_by echo next) ≡ next
number_by_rests next true echo both = refl
number_by_rests next false None both = refl
number_by_rests next false (Some e) both = let true_too = both.0 refl in cc

turns_echo_rests : (c : Config) (eff : ℕ) (f : Flow) → (IsSome f.echo ↔ IsTrue (should_echo c f.course.vars)) → turns_echo c eff f ≡ f
turns_echo_rests c eff f both = ap (λ o. record f { echo = o; echo_next = number_after c f.course.vars f.echo f.echo_next })
    (goes_on_by eff f.echo_next _ f.echo both) ∙ ap (λ n. record f { echo_next = n }) (number_by_rests f.echo_next _ f.echo both)

-- the whole tick

point_rests : {c : Config} {s : Running} (t eff : ℕ) → IsPointSound c s → has_come t (due_by (PointToPoint c) s) ≡ false
    → tick (PointToPoint c) (1000 * t) eff (begun None s []) ≡ begun None s []
unfolding tick
point_rests {c} {s} t eff sound nothing =
    let v : Vars = s.vars in
    let f : Flow = begun None s [] in
    let outer = parts t (tick_of (deadline v)) (sooner (tick_of (seq_deadline v)) (sooner v.tx_due (echo_due c v s.echo))) nothing in
    let middle = parts t (tick_of (seq_deadline v)) (sooner v.tx_due (echo_due c v s.echo)) outer.second in
    let inner = parts t v.tx_due (echo_due c v s.echo) middle.second in
    cc (
      settle_rests c (1000 * t) eff f.course (not_late t (deadline v) outer.first) (not_late t (seq_deadline v) middle.first)
          (not_due t v.tx_due inner.first),
      settles_echo_rests c t eff f inner.second,
      finish_rests eff [] sound.vars,
      turns_echo_rests c eff f sound.echoes,
    )

tick_rests : (c : SessionConfig) (s : Running) (t eff : ℕ) → sound_by c s → has_come t (due_by c s) ≡ false
    → tick c (1000 * t) eff (begun None s []) ≡ begun None s []
unfolding tick
tick_rests (PointToPoint c) s t eff sound nothing = point_rests t eff sound nothing
tick_rests (Initiator c) s t eff sound nothing =
    let both = parts t (tick_of (initiator_deadline s.vars)) s.vars.tx_due nothing in
    cc (initiator.tick_rests c (1000 * t) eff _ [] sound.vars (not_late t _ both.first) (not_due t _ both.second))
tick_rests (Head c) s t eff sound nothing = cc (tree.head_rests c (1000 * t) eff _ [] sound.vars (not_due t _ nothing))
tick_rests (Tail c) s t eff sound nothing = cc (tree.tail_settle_rests c (1000 * t) (begun None s []).course (not_late t _ nothing))

pub rest_session : (s : Running) (t eff : ℕ) → IsSound s → has_come t (due s) ≡ false → tick_next (1000 * t) eff s ≡ s
unfolding ticked_flow
rest_session s t eff sound nothing = cc (tick_rests s.config s t eff sound nothing)

pub rest_outs : (s : Running) (t eff : ℕ) → IsSound s → has_come t (due s) ≡ false → tick_emits (1000 * t) eff s ≡ []
unfolding tick_emits ticked_flow
rest_outs s t eff sound nothing = ap (λ f. f.course.outs) (tick_rests s.config s t eff sound nothing)

-- the same with the limit as a number

pub limit_session : (s : Running) (limit t eff : ℕ) → limit ≡ 1000 * t → IsSound s → has_come t (due s) ≡ false → tick_next limit eff s ≡ s
limit_session s limit t eff at sound nothing = ap (λ (l : ℕ). tick_next l eff s) at ∙ rest_session s t eff sound nothing

pub limit_outs : (s : Running) (limit t eff : ℕ) (os : List Out) → limit ≡ 1000 * t → IsSound s → has_come t (due s) ≡ false
    → os ++ tick_emits limit eff s ≡ os
limit_outs s limit t eff os at sound nothing = cc (
  ap (λ (l : ℕ). os ++ tick_emits l eff s) at,
  rest_outs s t eff sound nothing,
  append-nil os,
)
