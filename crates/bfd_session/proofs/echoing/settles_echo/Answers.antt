-- An Echo function that nothing is due of, or that fails, is left as it is; and after a failure the session isn't Up.
use Rattle.bfd_session.proofs.Common.{rules, ◌≡◌, ℕ, Bool, true, false, List, refl, ap, ◌∙◌, subst, Option, Some, if◌then◌else◌, Down}
use Rattle.bfd_session.proofs.Common.{Config, Vars, Course, course, changes, moves, failed, Echo, EchoResult, outcome, has_failed}
use Rattle.bfd_session.proofs.Common.{is_sending, IsEchoOver, should_echo, interval_of, settles_echo, flow}
use Rattle.bfd_echo.specs.Rules.{settled}
use Rattle.bfd_session.proofs.Renewing.{renewed_state}
use Rattle.bfd_session.proofs.Starting.{down_silent}
use Rattle.bfd_session.proofs.echoing.settles_echo.Goals as goal

-- the state after a failure

moved_down : (discr eff diag : ℕ) (s : Course) → (moves discr eff (failed diag s.vars) s).vars.state ≡ Down
unfolding moves changes
moved_down discr eff diag s = renewed_state eff s.vars (failed diag s.vars)

down_over : (limit : ℕ) (c : Config) (v : Vars) (echo : Option Echo) → v.state ≡ Down → IsEchoOver limit c v echo
down_over limit c v echo down = rw (down_silent c v down) refl

-- where nothing was due, and where it failed, the Echo function is as before

unsent : (failed sending : Bool) (bytes : List ℕ) (before after : Echo)
    → (if failed then EchoResult.Failed else if sending then EchoResult.Sent bytes else EchoResult.Nothing) ≡ EchoResult.Nothing
    → (if failed then before else if sending then after else before) ≡ before
unsent true sending bytes before after h = refl
unsent false true bytes before after h = cc
unsent false false bytes before after h = refl

stays : (limit eff interval mult discr : ℕ) (e : Echo) → outcome limit interval mult discr e ≡ EchoResult.Nothing
    → settled limit eff interval mult e ≡ e
unfolding outcome settled
stays limit eff interval mult discr e h = unsent (has_failed limit interval mult e) (is_sending limit interval e) _ e _ h

unsent_failed : (failed sending : Bool) (bytes : List ℕ) (before after : Echo)
    → (if failed then EchoResult.Failed else if sending then EchoResult.Sent bytes else EchoResult.Nothing) ≡ EchoResult.Failed
    → (if failed then before else if sending then after else before) ≡ before
unsent_failed true sending bytes before after h = refl
unsent_failed false true bytes before after h = cc
unsent_failed false false bytes before after h = cc

stays_failed : (limit eff interval mult discr : ℕ) (e : Echo) → outcome limit interval mult discr e ≡ EchoResult.Failed
    → settled limit eff interval mult e ≡ e
unfolding outcome settled
stays_failed limit eff interval mult discr e h = unsent_failed (has_failed limit interval mult e) (is_sending limit interval e) _ e _ h

nothing_at : (c : Config) (limit eff i : ℕ) (s : Course) (e new : Echo) (echo : Option Echo) (next : ℕ)
    → i ≡ interval_of s.vars → should_echo c s.vars ≡ true → echo ≡ Some e
    → outcome limit i s.vars.mult c.discr e ≡ EchoResult.Nothing → new ≡ settled limit eff i s.vars.mult e
    → flow s (Some new) next ≡ settles_echo c limit eff (flow s echo next)
unfolding settles_echo
nothing_at c limit eff i s e new echo next at should is out new_is =
    let here : outcome limit (interval_of s.vars) s.vars.mult c.discr e ≡ EchoResult.Nothing =
    subst (λ (n : ℕ). outcome limit n s.vars.mult c.discr e ≡ EchoResult.Nothing) at out in
    rw (is, should, here) (cc (stays limit eff i s.vars.mult c.discr e out))

failed_at : (c : Config) (limit eff i : ℕ) (s after : Course) (e new : Echo) (echo : Option Echo) (next : ℕ)
    → i ≡ interval_of s.vars → should_echo c s.vars ≡ true → echo ≡ Some e
    → outcome limit i s.vars.mult c.discr e ≡ EchoResult.Failed → new ≡ settled limit eff i s.vars.mult e
    → after ≡ moves c.discr eff (failed 2 s.vars) s → flow after (Some new) next ≡ settles_echo c limit eff (flow s echo next)
unfolding settles_echo
failed_at c limit eff i s after e new echo next at should is out new_is fails =
    let here : outcome limit (interval_of s.vars) s.vars.mult c.discr e ≡ EchoResult.Failed =
    subst (λ (n : ℕ). outcome limit n s.vars.mult c.discr e ≡ EchoResult.Failed) at out in
    rw (is, should, here, fails) (cc (stays_failed limit eff i s.vars.mult c.discr e out))

pub returns-in-Nothing-clause-flow : goal.returns-in-Nothing-clause-flow
returns-in-Nothing-clause-flow c = λ next.
    let v : Vars = c.vars-v.result.now in
    let k : Config = c.config-c.result.now in
    let s : Vars → Course = λ w. course w c.args.mark.now c.args.outs.now.items in
    let at = nothing_at k c.args.limit c.args.eff c.interval_of.result (s v) c.in-Some.running c.settle.new.self c.args.echo.now next
    c.interval_of.ensures (search rules) c.in-Some.is (cc (c.in-Nothing.is)) c.settle.ensures.value in
    rw (← c.config-c.ensures.value) (subst (λ (w : Vars). flow (s w) (Some c.settle.new.self) next
    ≡ settles_echo k c.args.limit c.args.eff (flow (s w) c.args.echo.now next)) c.vars-v.ensures.value at)

pub returns-in-Failed-clause-flow : goal.returns-in-Failed-clause-flow
returns-in-Failed-clause-flow c = λ next.
    let v : Vars = c.vars-v.result.now in
    let k : Config = c.config-c.result.now in
    let s : Vars → Course = λ w. course w c.args.mark.now c.args.outs.now.items in
    let after : Course = course c.fail.new.self.vars c.fail.new.mark c.fail.new.outs.items in
    let fails : after ≡ moves k.discr c.args.eff (failed 2 v) (s v) =
    rw c.vars-v.ensures.value (rw c.config-c.ensures.value c.fail.ensures.course) in
    let at = failed_at k c.args.limit c.args.eff c.interval_of.result (s v) after c.in-Some.running c.settle.new.self c.args.echo.now next
    c.interval_of.ensures (search rules) c.in-Some.is (cc (c.in-Failed.is)) c.settle.ensures.value fails in
    rw (← c.config-c.ensures.value) (subst (λ (w : Vars). flow after (Some c.settle.new.self) next
    ≡ settles_echo k c.args.limit c.args.eff (flow (s w) c.args.echo.now next)) c.vars-v.ensures.value at)

pub returns-in-Failed-clause-over : goal.returns-in-Failed-clause-over
returns-in-Failed-clause-over c = λ reached. down_over c.args.limit c.fail.new.self.config c.fail.new.self.vars (Some c.settle.new.self)
    (ap (λ x. x.vars.state) c.fail.ensures.course
    ∙ moved_down c.args.p.now.config.discr c.args.eff 2 (course c.args.p.now.vars c.args.mark.now c.args.outs.now.items))
