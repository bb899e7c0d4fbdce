-- A machine at the end of an event, as a session.
use Rattle.bfd_session.proofs.Common.{◌≡◌, ℕ, Option, None, Some, ap, ◌∙◌, List, Out, Echo, Event, point_of, Running, Flow}
use Rattle.bfd_session.proofs.Common.{left_by, settled, acted, finished, begun, step, stepped_flow, answer_of, reply, tick, ticked_flow}
use Rattle.bfd_p2p.specs.Machine as point
use Rattle.bfd_session.proofs.Front.{ahead, step-from, tick-from, reply_law}

-- a session by its parts, with another's configuration
running : {s t : Running} → s.config ≡ t.config → s.vars ≡ t.vars → s.echo ≡ t.echo → s.echo_next ≡ t.echo_next → s ≡ t
running {s} {t} config vars echo number = ap (λ c. record s { config = c }) config ∙ ap (λ v. record s { config = t.config; vars = v }) vars
    ∙ ap (λ e. record s { config = t.config; vars = t.vars; echo = e }) echo ∙ ap (λ n. record t { echo_next = n }) number

pub point_with : (m : point.Machine) {n : point.Machine} (old : Option Echo) {new : Option Echo} (before : ℕ) {after : ℕ} (f : Flow)
    → n.config ≡ m.config → n.vars ≡ f.course.vars → new ≡ f.echo → after ≡ f.echo_next
    → point_of n new after ≡ left_by f (point_of m old before)
point_with m old before f config vars echo number = running (cc) vars echo number

-- the parts of an event, one behind the other, are the event

pub stepped : (s s1 s2 : Running) (eff : ℕ) (event : Event) (os : List Out) {f g : Flow} → s1.config ≡ s.config → s2.config ≡ s1.config
    → f ≡ settled s.config eff eff (begun (Some eff) s os) → g ≡ acted s1.config eff event f
    → finished s2.config eff g ≡ ahead os (stepped_flow eff event s)
unfolding step
stepped s s1 s2 eff event os {f} {g} settling acting settles acts = ap (λ c. finished c eff g) (acting ∙ settling)
    ∙ ap (λ h. finished s.config eff h) (acts ∙ (ap (λ c. acted c eff event f) settling ∙ ap (λ h. acted s.config eff event h) settles))
    ∙ step-from s eff event os

pub ticked : (s s1 : Running) (limit eff : ℕ) (os : List Out) {f : Flow} → s1.config ≡ s.config
    → f ≡ settled s.config limit eff (begun None s os) → finished s1.config eff f ≡ ahead os (ticked_flow limit eff s)
unfolding tick
ticked s s1 limit eff os {f} settling settles = ap (λ c. finished c eff f) settling ∙ ap (λ h. finished s.config eff h) settles
    ∙ tick-from s limit eff os

pub answered : (s s1 : Running) (eff : ℕ) (event : Event) (os : List Out) {f : Flow} → s1.config ≡ s.config
    → f ≡ settled s.config eff eff (begun (Some eff) s os) → answer_of s1.config event f ≡ reply eff event s
answered s s1 eff event os {f} settling settles = ap (λ c. answer_of c event f) settling
    ∙ ap (λ h. answer_of s.config event h) settles ∙ reply_law s eff event os

-- the outputs before it change nothing of the session that it leaves
pub left_as : (s t : Running) (os : List Out) (h : Flow) {f : Flow} → t.config ≡ s.config → f ≡ ahead os h → left_by f t ≡ left_by h s
left_as s t os h same is = ap (λ k. left_by k t) is ∙ ap (λ c. record (left_by h s) { config = c }) same
