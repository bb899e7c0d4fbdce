-- If a packet with F reports the state, nothing more is reported; and a packet with nothing new leaves a sound session.
use Rattle.bfd_session.proofs.Common.{◌≡◌, ◌≤◌, ◌+◌, ℕ, Bool, true, false, refl, arith}
use Rattle.bfd_session.proofs.point.runs.Goals as goal

within : (answered : Bool) {old settled acted : ℕ} (finished : ℕ) → old ≤ settled + 3 → (answered ≡ false → settled ≤ acted + 1)
    → settled ≤ acted + 2 → (answered ≡ true → finished ≡ acted) → acted ≤ finished + 1 → old ≤ finished + 5
within true finished a one two none more = omega (arith, a, two, none refl)
within false finished a one two none more = omega (arith, a, one refl, more)

pub returns-clause-spare : goal.returns-clause-spare
returns-clause-spare c = within c.acts-answer.new.mark.answered c.finishes.new.outs.spare
    c.settles.ensures.spare c.acts-answer.ensures.unanswered c.acts-answer.ensures.spare c.finishes.ensures.answered
    c.finishes.ensures.spare

pub returns-then-hears_again-clause-sound : goal.returns-then-hears_again-clause-sound
returns-then-hears_again-clause-sound c = c.if-hears_again.ensures.sound refl c.args.next.now
