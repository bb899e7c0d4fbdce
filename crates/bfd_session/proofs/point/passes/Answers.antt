-- A tick that sends the periodic packet alone leaves a sound session.
use Rattle.std.proofs.Common.{refl}
use Rattle.bfd_session.proofs.point.passes.Goals as goal

pub returns-then-beats-clause-sound : goal.returns-then-beats-clause-sound
returns-then-beats-clause-sound c = c.if-beats.ensures.sound refl c.args.next.now
