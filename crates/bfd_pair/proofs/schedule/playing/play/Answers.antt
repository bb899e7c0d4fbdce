-- At the start nothing was played.
use Rattle.bfd_pair.proofs.Played.{starts}
use Rattle.bfd_pair.proofs.schedule.playing.play.Goals as goal

pub loop-e-init : goal.loop-e-init
loop-e-init c = record {
  played = starts c.in_ok-pair.ensures;
  room = cc (c.in_ok-outs.ensures);
}
