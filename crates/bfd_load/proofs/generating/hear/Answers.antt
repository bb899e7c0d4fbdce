-- One more session has heard its packet.
use Rattle.std.proofs.Common.{arith}
use Rattle.bfd_load.proofs.Hearing.{first, heard_one}
use Rattle.bfd_load.proofs.generating.hear.Goals as goal

pub loop-i-init : goal.loop-i-init
loop-i-init c = record {
  place = omega (arith, c.requires.some);
  whole = cc (first c.args.sessions c.requires.some);
}

pub loop-i-preserved : goal.loop-i-preserved
loop-i-preserved c = record {
  place = omega (arith, c.loop-i.invariant.place);
  whole = heard_one c.args.t c.loop-i.events.items c.loop-i-test.true c.loop-i.invariant.place c.loop-i.invariant.whole
      c.in_ok-hear_one.ensures;
}
