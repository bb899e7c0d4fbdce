-- One more number.
use Rattle.bfd_engine.proofs.Common.{arith, ◌∷◌, [], length-append}
use Rattle.bfd_engine.proofs.States.{number_more}
use Rattle.bfd_engine.proofs.making.numbers_below.Goals as goal

pub loop-number-preserved : goal.loop-number-preserved
loop-number-preserved c =
    let i = c.loop-number.invariant in
    record {
      long = rw c.in_ok-push.ensures.items (omega (arith, length-append c.loop-number.all.items (c.loop-number.number ∷ []), i.long));
      each = rw c.in_ok-push.ensures.items (number_more c.loop-number.all.items c.loop-number.number i.long i.each);
    }
