-- The outputs so far were moved, and there is room for the rest.
use Rattle.bfd_instance.proofs.Common.{◌≡◌, ◌+◌, ◌++◌, length}
use Rattle.bfd_instance.proofs.room.move_all.Given as goal

abbrev pub invariant-loop-out : goal.invariant-loop-out
invariant-loop-out l = record {
  whole : l.yielded ++ l.out-iterator.rest.items ≡ l.fn.list.items;
  moved : l.outs.items ≡ l.initial.outs.items ++ l.yielded;
  spare : l.outs.spare + length l.yielded ≡ l.initial.outs.spare;
  room : l.outs.room ≡ l.initial.outs.room;
}
