use Rattle.bfd_wheel.proofs.Common.{◌≡◌, ◌≤◌, length, Took, waiting, IsWheel, room_of}
use Rattle.bfd_wheel.proofs.Swept.{Left}
use Rattle.bfd_wheel.proofs.take.sweep.Given as goal

abbrev pub invariant-loop-tick : goal.invariant-loop-tick
invariant-loop-tick l = record {
  wheel : IsWheel (length l.initial.dues) l.now l.dues l.nodes;
  took : Took l.t l.initial.dues l.dues l.initial.out.items l.out.items;
  left : Left (length l.initial.dues) l.now l.t l.tick l.dues;
  room : room_of l.out ≡ room_of l.initial.out;
  spare : waiting l.t l.dues ≤ l.out.spare;
}
