use Rattle.bfd_wheel.proofs.Common.{◌≡◌, ◌≤◌, length, Took, waiting, room_of}
use Rattle.bfd_wheel.proofs.Walk.{IsWalk}
use Rattle.bfd_wheel.proofs.take.collect.Given as goal

abbrev pub invariant-loop : goal.invariant-loop
invariant-loop l = record {
  walk : IsWalk (length l.initial.dues) l.now l.head l.t l.dues l.nodes l.cur l.counter;
  took : Took l.t l.initial.dues l.dues l.initial.out.items l.out.items;
  room : room_of l.out ≡ room_of l.initial.out;
  spare : waiting l.t l.dues ≤ l.out.spare;
}
