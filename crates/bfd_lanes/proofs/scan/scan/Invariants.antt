use Rattle.std.proofs.Common.{◌≡◌, ◌+◌, ◌≤◌, ◌++◌, map, drop}
use Rattle.bfd_num.specs.Due.{has_come}
use Rattle.bfd_lanes.specs.Places.{due_of, places}
use Rattle.bfd_lanes.specs.Held.{room_of}
use Rattle.bfd_lanes.proofs.scan.scan.Given as goal

-- what was appended, and what is left to come, are what there was to come
abbrev pub invariant-loop-at : goal.invariant-loop-at
invariant-loop-at l = record {
  items : l.out.items ++ places (has_come l.t) l.at (map due_of (drop l.at l.dues)) ≡ l.initial.out.items
      ++ places (has_come l.t) l.from (map due_of (drop l.from l.dues));
  room : room_of l.out ≡ room_of l.initial.out;
  spare : l.initial.out.spare + l.from ≤ l.out.spare + l.at;
}
