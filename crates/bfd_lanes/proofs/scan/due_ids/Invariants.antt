use Rattle.std.proofs.Common.{◌≡◌, ◌+◌, ◌*◌, ◌≤◌, ◌++◌, map, drop}
use Rattle.bfd_num.specs.Due.{has_come}
use Rattle.bfd_lanes.specs.Places.{due_of, places, come}
use Rattle.bfd_lanes.specs.Held.{room_of}
use Rattle.bfd_lanes.proofs.scan.due_ids.Given as goal

abbrev pub invariant-loop-block : goal.invariant-loop-block
invariant-loop-block l = record {
  items : l.out.items ++ places (has_come l.t) (8 * l.block) (map due_of (drop (8 * l.block) l.dues)) ≡ l.initial.out.items
      ++ come l.t (map due_of l.dues);
  room : room_of l.out ≡ room_of l.initial.out;
  spare : l.initial.out.spare ≤ l.out.spare + 8 * l.block;
}
