use Rattle.std.proofs.Common.{length, ap, arith}
use Rattle.bfd_lanes.specs.Held.{HeldIds}
use Rattle.bfd_levels.specs.Height.{Clocked}
use Rattle.bfd_shard_tests.proofs.levels.five.Goals as goal

pub advance-requires-clause-room : goal.advance-requires-clause-room
advance-requires-clause-room g c =
    let len = ap (λ (w : Clocked). length w.dues) c.advance_to_256.ensures.levels in
    let spare = ap (λ (h : HeldIds). h.spare) c.clear.ensures in
    let room = c.advance_to_256.ensures.room in
    omega arith
