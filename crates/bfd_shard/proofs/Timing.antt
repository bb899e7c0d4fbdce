-- An event leaves sessions with their timers.
use Rattle.bfd_shard.proofs.Common.{◌≡◌, ◌≤◌, ℕ, List, length, map, ap, arith, Option, AllByRecursion, greatest_tick, HeldIds, room_of, due}
use Rattle.bfd_shard.proofs.Common.{Running, IsSound, ShardEvent, moved}
use Rattle.bfd_shard.specs.Sessions.{IsTimed}
use Rattle.bfd_shard.proofs.Runs.{moved_long}

-- what the event leaves
pub timed : (last last2 : ℕ) (event : ShardEvent) (ss ss2 : List Running) {ds ds2 : List (Option ℕ)} {ids ids2 : HeldIds}
    → IsTimed ss last ds ids
    → last2 ≤ greatest_tick → ss2 ≡ moved last event ss → AllByRecursion IsSound ss2 → ds2 ≡ map due ss2 → room_of ids2 ≡ room_of ids
    → IsTimed ss2 last2 ds2 ids2
timed last last2 event ss ss2 t early m sound dues fit = record {
  few = omega (arith, t.few, ap length m, moved_long last event ss);
  early = early;
  sound = sound;
  timed = dues;
  ids_fit = omega (arith, t.ids_fit, fit, ap length m, moved_long last event ss);
}
