-- The queues so far, and those that are left, which stand in reverse.
use Rattle.bfd_replay.proofs.PlanCommon.{◌≡◌, ◌++◌, length, map, reverse, behind}
use Rattle.bfd_replay.proofs.plan.queues.push_pieces.Given as goal

abbrev pub invariant-queues : goal.invariant-queues
invariant-queues l = record {
  long : length (reverse l.left.items) ≡ length (reverse l.more.items);
  done : l.done.items ++ behind (reverse l.left.items) (map (λ piece. piece.items) (reverse l.more.items))
      ≡ behind l.fn.queues.items (map (λ piece. piece.items) l.fn.pieces.items);
}

abbrev pub decreases-queues : goal.decreases-queues
decreases-queues l = length l.left.items
