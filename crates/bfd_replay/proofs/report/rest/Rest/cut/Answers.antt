-- The front and the back are the two pieces of the part.
use Rattle.bfd_replay.proofs.Seams.{cut_is, stops_at, stops_behind}
use Rattle.bfd_replay.proofs.report.rest.Rest.cut.Goals as goal
use Rattle.bfd_replay.proofs.report.rest.Rest.cut.Goals.{then-below-test+else-rank, else-below-test}

pub returns : goal.returns
returns c = elim c.below-test.branch [
  | then-below-test+else-rank w ↦ cut_is c.below.count c.below.long c.self.inside.marks.now c.self.inside.text.now c.self.invariant
      c.self.view_is c.below.invariant.long_is c.below.invariant.low
      (stops_at c.self.inside.marks.now c.below.count _ w.below-test.true w.if-rank.false w.rank.ensures) c.split_at.ensures.front
      c.split_at.ensures.back c.split_at-2.ensures.front c.split_at-2.ensures.back
  | else-below-test w ↦ cut_is c.below.count c.below.long c.self.inside.marks.now c.self.inside.text.now c.self.invariant c.self.view_is
      c.below.invariant.long_is c.below.invariant.low
      (stops_behind c.args.rank c.self.inside.marks.now c.below.count w.below-test.false) c.split_at.ensures.front c.split_at.ensures.back
      c.split_at-2.ensures.front c.split_at-2.ensures.back
]
