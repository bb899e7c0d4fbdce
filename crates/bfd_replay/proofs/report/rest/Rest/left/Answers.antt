-- All text is that of the marks.
use Rattle.bfd_replay.proofs.Alone.{texts_at}
use Rattle.bfd_replay.proofs.report.rest.Rest.left.Goals as goal

pub returns : goal.returns
returns c = cc (texts_at c.self.inside.marks.now c.self.inside.text.now c.self.invariant.whole, c.self.view_is)
