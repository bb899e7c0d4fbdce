-- All text and all packets.
use Rattle.bfd_replay.proofs.Alone.{texts_at, txs_at, drops_at}
use Rattle.bfd_replay.proofs.report.part.Part.take_all.Goals as goal

pub returns-clause-text : goal.returns-clause-text
returns-clause-text c =
    cc (c.in_ok-hand_over.ensures.text, texts_at c.self.inside.marks.items c.self.inside.text.items c.self.invariant.whole, c.self.view_is)

pub returns-clause-txs : goal.returns-clause-txs
returns-clause-txs c = cc (txs_at c.self.inside.marks.items c.self.inside.text.items, c.self.view_is)

pub returns-clause-drops : goal.returns-clause-drops
returns-clause-drops c = cc (drops_at c.self.inside.marks.items c.self.inside.text.items, c.self.view_is)
