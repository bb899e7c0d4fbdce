-- A block with none that has come is passed over.
use Rattle.bfd_lanes.proofs.Scanned.{none_in_block}
use Rattle.bfd_lanes.proofs.scan.scan_block.Goals as goal

pub returns-else-not-none_come-clause-items : goal.returns-else-not-none_come-clause-items
returns-else-not-none_come-clause-items c =
    cc (none_in_block _ _ c.args.dues.now c.requires.block c.requires.tick (c.none_come.ensures c.if-not-none_come.false))
