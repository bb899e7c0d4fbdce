-- A kind without addresses is like none.
use Rattle.bfd_demux.proofs.Common.{sym, ◌∙◌}
use Rattle.bfd_demux.specs.contracts.row.RowKindOrd.TheImpl as kind_order
use Rattle.bfd_demux.proofs.Indexing.{addresses_known, known_by, unaddressed_rows}
use Rattle.bfd_demux.proofs.demux.Demux.has_addresses.Goals as goal

pub returns-then-has_addresses : goal.returns-then-has_addresses
returns-then-has_addresses c = rw (← c.self.view_is)
    (known_by kind_order.ghosts.cmp c.args.kind.now c.as_slice.ensures.value c.has_key.ensures
    ∙ addresses_known c.self.invariant c.args.kind.now (sym c.if-has_addresses.ensures))

pub returns-else-has_addresses : goal.returns-else-has_addresses
returns-else-has_addresses c = c.if-has_addresses.false
    ∙ sym (unaddressed_rows c.args.kind.now c.args.self.now (sym c.if-has_addresses.ensures))
