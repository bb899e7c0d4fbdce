-- Each test finds what the definition says, in its order.
use Rattle.bfd_demux.proofs.Common.{arith}
use Rattle.bfd_demux.proofs.Indexing.{reported_many, reported_zero, reported_discr, reported_addresses, reported_none, few_rows, many_rows}
use Rattle.bfd_demux.proofs.demux.Demux.fault_with.Goals as goal

pub returns-then-len-ge-MOST_ROWS : goal.returns-then-len-ge-MOST_ROWS
returns-then-len-ge-MOST_ROWS c = reported_many c.args.row.now c.args.self.now
    (rw (← c.self.view_is) (many_rows c.self.invariant c.len.result (omega (arith, c.len.ensures, c.self.inside.names.ok.0))
    c.if-len-ge-MOST_ROWS.true))

pub returns-then-row-eq0 : goal.returns-then-row-eq0
returns-then-row-eq0 c = reported_zero c.args.row.now c.args.self.now
    (rw (← c.self.view_is) (few_rows c.self.invariant c.len.result (omega (arith, c.len.ensures, c.self.inside.names.ok.0))
    c.if-len-ge-MOST_ROWS.false))
    c.if-row-eq0.true

pub returns-then-has_discr : goal.returns-then-has_discr
returns-then-has_discr c = reported_discr c.args.row.now c.args.self.now
    (rw (← c.self.view_is) (few_rows c.self.invariant c.len.result (omega (arith, c.len.ensures, c.self.inside.names.ok.0))
    c.if-len-ge-MOST_ROWS.false))
    c.if-row-eq0.false c.if-has_discr.ensures

pub returns-then-has_addresses : goal.returns-then-has_addresses
returns-then-has_addresses c = reported_addresses c.args.row.now c.args.self.now
    (rw (← c.self.view_is) (few_rows c.self.invariant c.len.result (omega (arith, c.len.ensures, c.self.inside.names.ok.0))
    c.if-len-ge-MOST_ROWS.false))
    c.if-row-eq0.false c.if-has_discr.ensures c.if-has_addresses.ensures

pub returns : goal.returns
returns c = reported_none c.args.row.now c.args.self.now
    (rw (← c.self.view_is) (few_rows c.self.invariant c.len.result (omega (arith, c.len.ensures, c.self.inside.names.ok.0))
    c.if-len-ge-MOST_ROWS.false))
    c.if-row-eq0.false c.if-has_discr.ensures c.if-has_addresses.ensures
