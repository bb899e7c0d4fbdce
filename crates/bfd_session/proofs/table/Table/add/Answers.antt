-- The rows are those of the sessions again: with the new one, or as they were.
use Rattle.bfd_session.proofs.Common.{◌≡◌, ◌≤◌, ◌∙◌, ap, arith, subst, length, None, Row}
use Rattle.std.specs.List.{insert, remove}
use Rattle.bfd_demux.specs.Rows.{add_fault}
use Rattle.bfd_session.specs.Changes.{place_for}
use Rattle.bfd_session.proofs.Changes.{table_long, taken_out, with_session_more}
use Rattle.bfd_session.proofs.table.Table.add.Goals as goal

pub invariant_of-self-in-Ok : goal.invariant_of-self-in-Ok
invariant_of-self-in-Ok c =
    with_session_more c.self.invariant c.args.config.now c.place_for-place.result
    (c.place_for-place.ensures.value ∙ ap (λ d. place_for d c.self.inside.roster) c.discr.ensures) c.place_for-place.ensures.within
    (subst (λ (row : Row). add_fault row c.self.inside.demux ≡ None) c.row_of.ensures c.in_ok-add.ensures.fault)
    c.insert.new.self c.add.new.self c.in-Ok.ensures
    (c.in_ok-add.ensures.table ∙ ap (λ (row : Row). insert c.self.inside.demux c.place_for-place.result row) c.row_of.ensures)

pub invariant_of-self-in-Err : goal.invariant_of-self-in-Err
invariant_of-self-in-Err c =
    let within : c.place_for-place.result ≤ length c.self.inside.demux =
    omega (arith, c.place_for-place.ensures.within, table_long c.self.invariant) in
    let back : c.remove.new.self ≡ c.self.inside.demux =
    c.remove.ensures ∙ ap (λ rows. remove rows c.place_for-place.result) c.in_ok-add.ensures.table
    ∙ taken_out c.self.inside.demux c.place_for-place.result c.row_of.result within in
    rw (back, c.in-Err.ensures) c.self.invariant
