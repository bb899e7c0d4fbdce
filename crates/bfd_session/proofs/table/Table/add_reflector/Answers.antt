-- The rows are those of the reflectors again: with the new one, or as they were.
use Rattle.bfd_session.proofs.Common.{◌≡◌, ◌≤◌, ◌∙◌, ◌+◌, ap, arith, subst, length, None, Row}
use Rattle.std.specs.List.{insert, remove}
use Rattle.bfd_demux.specs.Rows.{add_fault}
use Rattle.bfd_session.specs.Changes.{pool_place_for}
use Rattle.bfd_session.proofs.Changes.{table_long, taken_out, with_reflector_more}
use Rattle.bfd_session.proofs.table.Table.add_reflector.Goals as goal

pub invariant_of-self-in-Ok : goal.invariant_of-self-in-Ok
invariant_of-self-in-Ok c =
    with_reflector_more c.self.invariant c.args.reflector c.pool_place_for-at.result
    (c.pool_place_for-at.ensures.value ∙ ap (pool_place_for c.args.reflector.discr) c.deref.ensures.value)
    (rw (← c.deref.ensures.value) c.pool_place_for-at.ensures.within)
    (subst (λ (row : Row). add_fault row c.self.inside.demux ≡ None) c.row_of_reflector.ensures c.in_ok-add.ensures.fault)
    c.insert.new.self.items c.add.new.self c.in-Ok.ensures.items
    (c.in_ok-add.ensures.table ∙ ap (λ n. insert c.self.inside.demux (n + c.pool_place_for-at.result) c.row_of_reflector.result)
    c.len.ensures
    ∙ ap (λ (row : Row). insert c.self.inside.demux (length c.self.inside.roster + c.pool_place_for-at.result) row)
    c.row_of_reflector.ensures)

pub invariant_of-self-in-Err : goal.invariant_of-self-in-Err
invariant_of-self-in-Err c =
    let at_most : c.pool_place_for-at.result ≤ length c.self.inside.pool.items =
    rw (← c.deref.ensures.value) c.pool_place_for-at.ensures.within in
    let within : c.len.result + c.pool_place_for-at.result ≤ length c.self.inside.demux =
    omega (arith, c.len.ensures, table_long c.self.invariant) in
    let back : c.remove.new.self ≡ c.self.inside.demux =
    c.remove.ensures ∙ ap (λ rows. remove rows (c.len.result + c.pool_place_for-at.result)) c.in_ok-add.ensures.table
    ∙ taken_out c.self.inside.demux (c.len.result + c.pool_place_for-at.result) c.row_of_reflector.result within in
    rw (back, c.in-Err.ensures.items) c.self.invariant
