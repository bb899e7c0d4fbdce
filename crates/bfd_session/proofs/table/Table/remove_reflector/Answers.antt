-- The reflector that is found is taken out of the rows and the pool.
use Rattle.bfd_session.proofs.Common.{◌∙◌, ◌+◌, ap, sym}
use Rattle.std.specs.List.{remove}
use Rattle.bfd_session.specs.Tables.{members}
use Rattle.bfd_session.proofs.Changes.{pool_row_discr, reflector_absent, reflector_out, with_reflector_less}
use Rattle.bfd_session.proofs.table.Table.remove_reflector.Goals as goal

pub returns-in_default-clause-value : goal.returns-in_default-clause-value
returns-in_default-clause-value c = rw (← c.self.view_is)
    (sym (reflector_absent c.self.invariant c.args.discr (rw (← c.deref.ensures.value) (sym c.in_default.ensures))).1)

pub returns-in_default-clause-table : goal.returns-in_default-clause-table
returns-in_default-clause-table c = rw (← c.self.view_is)
    (ap (members c.self.inside.roster) (sym (reflector_absent c.self.invariant c.args.discr
    (rw (← c.deref.ensures.value) (sym c.in_default.ensures))).0))

pub remove-requires-clause-its : goal.remove-requires-clause-its
remove-requires-clause-its c = λ d.
    let out = reflector_out c.self.invariant c.args.discr c.in-Some.at (rw (← c.deref.ensures.value) (sym c.in-Some.ensures)) in
    rw c.len.ensures (pool_row_discr c.self.inside.roster c.self.inside.pool.items c.self.inside.demux c.in-Some.at c.args.discr
    c.self.invariant.rows_are out.0 out.1 d)

pub invariant_of-self : goal.invariant_of-self
invariant_of-self c =
    let out = reflector_out c.self.invariant c.args.discr c.in-Some.at (rw (← c.deref.ensures.value) (sym c.in-Some.ensures)) in
    with_reflector_less c.self.invariant c.args.discr c.in-Some.at out.0 out.1 c.remove-2.new.self.items c.remove.new.self
    c.remove-2.ensures.items
    (c.remove.ensures ∙ ap (λ n. remove c.self.inside.demux (n + c.in-Some.at)) c.len.ensures)

pub returns-clause-value : goal.returns-clause-value
returns-clause-value c =
    let out = reflector_out c.self.invariant c.args.discr c.in-Some.at (rw (← c.deref.ensures.value) (sym c.in-Some.ensures)) in
    rw (← c.self.view_is) (sym out.3)

pub returns-clause-table : goal.returns-clause-table
returns-clause-table c =
    let out = reflector_out c.self.invariant c.args.discr c.in-Some.at (rw (← c.deref.ensures.value) (sym c.in-Some.ensures)) in
    rw (← c.self.view_is) (ap (members c.self.inside.roster) (c.remove-2.ensures.items ∙ out.2))
