-- The session that is found is taken out of the rows and the roster.
use Rattle.bfd_session.proofs.Common.{◌∙◌, ap, sym}
use Rattle.bfd_session.specs.Tables.{members}
use Rattle.bfd_session.proofs.Changes.{session_absent, session_out, session_row_discr, with_session_less}
use Rattle.bfd_session.proofs.table.Table.remove.Goals as goal

pub returns-in_err-place-clause-table : goal.returns-in_err-place-clause-table
returns-in_err-place-clause-table c = rw (← c.self.view_is)
    (ap (λ cs. members cs c.self.inside.pool.items)
    (sym (session_absent c.self.invariant c.args.discr (sym c.place_of.ensures ∙ c.in_err-place.was))))

pub remove-requires-clause-its : goal.remove-requires-clause-its
remove-requires-clause-its c =
    let out = session_out c.self.invariant c.args.discr c.in_ok-place.place (sym c.place_of.ensures ∙ c.in_ok-place.was) in
    session_row_discr c.self.inside.roster c.self.inside.pool.items c.self.inside.demux c.in_ok-place.place c.args.discr
    c.self.invariant.rows_are out.0 out.1

pub invariant_of-self : goal.invariant_of-self
invariant_of-self c =
    let out = session_out c.self.invariant c.args.discr c.in_ok-place.place (sym c.place_of.ensures ∙ c.in_ok-place.was) in
    with_session_less c.self.invariant c.args.discr c.in_ok-place.place out.0 out.1 c.remove-2.new.self c.remove.new.self c.remove-2.ensures
    c.remove.ensures

pub returns-clause-table : goal.returns-clause-table
returns-clause-table c =
    let out = session_out c.self.invariant c.args.discr c.in_ok-place.place (sym c.place_of.ensures ∙ c.in_ok-place.was) in
    rw (← c.self.view_is) (ap (λ cs. members cs c.self.inside.pool.items) (c.remove-2.ensures ∙ out.2))
