-- The session at the place is the one that is found.
use Rattle.std.proofs.Common.{◌∙◌, sym}
use Rattle.std.proofs.lemmas.Bool.{eqb-true}
use Rattle.bfd_c.proofs.Finding.{found, there}
use Rattle.bfd_c.proofs.records.noting.stands_at.Goals as goal

pub returns-in-Some-clause-found : goal.returns-in-Some-clause-found
returns-in-Some-clause-found c is =
    let l = c.in-Some.ensures.lookup in
    found c.args.sessions.now c.args.place c.args.discr c.in-Some.seat.now c.requires
    (there c.args.sessions.now c.args.place c.in-Some.seat.now l.0 l.1)
    (sym (rw c.session.ensures at c.discr.ensures) ∙ eqb-true c.discr.result c.args.discr is)
