-- A point-to-point session's due tick is that of its parts, whatever number comes next.
use Rattle.bfd_session.proofs.Common.{◌∙◌, sym, ap, due, running_of}
use Rattle.bfd_session.proofs.session.Session.due.Goals as goal

pub returns-in-PointToPoint-clause-value : goal.returns-in-PointToPoint-clause-value
returns-in-PointToPoint-clause-value c = c.due_tick.ensures.value c.in-PointToPoint.field-2
    ∙ (ap (λ m. due (running_of m)) (sym c.in-PointToPoint.is) ∙ ap due c.self.view_is)
