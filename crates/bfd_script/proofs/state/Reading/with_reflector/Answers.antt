use Rattle.bfd_script.proofs.Common.{◌∙◌, sym, ap, is_full, is_taken}
use Rattle.bfd_script.proofs.Naming.{reading_reflector}
use Rattle.bfd_script.proofs.state.Reading.with_reflector.Goals as goal

-- the longer pool is apart from the sessions
pub invariant_of-result : goal.invariant_of-result
invariant_of-result c = reading_reflector c.args.reflector c.self.invariant
    c.in_ok-pool.ensures (c.is_taken.ensures ∙ ap (is_taken c.args.reflector.discr) (sym c.self.view_is)) c.if-is_taken.false
    (c.is_full.ensures ∙ ap is_full (sym c.self.view_is)) c.if-is_full.false
