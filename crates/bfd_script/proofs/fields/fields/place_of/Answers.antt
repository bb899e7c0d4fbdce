use Rattle.bfd_script.proofs.FieldsCommon.{arith}
use Rattle.bfd_script.proofs.Cuts.{in_neither, near}
use Rattle.bfd_script.proofs.fields.fields.place_of.Goals as goal

pub returns-then-place-lt-RUN : goal.returns-then-place-lt-RUN
returns-then-place-lt-RUN c = near c.args.byte c.args.text.now _ 32 _ c.in-Some.ensures.cases.0 c.place_in_run-place.ensures (omega arith)

pub returns-then-is_absent_at_end : goal.returns-then-is_absent_at_end
returns-then-is_absent_at_end c = in_neither c.args.byte c.args.text.now (omega (arith, c.in-Some.ensures.cases.2))
    (omega (arith, c.if-text.true)) c.in-Some.ensures.cases.0
    (omega (arith, c.place_in_run-place.ensures, c.if-place-lt-RUN.false)) (c.is_absent_at_end.ensures c.if-is_absent_at_end.true)
