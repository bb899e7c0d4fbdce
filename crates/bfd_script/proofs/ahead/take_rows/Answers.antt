use Rattle.bfd_script.proofs.FieldsCommon.{◌∙◌, ap, arith, length, length-drop}
use Rattle.bfd_script.proofs.Onward.{begins_in, behind_line, onward_from, refused_from, same_place_row}
use Rattle.bfd_script.proofs.ahead.take_rows.Goals as goal

pub returns-in-Err-clause-script : goal.returns-in-Err-clause-script
returns-in-Err-clause-script c live =
    let cut = c.in-Some.ensures.cases in
    let begins = begins_in c.loop-text.rest.now cut.0 (omega (arith, cut.2)) c.in-Some-point_at.ensures.near.1
    (c.in-Some-point_at.ensures.begins live) in
    refused_from c.args.reading.now c.loop-text.reading c.args.number c.loop-text.next c.args.bytes.now c.loop-text.rest.now c.in-Err.fault
    c.at.ensures (c.loop-text.invariant.0 live) begins c.loop-text.invariant.1 c.in-Err.ensures

pub loop-text-preserved : goal.loop-text-preserved
loop-text-preserved c =
    let cut = c.in-Some.ensures.cases in
    let near = c.in-Some-point_at.ensures.near in
    let behind = behind_line c.in-Some-point_at.used c.loop-text.rest.now in (
      λ live. onward_from c.args.reading.now c.loop-text.reading c.args.number c.loop-text.next c.args.bytes.now c.loop-text.rest.now _
          (c.loop-text.invariant.0 live)
          (begins_in c.loop-text.rest.now cut.0 (omega (arith, cut.2)) near.1 (c.in-Some-point_at.ensures.begins live))
          c.loop-text.invariant.1 c.in-Ok.ensures behind,
      same_place_row c.in-Some-point_at.config c.loop-text.reading c.in-Ok.ensures ∙ c.loop-text.invariant.1,
      omega (arith, c.loop-text.invariant.2, near.0, ap length behind, length-drop c.in-Some-point_at.used c.loop-text.rest.now),
      omega (arith, c.loop-text.invariant.3, ap length behind, length-drop c.in-Some-point_at.used c.loop-text.rest.now),
    )
