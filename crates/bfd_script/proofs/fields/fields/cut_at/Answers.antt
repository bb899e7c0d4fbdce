use Rattle.bfd_script.proofs.FieldsCommon.{arith}
use Rattle.bfd_script.proofs.Cuts.{one_part, two_parts}
use Rattle.bfd_script.proofs.fields.fields.cut_at.Goals as goal

pub returns-then-place-text : goal.returns-then-place-text
returns-then-place-text c = one_part c.args.byte c.args.text.now c.place_of-place.ensures (omega arith)

pub returns : goal.returns
returns c =
    let parts = two_parts c.args.byte c.args.text.now c.place_of-place.ensures (omega arith) in
    rw c.split_at.ensures.back parts
