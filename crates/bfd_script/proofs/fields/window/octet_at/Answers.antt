use Rattle.bfd_script.proofs.FieldsCommon.{arith, ◌+◌}
use Rattle.bfd_script.proofs.Windowed.{number_ends, number_more, number_one}
use Rattle.bfd_script.proofs.fields.window.octet_at.Goals as goal

pub returns-then-text-at-2-clause-says : goal.returns-then-text-at-2-clause-says
returns-then-text-at-2-clause-says c some =
    let one = number_one c.args.text.now c.args.at (omega (arith, c.told-text, c.requires)) c.if-a-gt9.false
    (c.figure-a.ensures c.if-a-gt9.false) in
    let two = number_more (c.args.at + 2) (omega arith) one (omega (arith, c.if-a-eq0.false)) (omega (arith, c.told-text, c.requires)) c.if-b-gt9.false
    (c.figure-b.ensures c.if-b-gt9.false) in
    number_ends (c.args.at + 3) (omega arith) two (omega (arith, c.told-text, c.requires)) c.if-text-at-2.true (omega arith)
    (omega (arith, c.if-a-gt9.false, c.if-b-gt9.false))

pub returns-clause-says : goal.returns-clause-says
returns-clause-says c some =
    let one = number_one c.args.text.now c.args.at (omega (arith, c.told-text, c.requires)) c.if-a-gt9.false
    (c.figure-a.ensures c.if-a-gt9.false) in
    let two = number_more (c.args.at + 2) (omega arith) one (omega (arith, c.if-a-eq0.false)) (omega (arith, c.told-text, c.requires)) c.if-b-gt9.false
    (c.figure-b.ensures c.if-b-gt9.false) in
    let three = number_more (c.args.at + 3) (omega arith) two (omega (arith, c.if-a-eq0.false)) (omega (arith, c.told-text, c.requires)) c.if-c-gt9.false
    (c.figure-c.ensures c.if-c-gt9.false) in
    number_ends (c.args.at + 4) (omega arith) three (omega (arith, c.told-text, c.requires)) c.if-text-at-3.false (omega arith) c.if-n-gt255.false
