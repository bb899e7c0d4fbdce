use Rattle.std.proofs.Common.{◌+◌, ◌++◌, ◌≤◌, ◌∙◌, ap, arith, drop, length, rules, take}
use Rattle.std.proofs.lemmas.List.{length-take, length-take-le, take-append-le}
use Rattle.bfd_script.specs.Continued.{told_with}
use Rattle.bfdd.specs.Text.{most_bytes}
use Rattle.bfdd.proofs.Taking.{read_more, read_past, taken_more}
use Rattle.bfdd.proofs.job.input.read_to_end.Goals as goal

-- the bytes so far, and those of the last piece
pub returns-in-Err-clause-at_most : goal.returns-in-Err-clause-at_most
returns-in-Err-clause-at_most g c =
    let taken = c.pieces.invariant.1 in
    read_more (most_bytes + 1) _ _ _ taken.bytes (take c.in-Ok.more c.read.new.buf) taken.read c.in-Ok.ensures.bytes.0
    (omega (arith, taken.long, length-take c.in-Ok.more c.read.new.buf, c.read.auto.buf, length-take c.min-room.result c.pieces.buf))

pub returns-then-count-gt-MOST_BYTES-clause-at_most : goal.returns-then-count-gt-MOST_BYTES-clause-at_most
returns-then-count-gt-MOST_BYTES-clause-at_most g c =
    let taken = c.pieces.invariant.1 in
    read_more (most_bytes + 1) _ _ _ taken.bytes (take c.in-Ok.more c.read.new.buf) taken.read c.in-Ok.ensures.bytes.0
    (omega (arith, taken.long, length-take c.in-Ok.more c.read.new.buf, c.read.auto.buf, length-take c.min-room.result c.pieces.buf))

pub returns-then-count-gt-MOST_BYTES-clause-too_large : goal.returns-then-count-gt-MOST_BYTES-clause-too_large
returns-then-count-gt-MOST_BYTES-clause-too_large g c is =
    let taken = c.pieces.invariant.1 in
    let inside : c.in-Ok.more ≤ length c.read.new.buf = search rules in
    read_past most_bytes _ _ _ taken.bytes (take c.in-Ok.more c.read.new.buf) taken.read c.in-Ok.ensures.bytes.0
    (omega (arith, taken.long, length-take-le c.in-Ok.more c.read.new.buf inside, c.if-count-gt-MOST_BYTES.true))

pub pieces-preserved : goal.pieces-preserved
pieces-preserved g c =
    let inside : c.in-Ok.more ≤ length c.read.new.buf = search rules in
    let same = take-append-le c.in-Ok.more c.read.new.buf (drop c.min-room.result c.pieces.buf) inside in (
      search rules,
      taken_more c.args.live _ _ _ c.pieces.count c.in-Ok.more c.pieces.reader c.take.new.self (take c.in-Ok.more c.read.new.buf)
          c.pieces.invariant.1 c.in-Ok.ensures.bytes.0 (search rules) (search rules)
          (λ rest. c.in-Ok-take.ensures.told rest ∙ ap (λ piece. told_with c.pieces.reader (piece ++ rest)) same),
      search rules,
    )
