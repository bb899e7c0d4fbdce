use Rattle.bfd_script.proofs.FieldsCommon.{◌==◌, arith}
use Rattle.bfd_script.proofs.Cuts.{two_parts}
use Rattle.bfd_script.proofs.Marks.{later, placed}
use Rattle.bfd_script.proofs.fields.fields.cut_marked.Goals as goal

pub split_at-requires : goal.split_at-requires
split_at-requires c = omega (
  arith,
  (placed 32 c.args.text.now c.requires.some c.requires.within c.requires.few c.requires.marks).1,
  c.requires.within,
)

pub split_at-requires-2 : goal.split_at-requires-2
split_at-requires-2 c = omega (
  arith,
  (placed 32 c.args.text.now c.requires.some c.requires.within c.requires.few c.requires.marks).1,
  c.requires.within,
)

pub returns-clause-cut : goal.returns-clause-cut
returns-clause-cut c =
    let at = placed 32 c.args.text.now c.requires.some c.requires.within c.requires.few c.requires.marks in
    rw (c.split_at.ensures.front, c.split_at-2.ensures.back) (two_parts 32 c.args.text.now at.0 (omega (arith, at.1, c.requires.within))).0

pub returns-clause-marked : goal.returns-clause-marked
returns-clause-marked c =
    omega (
      arith,
      (placed 32 c.args.text.now c.requires.some c.requires.within c.requires.few c.requires.marks).1,
      c.split_at.ensures.front_len,
    )

pub returns-clause-marks : goal.returns-clause-marks
returns-clause-marks c =
    cc (later (λ other. other == 32) c.args.text.now
    (placed 32 c.args.text.now c.requires.some c.requires.within c.requires.few c.requires.marks).1)
