use Rattle.bfd_script.proofs.FieldsCommon.{eqb, sym, ap, ◌∙◌, arith, w8, bitmask_splat, leading_from_mask_l, trailing_mask_l}
use Rattle.bfd_script.proofs.FieldsCommon.{count_trailing_zeros}
use Rattle.bfd_script.proofs.fields.fields.place_in_run.Goals as goal

-- no lane is marked
pub returns-then-marks-eq0 : goal.returns-then-marks-eq0
returns-then-marks-eq0 c =
    sym (leading_from_mask_l (λ other. eqb other c.args.byte) c.args.run.now
    (cc ((bitmask_splat w8 eqb c.args.run.now 32 c.args.byte c.told-run (omega arith)))) ∙ c.told-run)

-- the lowest marked lane is the first
pub returns-else-marks-eq0 : goal.returns-else-marks-eq0
returns-else-marks-eq0 c =
    let marks = bitmask_splat w8 eqb c.args.run.now 32 c.args.byte c.told-run (omega arith) in
    ap (count_trailing_zeros 64) marks ∙ trailing_mask_l (λ other. eqb other c.args.byte) 64 c.args.run.now (omega arith) (omega arith)
