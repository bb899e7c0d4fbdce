-- The mask of the comparison is empty, so no lane passes it.
use Rattle.std.proofs.Common.{nat_le, take, drop, sym, ◌∙◌, w64, arith}
use Rattle.std.proofs.lemmas.Simd.{bitmask_splat, none_from_empty_mask, length-chunk}
use Rattle.std.proofs.lemmas.Bool.{eqb-true}
use Rattle.bfd_lanes.proofs.block.none_come.Goals as goal

pub returns : goal.returns
returns c = λ e. none_from_empty_mask (λ d. nat_le d c.args.t) c.args.dues.now c.args.at 8 0 c.requires
    (sym (bitmask_splat w64 nat_le (take 8 (drop c.args.at c.args.dues.now)) 8 c.args.t
    (length-chunk c.args.at 8 c.args.dues.now c.requires) (omega arith)) ∙ eqb-true _ _ e)
