-- The bytes behind those that are copied are zeros.
use Rattle.std.proofs.Common.{◌∙◌, ◌++◌, ap, length}
use Rattle.std.specs.Prelude.{drop, replicate}
use Rattle.bfd_c.proofs.Common.{drop-replicate}
use Rattle.bfd_c.proofs.packing.pack_wire.Goals as goal

pub returns : goal.returns
returns c = ap (λ xs. xs ++ drop (length c.args.from.now) (replicate 52 0)) c.copy_from_slice.ensures.after
    ∙ ap (λ ys. c.args.from.now ++ ys) (drop-replicate (length c.args.from.now) 52 0)
