-- One more session is made, and at the end all are.
use Rattle.std.proofs.Common.{◌+◌, ◌-◌, ◌++◌, ◌∙◌, [], ◌∷◌, map, ap, arith}
use Rattle.std.specs.List.{range_with_len}
use Rattle.bfd_load.specs.Load as load
use Rattle.bfd_load.proofs.Each.{all_of, made_more}
use Rattle.bfd_load.proofs.generating.configs.Goals as goal

pub loop-i-preserved : goal.loop-i-preserved
loop-i-preserved c = made_more (load.config c.args.seed) (c.loop-i.i + 1 - 1) c.loop-i.invariant
    (c.in_ok-push.ensures.items ∙ ap (λ x. c.loop-i.configs.items ++ x ∷ []) c.config.ensures) (omega arith) (omega arith)

pub returns : goal.returns
returns c = all_of (λ n. map (load.config c.args.seed) (range_with_len 1 n)) c.args.sessions c.loop-i.invariant (omega arith)
