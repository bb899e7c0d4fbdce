use Rattle.bfd_script.proofs.Common.{ap, arith, ◌∷◌, ◌∙◌}
use Rattle.std.proofs.lemmas.List.{drop_all}
use Rattle.bfd_script.proofs.report.put_end.Goals as goal

-- nothing stands behind the room
pub returns-clause-text : goal.returns-clause-text
returns-clause-text c = c.put.ensures.text ∙ ap (λ bytes. 10 ∷ bytes) (drop_all 160 c.args.room.now (omega arith))
