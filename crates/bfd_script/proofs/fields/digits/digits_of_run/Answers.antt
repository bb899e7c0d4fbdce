use Rattle.bfd_script.proofs.Nibbles.{run_encoded}
use Rattle.bfd_script.proofs.fields.digits.digits_of_run.Goals as goal

pub returns : goal.returns
returns c = run_encoded c.args.run.now c.requires (λ k. (c.type_inv.run k).fits)
