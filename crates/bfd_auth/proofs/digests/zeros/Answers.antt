-- The first of twenty zeros are zeros.
use Rattle.std.proofs.lemmas.List.{take-replicate}
use Rattle.bfd_auth.proofs.digests.zeros.Goals as goal

pub returns : goal.returns
returns c = take-replicate c.args.count 20 0 c.requires
