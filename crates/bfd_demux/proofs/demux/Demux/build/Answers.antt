use Rattle.bfd_demux.proofs.demux.Demux.build.Goals as goal

-- by hand, so that the prover is quick to refuse a body that refuses no rows
pub returns-then-is_empty-clause-empty : goal.returns-then-is_empty-clause-empty
returns-then-is_empty-clause-empty c = tt
