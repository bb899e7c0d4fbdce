-- The parts so far.
use Rattle.bfd_serve.proofs.RunCommon.{map, AreDealt}
use Rattle.bfd_serve.proofs.run.copying.dealt.Given as goal

abbrev pub invariant-loop-shard : goal.invariant-loop-shard
invariant-loop-shard l = record { dealt : AreDealt l.shards l.shard l.configs (map (λ part. part.items) l.parts.items) }
