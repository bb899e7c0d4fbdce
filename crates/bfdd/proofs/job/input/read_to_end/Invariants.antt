use Rattle.std.proofs.Common.{◌≡◌, ◌-◌, ◌≤◌}
use Rattle.bfdd.specs.Sources.{IsReadOn}
use Rattle.bfdd.specs.Text.{most_bytes}
use Rattle.bfdd.proofs.job.input.read_to_end.Given as goal

-- the bytes so far were read, they are not too many, and no read failed
abbrev pub invariant-pieces : goal.invariant-pieces
invariant-pieces g l = (l.count ≤ most_bytes) × IsReadOn l.fn.live (g.S.Source.left l.initial.source) (g.S.Source.left l.source) l.count l.reader
    × (g.S.Source.faults l.source ≡ g.S.Source.faults l.initial.source)

abbrev pub decreases-pieces : goal.decreases-pieces
decreases-pieces g l = 67108865 - l.count
