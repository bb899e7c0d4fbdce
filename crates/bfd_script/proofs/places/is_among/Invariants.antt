use Rattle.bfd_script.proofs.Common.{◌≡◌, length, among}
use Rattle.bfd_script.proofs.places.is_among.Given as goal

abbrev pub invariant-loop-rest : goal.invariant-loop-rest
invariant-loop-rest l = among l.rest l.kind ≡ among l.kinds l.kind

abbrev pub decreases-loop-rest : goal.decreases-loop-rest
decreases-loop-rest l = length l.rest
