use Rattle.std.proofs.Common.{◌≡◌, ◌+◌, ◌-◌, vec_len}
use Rattle.bfd_edge.specs.Places.{place_in}
use Rattle.bfd_edge.proofs.places.reach.Given as goal

-- what became of each number is as it was
abbrev pub invariant-growing : goal.invariant-growing
invariant-growing g l = place_in l.places.items ≡ place_in l.initial.places.items

abbrev pub decreases-growing : goal.decreases-growing
decreases-growing g l = l.number + 1 - vec_len l.places
