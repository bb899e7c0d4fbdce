-- Parts that are cut in two at a place of the report.
use Rattle.std.specs.Prelude.{ℕ, ◌≡◌, ◌<◌, ◌++◌, true, false, List, [], Some, length, slice_index_or}
use Rattle.std.specs.List.{AllByRecursion}
use Rattle.bfd_replay.specs.declared.report.key.Key.{Key}
use Rattle.bfd_replay.specs.Inside.{first_key, rank_key}
use Rattle.bfd_replay.specs.Pieces.{Piece, precedes}

-- pieces are cut before the first one whose key doesn't come before the key of this rank
pub record IsHalved (rank : ℕ) (pieces front back : List Piece) : Type 0 where
  pub whole : pieces ≡ front ++ back
  pub below : AllByRecursion (λ p. precedes p.key (rank_key rank) ≡ true) front
  pub above : (k : Key) → first_key back ≡ Some k → precedes k (rank_key rank) ≡ false

-- so is each part
pub record AreHalved (rank : ℕ) (parts fronts backs : List (List Piece)) : Type 0 where
  pub fronts_long : length fronts ≡ length parts
  pub backs_long : length backs ≡ length parts
  pub each : (s : ℕ) → s < length parts → IsHalved rank (slice_index_or parts s []) (slice_index_or fronts s []) (slice_index_or backs s [])
