-- No report is empty.
use Rattle.std.proofs.Common.{◌≢◌, List, [], ◌∷◌, ◌++◌, ℕ}
use Rattle.bfd_replay.proofs.WorkerCommon.{lines_from, Lists, replayed, world}

-- the report of a replay has a last line
with_last : (front : List ℕ) (byte : ℕ) (more : List ℕ) → (front ++ (byte ∷ more)) ≢ []
with_last [] byte more is = cc
with_last (first ∷ front) byte more is = cc

pub replayed_some : (script : Lists) → replayed script ≢ []
replayed_some script = with_last (lines_from 1 (world script)) 100 _
