-- A Poll Sequence that begins now doesn't expire now.
use Rattle.std.proofs.Common.{◌≡◌, ◌<◌, ◌≤◌, ◌+◌, ◌*◌, ℕ, false, arith}
use Rattle.std.proofs.lemmas.Bool.Decides.{nat_tests}
use Rattle.std.specs.Prelude.{nat_le}

-- a positive wait after a moment at the limit or later ends past the limit
pub wait_later : (limit eff mult interval : ℕ) → limit ≤ eff → 0 < mult → 0 < interval → nat_le (eff + mult * interval) limit ≡ false
wait_later limit eff mult interval reached some_mult some_interval = grind (arith, nat_tests)
