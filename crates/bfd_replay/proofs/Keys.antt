-- The order of keys.
use Rattle.bfd_replay.proofs.ReportCommon.{◌≡◌, ◌<◌, true, arith, Key, precedes, nat_tests}

-- the piece of an earlier event stands before
pub earlier : (a b : Key) → a.event < b.event → precedes a b ≡ true
earlier a b h = grind (arith, nat_tests)

-- of one event the piece of a lower discriminator stands before
pub lower : {a b : Key} → a.event ≡ b.event → a.discr < b.discr → precedes a b ≡ true
lower e h = grind (arith, nat_tests)
