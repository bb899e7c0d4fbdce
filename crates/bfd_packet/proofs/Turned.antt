-- Equal either way round.
use Rattle.std.proofs.Common.{◌≡◌, ◌==◌, ℕ, refl, arith}
use Rattle.std.proofs.lemmas.Bool.Decides.{nat_tests}
use Rattle.bfd_packet.specs.declared.arrival.Addr.{Addr}
use Rattle.bfd_packet.specs.declared.arrival.Addr.TheVariants.{V4, V6}
use Rattle.bfd_packet.specs.Addresses.{same_addr}

pub number_turned : (a b : ℕ) → (a == b) ≡ (b == a)
number_turned a b = grind (arith, nat_tests)

pub addr_turned : (a b : Addr) → same_addr a b ≡ same_addr b a
addr_turned (V4 a) (V4 b) = number_turned a b
addr_turned (V4 a) (V6 b) = refl
addr_turned (V6 a) (V4 b) = refl
addr_turned (V6 a) (V6 b) = number_turned a b
