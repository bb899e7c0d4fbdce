-- An echo packet by its words.
use Rattle.std.proofs.Common.{◌≡◌, ◌<◌, ◌^◌, ◌++◌, ℕ, length, refl}
use Rattle.byteorder.specs.Endian.{big_bytes}
use Rattle.byteorder.specs.Numbers.{big_number-reads_back}
use Rattle.bfd_packet.specs.Layout.{word_at}
use Rattle.bfd_echo.specs.Packet.{sign, echo_text}

pub text_size : (discr sequence : ℕ) → length (echo_text discr sequence) ≡ 16
unfolding echo_text
text_size discr sequence = refl

pub word_0 : (discr sequence : ℕ) → word_at 0 (echo_text discr sequence) ≡ sign
unfolding echo_text
word_0 discr sequence = refl

pub word_4 : (discr sequence : ℕ) → discr < 2 ^ 32 → word_at 4 (echo_text discr sequence) ≡ discr
unfolding echo_text
word_4 discr sequence small = big_number-reads_back 4 discr (big_bytes 4 sequence ++ big_bytes 4 0) small

pub word_8 : (discr sequence : ℕ) → sequence < 2 ^ 32 → word_at 8 (echo_text discr sequence) ≡ sequence
unfolding echo_text
word_8 discr sequence small = big_number-reads_back 4 sequence (big_bytes 4 0) small

pub word_12 : (discr sequence : ℕ) → word_at 12 (echo_text discr sequence) ≡ 0
unfolding echo_text
word_12 discr sequence = refl
