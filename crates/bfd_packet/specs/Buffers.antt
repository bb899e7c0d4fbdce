-- The bytes of a payload, in place or on the heap.
use Rattle.std.specs.Prelude.{ℕ, List}
use Rattle.bfd_packet.specs.declared.buffers.Kept.{Kept}
use Rattle.bfd_packet.specs.declared.buffers.Kept.TheVariants.{Short, Long}

abbrev pub payload_bytes : Kept → List ℕ
payload_bytes (Short bytes) = bytes
payload_bytes (Long bytes) = bytes.items
