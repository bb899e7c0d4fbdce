-- Addresses and bytes.
use Rattle.std.specs.Prelude.{◌<◌, ◌^◌, ℕ, ◌+◌, ◌*◌, ◌==◌, List, [], ◌∷◌, length, take, codes, Result, Ok, Err, if◌then◌else◌}
use Rattle.std.specs.List.{slice_split}
use Rattle.std.specs.Str.{bytes_eq}
use Rattle.byteorder.specs.Endian.{big_number}
use Rattle.hex.specs.Hex.{decode_of, decode_sized}
use Rattle.hex.specs.declared.error.FromHexError.{FromHexError}
use Rattle.bfd_packet.specs.declared.arrival.Addr.{Addr}
use Rattle.bfd_packet.specs.declared.arrival.Addr.TheVariants.{V4, V6}
use Rattle.bfd_script.specs.declared.fields.fault.LineFault.{LineFault}
use Rattle.bfd_script.specs.declared.fields.fault.LineFault.TheVariants.{BadAddress, BadHex}
use Rattle.bfd_script.specs.Fields.{number_in}
use Rattle.bfd_script.specs.Gives.{◌>>=◌}

-- a number within an address, whose faults are those of the address
abbrev pub part_of : Result ℕ LineFault → Result ℕ LineFault
part_of (Ok n) = Ok n
part_of (Err fault) = Err BadAddress

-- one of the four numbers of an address
abbrev pub octet_of : List ℕ → Result ℕ LineFault
octet_of field = part_of (number_in 0 255 field)

-- four numbers 0 to 255
unfoldable pub quad_of : List ℕ → List ℕ → List ℕ → List ℕ → Result Addr LineFault
quad_of a b c d = do
  a ← octet_of a
  b ← octet_of b
  c ← octet_of c
  d ← octet_of d
  Ok (V4 (((a * 256 + b) * 256 + c) * 256 + d))

-- an address of these parts
abbrev pub dotted_of : List (List ℕ) → Result Addr LineFault
dotted_of (a ∷ b ∷ c ∷ d ∷ []) = quad_of a b c d
dotted_of parts = Err BadAddress

-- an address: 32 hexadecimal digits, or else four numbers with dots
abbrev pub address_by : Result (List ℕ) FromHexError → List ℕ → Result Addr LineFault
address_by (Ok bytes) field = Ok (V6 (big_number 16 bytes))
address_by (Err e) field = dotted_of (slice_split (λ byte. byte == 46) field)

-- a field that is an address
abbrev pub address_of : List ℕ → Result Addr LineFault
address_of field = address_by (decode_sized field 16) field

-- what was decoded
abbrev pub decoded : Result (List ℕ) FromHexError → Result (List ℕ) LineFault
decoded (Ok bytes) = Ok bytes
decoded (Err e) = Err BadHex

-- a field that is bytes: an even number of hexadecimal digits, or `-` for none
abbrev pub bytes_of : List ℕ → Result (List ℕ) LineFault
bytes_of field =
    if bytes_eq field (codes "-") then Ok []
    else if length field == 0 then Err BadHex
    else decoded (decode_of field)

-- a field that is a payload, of which the first 256 bytes are kept
abbrev pub payload_of : List ℕ → Result (List ℕ) LineFault
payload_of field = bytes_of field >>= λ bytes. Ok (take 256 bytes)

-- the number of an address fits its family
abbrev pub IsAddress : Addr → Type 0
IsAddress (V4 n) = n < 2 ^ 32
IsAddress (V6 n) = n < 2 ^ 128
