-- The packet of an event line `rx MOMENT single|multi|echo|sbfd|answer IFACE SRC DST TTL HEX`.
use Rattle.std.specs.Prelude.{ℕ, List, [], ◌∷◌, codes, Result, Ok, Err, if◌then◌else◌}
use Rattle.std.specs.Str.{bytes_eq}
use Rattle.bfd_packet.specs.declared.arrival.Arrival.{Arrival}
use Rattle.bfd_packet.specs.declared.arrival.Port.{Port}
use Rattle.bfd_packet.specs.declared.arrival.Port.TheVariants.{Single, Multi, Echo, Sbfd, Answer}
use Rattle.bfd_script.specs.declared.fields.fault.LineFault.{LineFault}
use Rattle.bfd_script.specs.declared.fields.fault.LineFault.TheVariants.{UnknownWord, FieldCount}
use Rattle.bfd_script.specs.Fields.{number_in}
use Rattle.bfd_script.specs.Gives.{◌>>=◌}
use Rattle.bfd_script.specs.Values.{address_of, payload_of}

-- the kind of port
abbrev pub port_in : List ℕ → Result Port LineFault
port_in field =
    if bytes_eq field (codes "single") then Ok Single
    else if bytes_eq field (codes "multi") then Ok Multi
    else if bytes_eq field (codes "echo") then Ok Echo
    else if bytes_eq field (codes "sbfd") then Ok Sbfd
    else if bytes_eq field (codes "answer") then Ok Answer
    else Err UnknownWord

-- a packet of the last four values; its source port is 49152
unfoldable pub arrival_of : Port → ℕ → List ℕ → List ℕ → List ℕ → List ℕ → Result Arrival LineFault
arrival_of port iface src dst ttl payload = do
  src ← address_of src
  dst ← address_of dst
  ttl ← number_in 0 255 ttl
  payload ← payload_of payload
  Ok (record { port = port; iface = iface; src = src; sport = 49152; dst = dst; ttl = ttl; payload = payload })

-- the last four of the values
abbrev pub arrival_fields : Port → ℕ → List (List ℕ) → Result Arrival LineFault
arrival_fields port iface (src ∷ dst ∷ ttl ∷ payload ∷ []) = arrival_of port iface src dst ttl payload
arrival_fields port iface values = Err FieldCount
