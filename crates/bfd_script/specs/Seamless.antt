-- The table lines of seamless BFD (RFC 7880): `sbfd DISCR TARGET IFACE LOCAL REMOTE TX MULT SEED` and `reflector DISCR RX up|admin`.
use Rattle.std.specs.Prelude.{ℕ, Bool, true, false, List, [], ◌∷◌, codes, Result, Ok, Err, if◌then◌else◌}
use Rattle.std.specs.Str.{bytes_eq}
use Rattle.bfd_sbfd.specs.declared.reflecting.Reflector.{Reflector}
use Rattle.bfd_session.specs.declared.event.SessionConfig.{SessionConfig}
use Rattle.bfd_session.specs.declared.event.SessionConfig.TheVariants.{Initiator}
use Rattle.bfd_script.specs.declared.fields.fault.LineFault.{LineFault}
use Rattle.bfd_script.specs.declared.fields.fault.LineFault.TheVariants.{UnknownWord, FieldCount}
use Rattle.bfd_script.specs.Fields.{number_in}
use Rattle.bfd_script.specs.Gives.{◌>>=◌}
use Rattle.bfd_script.specs.Values.{address_of}

-- an initiator of these values
unfoldable pub initiator_from : List ℕ → List ℕ → List ℕ → List ℕ → List ℕ → List ℕ → List ℕ → List ℕ → Result SessionConfig LineFault
initiator_from discr target iface local remote tx mult seed = do
  discr ← number_in 1 4294967295 discr
  target ← number_in 1 4294967295 target
  iface ← number_in 0 65535 iface
  local ← address_of local
  remote ← address_of remote
  tx ← number_in 10000 60000000 tx
  mult ← number_in 1 255 mult
  seed ← number_in 0 4294967295 seed
  Ok (Initiator (record {
    discr = discr;
    target = target;
    iface = iface;
    local = local;
    remote = remote;
    tx = tx;
    mult = mult;
    seed = seed;
  }))

-- the initiator of the first two values and the others
abbrev pub initiator_with : List ℕ → List ℕ → List (List ℕ) → Result SessionConfig LineFault
initiator_with discr target (iface ∷ local ∷ remote ∷ tx ∷ mult ∷ seed ∷ []) = initiator_from discr target iface local remote tx mult seed
initiator_with discr target values = Err FieldCount

-- the initiator of an `sbfd` line
abbrev pub sbfd_row : List (List ℕ) → Result SessionConfig LineFault
sbfd_row (discr ∷ target ∷ rest) = initiator_with discr target rest
sbfd_row values = Err FieldCount

-- whether the reflector is Up or set to AdminDown (RFC 7880 section 7.2.3)
abbrev pub up_of : List ℕ → Result Bool LineFault
up_of field =
    if bytes_eq field (codes "up") then Ok true
    else if bytes_eq field (codes "admin") then Ok false
    else Err UnknownWord

-- a reflector of these values
unfoldable pub reflecting_of : List ℕ → List ℕ → List ℕ → Result Reflector LineFault
reflecting_of discr rx mode = do
  discr ← number_in 1 4294967295 discr
  rx ← number_in 10000 60000000 rx
  up ← up_of mode
  Ok (record { discr = discr; rx = rx; up = up })

-- the reflector of a `reflector` line
abbrev pub reflector_of : List (List ℕ) → Result Reflector LineFault
reflector_of (discr ∷ rx ∷ mode ∷ []) = reflecting_of discr rx mode
reflector_of values = Err FieldCount
