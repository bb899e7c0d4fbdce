-- The table lines of multipoint trees (RFC 8562): `head DISCR IFACE LOCAL GROUP TX MULT SEED` and
-- `tail DISCR HEAD IFACE GROUP SOURCE`.
use Rattle.std.specs.Prelude.{ℕ, List, [], ◌∷◌, Result, Ok, Err}
use Rattle.bfd_session.specs.declared.event.SessionConfig.{SessionConfig}
use Rattle.bfd_session.specs.declared.event.SessionConfig.TheVariants.{Head, Tail}
use Rattle.bfd_script.specs.declared.fields.fault.LineFault.{LineFault}
use Rattle.bfd_script.specs.declared.fields.fault.LineFault.TheVariants.{FieldCount}
use Rattle.bfd_script.specs.Fields.{number_in}
use Rattle.bfd_script.specs.Gives.{◌>>=◌}
use Rattle.bfd_script.specs.Values.{address_of}

-- a head of these values
unfoldable pub sender_of : List ℕ → List ℕ → List ℕ → List ℕ → List ℕ → List ℕ → List ℕ → Result SessionConfig LineFault
sender_of discr iface local group tx mult seed = do
  discr ← number_in 1 4294967295 discr
  iface ← number_in 0 65535 iface
  local ← address_of local
  group ← address_of group
  tx ← number_in 10000 60000000 tx
  mult ← number_in 1 255 mult
  seed ← number_in 0 4294967295 seed
  Ok (Head (record { discr = discr; iface = iface; local = local; group = group; tx = tx; mult = mult; seed = seed }))

-- the head of a `head` line
abbrev pub head_row : List (List ℕ) → Result SessionConfig LineFault
head_row (discr ∷ iface ∷ local ∷ group ∷ tx ∷ mult ∷ seed ∷ []) = sender_of discr iface local group tx mult seed
head_row values = Err FieldCount

-- a tail of these values
unfoldable pub listener_of : List ℕ → List ℕ → List ℕ → List ℕ → List ℕ → Result SessionConfig LineFault
listener_of discr head iface group source = do
  discr ← number_in 1 4294967295 discr
  head ← number_in 1 4294967295 head
  iface ← number_in 0 65535 iface
  group ← address_of group
  source ← address_of source
  Ok (Tail (record { discr = discr; head = head; iface = iface; group = group; source = source }))

-- the tail of a `tail` line
abbrev pub tail_row : List (List ℕ) → Result SessionConfig LineFault
tail_row (discr ∷ head ∷ iface ∷ group ∷ source ∷ []) = listener_of discr head iface group source
tail_row values = Err FieldCount
