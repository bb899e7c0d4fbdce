-- The rows of a table, and the faults of rows that can't form one.
use Rattle.std.specs.Prelude.{ℕ, Bool, true, false, ◌==◌, ◌&&◌, nat_lt, Option, Some, None, List, [], ◌∷◌, ◌++◌, length, nat_le, position}
use Rattle.std.specs.Prelude.{if◌then◌else◌}
use Rattle.std.specs.List.{list_any, position_from}
use Rattle.std.specs.Option.{option_map, option_or}
use Rattle.bfd_packet.specs.Addresses.{same_addr}
use Rattle.bfd_demux.specs.declared.row.Row.{Row}
use Rattle.bfd_demux.specs.declared.row.RowKind.{RowKind}
use Rattle.bfd_demux.specs.declared.row.RowKind.TheVariants.{Single, Multi, Tail}
use Rattle.bfd_demux.specs.declared.fault.BuildFault.{BuildFault}
use Rattle.bfd_demux.specs.declared.fault.BuildFault.TheVariants.{SameDiscr, SameAddresses, ZeroDiscr, TooMany, Memory}
use Rattle.bfd_demux.specs.declared.fault.AddFault.{AddFault}
use Rattle.bfd_demux.specs.declared.fault.AddFault.TheVariants as adding

-- one kind, and the same addresses: a packet without Your Discriminator can't distinguish the two (RFC 5880
-- section 6.3, RFC 8562 section 5.7)
abbrev pub same_selector : RowKind → RowKind → Bool
same_selector (Single iface local remote) (Single iface' local' remote') =
    (iface == iface') && same_addr local local' && same_addr remote remote'
same_selector (Multi local remote) (Multi local' remote') = same_addr local local' && same_addr remote remote'
same_selector (Tail head iface group source) (Tail head' iface' group' source') =
    (head == head') && (iface == iface') && same_addr group group' && same_addr source source'
same_selector _ _ = false

-- the kind has addresses by which a packet without Your Discriminator names it
abbrev pub has_addresses : RowKind → Bool
has_addresses (Single _ _ _) = true
has_addresses (Multi _ _) = true
has_addresses (Tail _ _ _ _) = true
has_addresses _ = false

-- two rows have one discriminator (RFC 5880 section 6.8.1: it is unique)
abbrev pub same_discr : Row → Row → Bool
same_discr row other = row.discr == other.discr

-- two rows are of one kind with the same addresses
abbrev pub same_addresses : Row → Row → Bool
same_addresses row other = same_selector row.kind other.kind

-- the first row that is like an earlier one: the place of the first such earlier one, and its own place
abbrev pub repeat_after : (Row → Row → Bool) → List Row → List Row → Option (ℕ × ℕ)
repeat_after same earlier [] = None
repeat_after same earlier (row ∷ rows) = option_or (option_map (λ place. (place, length earlier)) (position_from (same row) 0 earlier))
    (repeat_after same (earlier ++ row ∷ []) rows)

-- the same for all rows: of all pairs that are alike the one with the least second place, then the least first
abbrev pub first_repeat : (Row → Row → Bool) → List Row → Option (ℕ × ℕ)
first_repeat same rows = repeat_after same [] rows

-- the fault of a pair of places
abbrev pub pair_fault : (ℕ → ℕ → BuildFault) → Option (ℕ × ℕ) → Option BuildFault
pair_fault fault pair = option_map (λ places. fault places.0 places.1) pair

-- the faults of rows that are found without memory: their number, or a discriminator of 0
abbrev pub early_fault : List Row → Option BuildFault
early_fault rows =
    if nat_lt 65536 (length rows) then Some (TooMany (length rows)) else
    option_map ZeroDiscr (position (λ row. row.discr == 0) rows)

-- what is wrong with rows, in this order: their number, a discriminator of 0, one that comes twice, addresses
-- that come twice
abbrev pub build_fault : List Row → Option BuildFault
build_fault rows =
    option_or (early_fault rows)
    (option_or (pair_fault SameDiscr (first_repeat same_discr rows))
    (pair_fault SameAddresses (first_repeat same_addresses rows)))

-- why one more row can't join a table of these, in the same order
abbrev pub add_fault : Row → List Row → Option AddFault
add_fault row rows =
    if nat_le 65536 (length rows) then Some adding.TooMany
    else if row.discr == 0 then Some adding.ZeroDiscr
    else if list_any (same_discr row) rows then Some adding.SameDiscr
    else if list_any (same_addresses row) rows then Some adding.SameAddresses
    else None

-- a fault of rows without the places
abbrev pub fault_kind : BuildFault → AddFault
fault_kind (SameDiscr earlier place) = adding.SameDiscr
fault_kind (SameAddresses earlier place) = adding.SameAddresses
fault_kind (ZeroDiscr place) = adding.ZeroDiscr
fault_kind (TooMany count) = adding.TooMany
fault_kind Memory = adding.Memory
