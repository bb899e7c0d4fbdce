-- The rows by which arrivals are distinguished, one for each session and each reflector.
use Rattle.std.specs.Prelude.{◌≡◌, ◌<◌, ◌==◌, ℕ, Bool, false, Option, List, [], ◌∷◌, ◌++◌, map, position}
use Rattle.std.specs.List.{AllByRecursion}
use Rattle.bfd_packet.specs.declared.arrival.Addr.{Addr}
use Rattle.bfd_rules.specs.declared.config.Role.{Role}
use Rattle.bfd_rules.specs.declared.config.Role.TheVariants.{Single, Multi}
use Rattle.bfd_sbfd.specs.declared.reflecting.Reflector.{Reflector}
use Rattle.bfd_demux.specs.declared.row.Row.{Row}
use Rattle.bfd_demux.specs.declared.row.RowKind.{RowKind}
use Rattle.bfd_demux.specs.declared.row.RowKind.TheVariants.{Single as SingleRow, Multi as MultiRow, Initiator as InitiatorRow}
use Rattle.bfd_demux.specs.declared.row.RowKind.TheVariants.{Reflect as ReflectRow}
use Rattle.bfd_demux.specs.declared.row.RowKind.TheVariants.{Head as HeadRow, Tail as TailRow}
use Rattle.bfd_demux.specs.Rows.{same_addresses}
use Rattle.bfd_session.specs.declared.event.SessionConfig.{SessionConfig}
use Rattle.bfd_session.specs.declared.event.SessionConfig.TheVariants.{PointToPoint, Initiator, Head, Tail}
use Rattle.bfd_session.specs.Kinds.{discr_of}
use Rattle.bfd_session.specs.Step.{IsFit}

-- a session's addresses: over a single hop its interface counts, over several it doesn't (RFC 5881, RFC 5883)
abbrev pub kind_of : Role → ℕ → Addr → Addr → RowKind
kind_of Single iface local remote = SingleRow iface local remote
kind_of Multi iface local remote = MultiRow local remote

-- how a session's packets are distinguished: an initiator's by Your Discriminator alone (RFC 7880 section 7.3), a tail's by the
-- head, the interface, the group and the source (RFC 8562 section 5.7); a head receives none
abbrev pub row_kind : SessionConfig → RowKind
row_kind (PointToPoint c) = kind_of c.role c.iface c.local c.remote
row_kind (Initiator c) = InitiatorRow
row_kind (Head c) = HeadRow
row_kind (Tail c) = TailRow c.head c.iface c.group c.source

-- the row of a session
abbrev pub row_of : SessionConfig → Row
row_of c = record { discr = discr_of c; kind = row_kind c }

-- the rows of sessions, in their order
abbrev pub rows_of : List SessionConfig → List Row
rows_of configs = map row_of configs

-- the row of a reflector (RFC 7880 section 7.2)
abbrev pub row_of_reflector : Reflector → Row
row_of_reflector reflector = record { discr = reflector.discr; kind = ReflectRow }

-- the table of sessions and of a pool of reflectors
abbrev pub table_of : List SessionConfig → List Reflector → List Row
table_of configs pool = rows_of configs ++ map row_of_reflector pool

-- two sessions have the same selecting addresses: a packet without Your Discriminator can't distinguish them (RFC 5881
-- section 3, RFC 5883 section 4, RFC 8562 section 5.7)
abbrev pub same_selector : SessionConfig → SessionConfig → Bool
same_selector c d = same_addresses (row_of c) (row_of d)

-- sessions stand strictly ascending by discriminator
abbrev pub Ascends : List SessionConfig → Type 0
Ascends [] = Unit {0}
Ascends (config ∷ configs) = AllByRecursion (λ later. discr_of config < discr_of later) configs × Ascends configs

-- no two sessions have the same selecting addresses
abbrev pub Differs : List SessionConfig → Type 0
Differs [] = Unit {0}
Differs (config ∷ configs) = AllByRecursion (λ later. same_selector config later ≡ false) configs × Differs configs

-- each configuration is one that a session may have
abbrev pub AreFit : List SessionConfig → Type 0
AreFit configs = AllByRecursion IsFit configs

-- the place of the session with this discriminator
abbrev pub place_of : ℕ → List SessionConfig → Option ℕ
place_of discr configs = position (λ c. discr == discr_of c) configs
