-- The sorted tables of rows.
use Rattle.std.specs.Prelude.{◌≡◌, ℕ, Bool, true, false, Option, Some, None, List, map}
use Rattle.std.specs.List.{filter}
use Rattle.bfd_packet.specs.declared.arrival.Port.{Port}
use Rattle.bfd_packet.specs.declared.arrival.Port.TheVariants.{Single as SinglePort, Multi as MultiPort, Echo as EchoPort, Sbfd as SbfdPort}
use Rattle.bfd_packet.specs.declared.arrival.Port.TheVariants.{Answer as AnswerPort}
use Rattle.bfd_demux.specs.declared.row.Row.{Row}
use Rattle.bfd_demux.specs.declared.row.RowKind.{RowKind}
use Rattle.bfd_demux.specs.declared.row.RowKind.TheVariants.{Single, Multi, Initiator, Reflect}
use Rattle.bfd_demux.specs.declared.name.Name.{Name}
use Rattle.bfd_demux.specs.declared.name.Name.TheVariants.{Session, Reflector}
use Rattle.bfd_demux.specs.contracts.name.NameOrd.TheImpl as name_order
use Rattle.bfd_demux.specs.contracts.row.RowKindOrd.TheImpl as kind_order
use Rattle.bfd_demux.specs.Rows.{build_fault, has_addresses}
use Rattle.bfd_demux.specs.Selection.{is_session}
use Rattle.bfd_demux.specs.Table.{HasSame, how_many, IsAscending}

-- a discriminator as the name of a row of this kind
abbrev pub name_in : RowKind → ℕ → Name
name_in Reflect discr = Reflector discr
name_in _ discr = Session discr

-- the row's discriminator, and whether a session or a reflector has it
abbrev pub row_name : Row → Name
row_name row = name_in row.kind row.discr

-- the discriminator of a name
abbrev pub name_discr : Name → ℕ
name_discr (Session discr) = discr
name_discr (Reflector discr) = discr

-- the name is a session's
abbrev pub names_a_session : Name → Bool
names_a_session (Session discr) = true
names_a_session (Reflector discr) = false

-- the port on which a control packet may name a row of this kind by its discriminator
abbrev pub heard_on : RowKind → Option Port
heard_on (Single _ _ _) = Some SinglePort
heard_on (Multi _ _) = Some MultiPort
heard_on Initiator = Some AnswerPort
heard_on Reflect = Some SbfdPort
heard_on _ = None

-- the name by which an arrival on the port looks up its discriminator
abbrev pub name_on : Port → ℕ → Name
name_on SbfdPort discr = Reflector discr
name_on _ discr = Session discr

-- how many names stand before those that the port looks up: all sessions before the reflectors
abbrev pub names_before : Port → ℕ → ℕ
names_before SbfdPort sessions = sessions
names_before _ sessions = 0

-- a row that is heard on a port is of this port's kind; echo packets are for the sessions of single
abbrev pub is_heard : Port → Option Port → Bool
is_heard SinglePort (Some SinglePort) = true
is_heard EchoPort (Some SinglePort) = true
is_heard MultiPort (Some MultiPort) = true
is_heard AnswerPort (Some AnswerPort) = true
is_heard SbfdPort (Some SbfdPort) = true
is_heard _ _ = false

-- the names of all rows, with their ports
abbrev pub names_of : List Row → List (Name × Option Port)
names_of rows = map (λ row. (row_name row, heard_on row.kind)) rows

-- the discriminators of all rows, each with an empty value
abbrev pub discrs_of : List Row → List (ℕ × Unit {0})
discrs_of rows = map (λ row. (row.discr, tt)) rows

-- the kinds and addresses of the rows that have addresses, with their discriminators
abbrev pub addresses_of : List Row → List (RowKind × ℕ)
addresses_of rows = map (λ row. (row.kind, row.discr)) (filter (λ row. has_addresses row.kind) rows)

-- the names of the rows in ascending order, with their ports
pub record AreNames (rows : List Row) (names : List (Name × Option Port)) : Type 0 where
  pub named : HasSame (names_of rows) names
  pub names_ascend : IsAscending name_order.ghosts.cmp names

-- the addresses of the rows in ascending order, with their discriminators
pub record AreAddresses (rows : List Row) (addresses : List (RowKind × ℕ)) : Type 0 where
  pub addressed : HasSame (addresses_of rows) addresses
  pub addresses_ascend : IsAscending kind_order.ghosts.cmp addresses

-- rows without a fault, their names and their addresses in ascending order, and the number of sessions
pub record IsIndex (rows : List Row) (names : List (Name × Option Port)) (addresses : List (RowKind × ℕ)) (sessions : ℕ) : Type 0 where
  pub sound : build_fault rows ≡ None
  pub by_name : AreNames rows names
  pub by_addresses : AreAddresses rows addresses
  pub counted : sessions ≡ how_many (λ row. is_session row.kind) rows
