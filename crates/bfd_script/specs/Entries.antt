-- What one line says, and its first fault.
use Rattle.std.specs.Prelude.{ℕ, Bool, List, [], ◌∷◌, ◌-◌, ◌^◌, true, false, Option, Some, None, length, ◌==◌, Result, Ok, Err}
use Rattle.std.specs.Prelude.{if◌then◌else◌}
use Rattle.bfd_num.specs.Numbers.{moment_bound, greatest_tick}
use Rattle.bfd_sbfd.specs.declared.reflecting.Reflector.{Reflector}
use Rattle.bfd_session.specs.declared.event.SessionConfig.{SessionConfig}
use Rattle.bfd_script.specs.declared.fields.fault.LineFault.{LineFault}
use Rattle.bfd_script.specs.declared.fields.fault.LineFault.TheVariants.{UnknownWord, FieldCount, Order}
use Rattle.bfd_script.specs.declared.line.words.Word.{Word}
use Rattle.bfd_script.specs.declared.line.words.Word.TheVariants as words
use Rattle.bfd_script.specs.declared.line.words.Place.{Place}
use Rattle.bfd_script.specs.declared.line.words.Version.{Version}
use Rattle.bfd_script.specs.declared.line.words.Version.TheVariants.{One, Two}
use Rattle.bfd_script.specs.declared.line.entries.Entry.{Entry}
use Rattle.bfd_script.specs.declared.line.entries.Entry.TheVariants as entries
use Rattle.bfd_script.specs.declared.line.entries.Line.TheVariants as events
use Rattle.bfd_script.specs.Arrivals.{port_in, arrival_fields}
use Rattle.bfd_script.specs.Fields.{line_text, split_fields, number_in}
use Rattle.bfd_script.specs.Gives.{◌>>=◌}
use Rattle.bfd_script.specs.Points.{p2p_row}
use Rattle.bfd_script.specs.Seamless.{reflector_of, sbfd_row}
use Rattle.bfd_script.specs.Secrets.{chain_of, key_of}
use Rattle.bfd_script.specs.Trees.{head_row, tail_row}
use Rattle.bfd_script.specs.Verbs.{verb_of, fits, known_verb, command}
use Rattle.bfd_script.specs.Words.{word_of, stands}

-- a line that is its word alone
abbrev pub alone : Entry → List (List ℕ) → Result Entry LineFault
alone entry [] = Ok entry
alone entry (value ∷ values) = Err FieldCount

-- the version of a number 1 or 2
abbrev pub version_by : ℕ → Version
version_by n = if n == 1 then One else Two

-- `bfd VERSION`
abbrev pub versioned : List (List ℕ) → Result Entry LineFault
versioned (number ∷ []) = number_in 1 2 number >>= λ n. Ok (entries.Version (version_by n))
versioned values = Err FieldCount

-- `tick T`
abbrev pub tick_entry : List (List ℕ) → Result Entry LineFault
tick_entry (number ∷ []) = number_in 0 greatest_tick number >>= λ tick. Ok (entries.Event (events.Tick tick))
tick_entry values = Err FieldCount

-- the table line of a session
abbrev pub row_entry : Result SessionConfig LineFault → Result Entry LineFault
row_entry read = read >>= λ config. Ok (entries.Row config)

-- the table line of a reflector
abbrev pub reflects_of : Result Reflector LineFault → Result Entry LineFault
reflects_of read = read >>= λ reflector. Ok (entries.Reflect reflector)

-- an `auth` line of these values
abbrev pub keyed_of : List ℕ → List ℕ → List ℕ → List ℕ → Result Entry LineFault
keyed_of discr kind id secret =
    number_in 1 4294967295 discr >>= λ discr. chain_of kind id secret >>= λ keys. Ok (entries.Auth discr keys)

-- `auth DISCR TYPE KEYID SECRET`
abbrev pub keyed : List (List ℕ) → Result Entry LineFault
keyed (discr ∷ kind ∷ id ∷ secret ∷ []) = keyed_of discr kind id secret
keyed values = Err FieldCount

-- a `key` line of these values
abbrev pub added_of : List ℕ → List ℕ → List ℕ → Result Entry LineFault
added_of discr id secret =
    number_in 1 4294967295 discr >>= λ discr. key_of id secret >>= λ key. Ok (entries.Key discr key)

-- `key DISCR KEYID SECRET`
abbrev pub added : List (List ℕ) → Result Entry LineFault
added (discr ∷ id ∷ secret ∷ []) = added_of discr id secret
added values = Err FieldCount

-- an `rx` line of these values
unfoldable pub received_of : List ℕ → List ℕ → List ℕ → List (List ℕ) → Result Entry LineFault
received_of moment port iface rest = do
  moment ← number_in 0 (moment_bound - 1) moment
  port ← port_in port
  iface ← number_in 0 65535 iface
  arrival ← arrival_fields port iface rest
  Ok (entries.Event (events.Rx moment arrival))

-- an `rx` line: the last four values are the packet's own
abbrev pub received_fields : List (List ℕ) → Result Entry LineFault
received_fields (moment ∷ port ∷ iface ∷ rest) = received_of moment port iface rest
received_fields values = Err FieldCount

-- `rx MOMENT single|multi|echo|sbfd|answer IFACE SRC DST TTL HEX`
abbrev pub rx_entry : List (List ℕ) → Result Entry LineFault
rx_entry values = if length values == 7 then received_fields values else Err FieldCount

-- a `cmd` line of these values, without number
unfoldable pub plain_of : Version → List ℕ → List ℕ → List ℕ → Result Entry LineFault
plain_of version moment discr verb = do
  moment ← number_in 0 (moment_bound - 1) moment
  discr ← number_in 1 4294967295 discr
  verb ← known_verb (verb_of version verb)
  Ok (entries.Event (events.Cmd moment discr (command verb 0)))

-- a `cmd` line of these values; the number has the range of its type, and the session tests its own
unfoldable pub numbered_of : Version → List ℕ → List ℕ → List ℕ → List ℕ → Result Entry LineFault
numbered_of version moment discr verb number = do
  moment ← number_in 0 (moment_bound - 1) moment
  discr ← number_in 1 4294967295 discr
  verb ← known_verb (verb_of version verb)
  number ← number_in 0 (2 ^ 64 - 1) number
  Ok (entries.Event (events.Cmd moment discr (command verb number)))

-- `cmd MOMENT DISCR VERB` or `cmd MOMENT DISCR VERB N`
abbrev pub cmd_entry : Version → List (List ℕ) → Result Entry LineFault
cmd_entry version (moment ∷ discr ∷ verb ∷ []) =
    if fits (verb_of version verb) false then plain_of version moment discr verb else Err FieldCount
cmd_entry version (moment ∷ discr ∷ verb ∷ number ∷ []) =
    if fits (verb_of version verb) true then numbered_of version moment discr verb number else Err FieldCount
cmd_entry version values = Err FieldCount

-- a `show` line of these values
unfoldable pub shown_of : List ℕ → List ℕ → Result Entry LineFault
shown_of moment discr = do
  moment ← number_in 0 (moment_bound - 1) moment
  discr ← number_in 1 4294967295 discr
  Ok (entries.Event (events.Show moment discr))

-- `show MOMENT DISCR`
abbrev pub show_entry : List (List ℕ) → Result Entry LineFault
show_entry (moment ∷ discr ∷ []) = shown_of moment discr
show_entry values = Err FieldCount

-- what the values of a word say
abbrev pub valued : Version → Word → List (List ℕ) → Result Entry LineFault
valued version words.Bfd values = versioned values
valued version words.P2p values = row_entry (p2p_row values)
valued version words.Sbfd values = row_entry (sbfd_row values)
valued version words.Reflector values = reflects_of (reflector_of values)
valued version words.Head values = row_entry (head_row values)
valued version words.Tail values = row_entry (tail_row values)
valued version words.Auth values = keyed values
valued version words.Key values = added values
valued version words.Run values = alone entries.Run values
valued version words.Rx values = rx_entry values
valued version words.Tick values = tick_entry values
valued version words.Cmd values = cmd_entry version values
valued version words.Show values = show_entry values
valued version words.End values = alone entries.End values

-- a line of this word, with these values
abbrev pub placed : Version → Place → Bool → Option Word → List (List ℕ) → Result Entry LineFault
placed version place live None values = Err UnknownWord
placed version place live (Some word) values = if stands place live word then valued version word values else Err Order

-- a line of these fields
abbrev pub worded : Version → Place → Bool → List (List ℕ) → Result Entry LineFault
worded version place live [] = Err UnknownWord
worded version place live (name ∷ values) = placed version place live (word_of version name) values

-- what a line says by itself; the order of its tests is the order of the cases
abbrev pub entry_in_line : Version → Place → Bool → List ℕ → Result Entry LineFault
entry_in_line version place live line = line_text line >>= λ text. worded version place live (split_fields text)
