-- A whole text: the script that it spells, or its first faulty line with that line's first fault.
use Rattle.std.specs.Prelude.{ℕ, ◌+◌, ◌++◌, ◌||◌, Bool, true, not, List, [], ◌∷◌, length, nat_le, Option, Some, None, Result, Ok, Err}
use Rattle.std.specs.Prelude.{if◌then◌else◌}
use Rattle.bfd_script.specs.declared.fields.fault.LineFault.{LineFault}
use Rattle.bfd_script.specs.declared.fields.fault.LineFault.TheVariants.{SameDiscr, SameAddresses, NoSuchSession, MissingEnd, TooMany}
use Rattle.bfd_script.specs.declared.fields.fault.BadLine.{BadLine}
use Rattle.bfd_packet.specs.KeyChain.{KeyChain}
use Rattle.bfd_packet.specs.declared.keys.Key.{Key}
use Rattle.bfd_sbfd.specs.declared.reflecting.Reflector.{Reflector}
use Rattle.bfd_session.specs.declared.event.SessionConfig.{SessionConfig}
use Rattle.bfd_session.specs.Kinds.{discr_of}
use Rattle.bfd_script.specs.declared.line.words.Place.{Place}
use Rattle.bfd_script.specs.declared.line.words.Place.TheVariants as places
use Rattle.bfd_script.specs.declared.line.words.Version.{Version}
use Rattle.bfd_script.specs.declared.line.words.Version.TheVariants.{One}
use Rattle.bfd_script.specs.declared.line.entries.Line.{Line}
use Rattle.bfd_script.specs.declared.line.entries.Line.TheVariants as events
use Rattle.bfd_script.specs.declared.line.entries.Entry.{Entry}
use Rattle.bfd_script.specs.declared.line.entries.Entry.TheVariants as entries
use Rattle.bfd_script.specs.Entries.{entry_in_line}
use Rattle.bfd_script.specs.Fields.{lines_of}
use Rattle.bfd_script.specs.Gives.{◌>>=◌}
use Rattle.bfd_script.specs.Rows.{given, given_more, has_discr, has_keys, has_point, has_place, has_reflector, inserted, keys_of, pooled}
use Rattle.bfd_script.specs.Secrets.{key_fault}

-- a script, as contracts see it
pub record Lists : Type 0 where
  -- the sessions, ascending by discriminator
  pub configs : List SessionConfig
  -- the reflectors, ascending by discriminator
  pub pool : List Reflector
  -- the event lines, in the order of the text
  pub events : List Line

-- what is kept from line to line
pub record State : Type 0 where
  -- the version of the text; before its first line the words of version 1 are known
  pub version : Version
  -- what may come next
  pub place : Place
  -- the sessions so far, ascending by discriminator
  pub configs : List SessionConfig
  -- the reflectors so far, ascending by discriminator
  pub pool : List Reflector
  -- the event lines so far
  pub events : List Line

-- before the first line
abbrev pub start : State
start = record { version = One; place = places.Version; configs = []; pool = []; events = [] }

-- the session that an event names is present; a packet and a tick name none
abbrev pub is_named : Line → List SessionConfig → Bool
is_named (events.Cmd moment discr cmd) configs = has_discr discr configs
is_named (events.Show moment discr) configs = has_discr discr configs
is_named event configs = true

-- a session or a reflector has this discriminator
abbrev pub is_taken : ℕ → State → Bool
is_taken discr s = has_discr discr s.configs || has_reflector discr s.pool

-- the table has as many rows as it may have: 65,536 sessions and reflectors
abbrev pub is_full : State → Bool
is_full s = nat_le 65536 (length s.configs + length s.pool)

-- one more session: its discriminator and its selecting addresses are new
abbrev pub with_config : SessionConfig → State → Result State LineFault
with_config config s =
    if is_taken (discr_of config) s then Err SameDiscr
    else if has_place config s.configs then Err SameAddresses
    else if is_full s then Err TooMany
    else Ok (record s { configs = inserted config s.configs })

-- one more reflector: its discriminator is new
abbrev pub with_reflector : Reflector → State → Result State LineFault
with_reflector reflector s =
    if is_taken reflector.discr s then Err SameDiscr
    else if is_full s then Err TooMany
    else Ok (record s { pool = pooled reflector s.pool })

-- keys for a point-to-point session: it is present, and has none yet
abbrev pub with_keys : ℕ → KeyChain → State → Result State LineFault
with_keys discr keys s =
    if has_keys discr s.configs then Err SameDiscr
    else if not (has_point discr s.configs) then Err NoSuchSession
    else Ok (record s { configs = given discr keys s.configs })

-- a refusal, if there is one
abbrev pub unless : Option LineFault → State → Result State LineFault
unless None s = Ok s
unless (Some fault) s = Err fault

-- one more key for a session: it has some, with room for this one
abbrev pub with_key : ℕ → Key → State → Result State LineFault
with_key discr key s = unless (key_fault (keys_of discr s.configs) key) (record s { configs = given_more discr key s.configs })

-- one more event line: the session that it names is present, and there are at most 200,000
abbrev pub with_event : Line → State → Result State LineFault
with_event event s =
    if not (is_named event s.configs) then Err NoSuchSession
    else if nat_le 200000 (length s.events) then Err TooMany
    else Ok (record s { events = s.events ++ event ∷ [] })

-- a line is accepted after those before it, or has a fault because of them
abbrev pub admitted : Entry → State → Result State LineFault
admitted (entries.Version version) s = Ok (record s { version = version; place = places.Table })
admitted entries.Run s = Ok (record s { place = places.Events })
admitted (entries.Row config) s = with_config config s
admitted (entries.Reflect reflector) s = with_reflector reflector s
admitted (entries.Auth discr keys) s = with_keys discr keys s
admitted (entries.Key discr key) s = with_key discr key s
admitted (entries.Event event) s = with_event event s
admitted entries.End s = Ok (record s { place = places.Over })

-- one line
abbrev pub line_read : Bool → State → List ℕ → Result State LineFault
line_read live s line = entry_in_line s.version s.place live line >>= λ entry. admitted entry s

-- the text ended with this place; the next line would have had this number
abbrev pub finished_at : Place → ℕ → Lists → Result Lists BadLine
finished_at places.Over number script = Ok script
finished_at place number script = Err (record { line = number; fault = MissingEnd })

-- the text ended
abbrev pub text_ended : ℕ → State → Result Lists BadLine
text_ended number s = finished_at s.place number (record { configs = s.configs; pool = s.pool; events = s.events })

-- go on, or stop at the faulty line of this number
abbrev pub go_on : {X Y : Type 0} → ℕ → Result X LineFault → (X → Result Y BadLine) → Result Y BadLine
go_on number (Ok value) next = next value
go_on number (Err fault) next = Err (record { line = number; fault = fault })

-- what the lines from this number on say
abbrev pub script_from : Bool → State → ℕ → List (List ℕ) → Result Lists BadLine
script_from live s number [] = text_ended number s
script_from live s number (line ∷ lines) = go_on number (line_read live s line) (λ next. script_from live next (number + 1) lines)

-- the script that a text spells, or its first faulty line with that line's first fault. In a live script packets and
-- ticks come from outside, and their lines aren't allowed
abbrev pub script_of : Bool → List ℕ → Result Lists BadLine
script_of live bytes = script_from live start 1 (lines_of bytes)
