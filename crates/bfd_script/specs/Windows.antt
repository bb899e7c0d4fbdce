-- What stands at a place of a text: a field, or a whole line. Each is a number or a word that a general definition reads, and what stands
-- behind it is known, so that the definition of the whole text goes on there.
use Rattle.std.specs.Prelude.{◌≡◌, ◌≤◌, ℕ, ◌+◌, Bool, true, List, ◌∷◌, ◌++◌, drop, length, Result, Ok}
use Rattle.std.specs.List.{AllByRecursion}
use Rattle.std.specs.Str.Parse.{digits_value}
use Rattle.hex.specs.Hex.{decode_pairs}
use Rattle.bfd_script.specs.declared.fields.fault.LineFault.{LineFault}
use Rattle.bfd_script.specs.declared.line.entries.Entry.{Entry}
use Rattle.bfd_script.specs.declared.line.words.Place.{Place}
use Rattle.bfd_script.specs.declared.line.words.Version.{Version}
use Rattle.bfd_script.specs.Entries.{entry_in_line}
use Rattle.bfd_script.specs.Fields.{is_number, lines_of}

-- a byte that a field may have
pub record IsVisible (byte : ℕ) : Type 0 where
  pub above : 33 ≤ byte
  pub below : byte ≤ 126

-- the bytes of a field
abbrev pub IsField : List ℕ → Type 0
IsField field = AllByRecursion IsVisible field

-- at this place stand digits that write this number, up to another place
pub record HasNumber (text : List ℕ) (at to n : ℕ) : Type 0 where
  pub digits : List ℕ
  pub number : is_number digits ≡ true
  pub here : drop at text ≡ digits ++ drop to text
  pub long : to ≡ at + length digits
  pub value : digits_value 10 digits ≡ n

-- at this place stand hexadecimal digits that write these bytes, up to another place
pub record HasBytes (text : List ℕ) (at to : ℕ) (bytes : List ℕ) : Type 0 where
  pub digits : List ℕ
  pub pairs : (i : ℕ) → decode_pairs i digits ≡ Ok bytes
  pub here : drop at text ≡ digits ++ drop to text
  pub long : to ≡ at + length digits

-- at this place stands a field that is read as this value, and then this separator; the other place is the one behind it
pub record Reads {X : Type 0} (read : List ℕ → Result X LineFault) (separator : ℕ) (text : List ℕ) (at to : ℕ) (value : X) : Type 0 where
  pub field : List ℕ
  pub visible : IsField field
  pub here : drop at text ≡ field ++ (separator ∷ drop to text)
  pub long : to ≡ at + length field + 1
  pub says : read field ≡ Ok value

-- a text begins with a whole line that says this where the next line has to stand at such a place; behind it the text goes on from here
pub record HasLine (place : Place) (live : Bool) (text : List ℕ) (to : ℕ) (entry : Entry) : Type 0 where
  pub line : List ℕ
  pub lines : (more : List ℕ) → lines_of (text ++ more) ≡ line ∷ lines_of (drop to text ++ more)
  pub says : (version : Version) → entry_in_line version place live line ≡ Ok entry
