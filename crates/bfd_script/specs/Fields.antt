-- Lines, fields and numbers.
use Rattle.std.specs.Prelude.{◌≡◌, ◌==◌, ℕ, Bool, false, not, ◌&&◌, ◌||◌, List, [], ◌∷◌, length, slice_index, nat_lt, nat_le, Result, Ok, Err}
use Rattle.std.specs.Prelude.{if◌then◌else◌}
use Rattle.std.specs.List.{AllByRecursion, list_all, slice_split}
use Rattle.std.specs.Char.{is_ascii_digit}
use Rattle.std.specs.Str.Parse.{digits_value}
use Rattle.bfd_script.specs.declared.fields.fault.LineFault.{LineFault}
use Rattle.bfd_script.specs.declared.fields.fault.LineFault.TheVariants.{NotAscii, TooLong, BadNumber, OutOfRange}

-- a byte goes onto the first line
abbrev pub onto_line : ℕ → List (List ℕ) → List (List ℕ)
onto_line byte [] = (byte ∷ []) ∷ []
onto_line byte (line ∷ lines) = (byte ∷ line) ∷ lines

-- the lines of a text: each ends with LF, and the last may lack it
abbrev pub lines_of : List ℕ → List (List ℕ)
lines_of [] = []
lines_of (byte ∷ bytes) = if byte == 10 then [] ∷ lines_of bytes else onto_line byte (lines_of bytes)

-- no LF stands in it
abbrev pub IsUnended : List ℕ → Type 0
IsUnended bytes = AllByRecursion (λ byte. (byte == 10) ≡ false) bytes

-- a byte that may stand in a line
abbrev pub is_printable : ℕ → Bool
is_printable byte = nat_le 32 byte && nat_le byte 126

-- a line that can be read: it isn't too long, and all its bytes are printable
abbrev pub line_text : List ℕ → Result (List ℕ) LineFault
line_text line =
    if nat_lt 4096 (length line) then Err TooLong
    else if not (list_all is_printable line) then Err NotAscii
    else Ok line

-- the fields of a line: what stands between its spaces
abbrev pub split_fields : List ℕ → List (List ℕ)
split_fields line = slice_split (λ byte. byte == 32) line

-- one decimal digit or more, and no zero before another digit
abbrev pub is_number : List ℕ → Bool
is_number field = list_all is_ascii_digit field && nat_lt 0 (length field) && not (nat_lt 1 (length field) && slice_index field 0 == 48)

-- a field that is a number of a range
abbrev pub number_in : ℕ → ℕ → List ℕ → Result ℕ LineFault
number_in least most field =
    if not (is_number field) then Err BadNumber
    else if nat_lt (digits_value 10 field) least || nat_lt most (digits_value 10 field) then Err OutOfRange
    else Ok (digits_value 10 field)
