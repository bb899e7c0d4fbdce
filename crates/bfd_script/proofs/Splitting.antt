-- Lines of fields, written and split again.
use Rattle.bfd_script.proofs.FieldsCommon.{◌≡◌, ℕ, ◌+◌, ◌≤◌, ◌==◌, Bool, true, false, List, [], ◌∷◌, ◌++◌, length, Ok, refl, arith, nat_lt}
use Rattle.bfd_script.proofs.FieldsCommon.{append_assoc, append-nil, nat_tests, list_all, slice_split, split_fields, is_printable, lines_of}
use Rattle.bfd_script.proofs.Common.{length-append, AllByRecursion}
use Rattle.bfd_script.proofs.Elements.{each_to}
use Rattle.bfd_script.specs.declared.line.words.Place.{Place}
use Rattle.bfd_script.specs.declared.line.words.Version.{Version}
use Rattle.bfd_script.specs.Entries.{entry_in_line, placed}
use Rattle.bfd_script.specs.Fields.{line_text}
use Rattle.bfd_script.specs.Spelling.{spaced, line}
use Rattle.bfd_script.specs.Windows.{IsVisible, IsField}
use Rattle.bfd_script.specs.Words.{word_of}

-- ---- splitting at a separator

pub split_front : (separator : ℕ) (front rest : List ℕ) → AllByRecursion (λ b. (b == separator) ≡ false) front
    → (separator == separator) ≡ true
    → slice_split (λ b. b == separator) (front ++ (separator ∷ rest)) ≡ front ∷ slice_split (λ b. b == separator) rest
split_front separator [] rest all e = rw e refl
split_front separator (b ∷ front) rest all e = rw (all.0, split_front separator front rest all.1 e) refl

pub split_last : (separator : ℕ) (part : List ℕ) → AllByRecursion (λ b. (b == separator) ≡ false) part
    → slice_split (λ b. b == separator) part ≡ part ∷ []
split_last separator [] all = refl
split_last separator (b ∷ part) all = rw (all.0, split_last separator part all.1) refl

no_space : (field : List ℕ) → IsField field → AllByRecursion (λ b. (b == 32) ≡ false) field
no_space field all = each_to field (λ b h. let low = h.above in grind (arith, nat_tests)) all

no_lf : (field : List ℕ) → IsField field → AllByRecursion (λ b. (b == 10) ≡ false) field
no_lf field all = each_to field (λ b h. let low = h.above in grind (arith, nat_tests)) all

-- the fields of spaced fields
fields_again : (field : List ℕ) (fields : List (List ℕ)) → AllByRecursion IsField (field ∷ fields)
    → split_fields (spaced (field ∷ fields) []) ≡ field ∷ fields
fields_again field [] all = cc (append-nil field, split_last 32 field (no_space field all.0))
fields_again field (next ∷ fields) all = cc (
  split_front 32 field (spaced (next ∷ fields) []) (no_space field all.0) refl,
  fields_again next fields all.1,
)

-- ---- lines

line_front : (front rest : List ℕ) {first : List ℕ} {lines : List (List ℕ)} → AllByRecursion (λ b. (b == 10) ≡ false) front
    → lines_of rest ≡ first ∷ lines
    → lines_of (front ++ rest) ≡ (front ++ first) ∷ lines
line_front [] rest all e = e
line_front (b ∷ front) rest all e = rw (all.0, line_front front rest all.1 e) refl

spaced_more : (fields : List (List ℕ)) (end rest : List ℕ) → spaced fields end ++ rest ≡ spaced fields (end ++ rest)
spaced_more [] end rest = refl
spaced_more (field ∷ []) end rest = append_assoc field end rest
spaced_more (field ∷ next ∷ fields) end rest = cc (
  append_assoc field (32 ∷ spaced (next ∷ fields) end) rest,
  spaced_more (next ∷ fields) end rest,
)

lines_spaced : (fields : List (List ℕ)) (rest : List ℕ) → AllByRecursion IsField fields
    → lines_of (spaced fields (10 ∷ rest)) ≡ spaced fields [] ∷ lines_of rest
lines_spaced [] rest all = refl
lines_spaced (field ∷ []) rest all = line_front field (10 ∷ rest) {first = []} (no_lf field all.0) refl
lines_spaced (field ∷ next ∷ fields) rest all = line_front field (32 ∷ spaced (next ∷ fields) (10 ∷ rest)) (no_lf field all.0)
    (cc (lines_spaced (next ∷ fields) rest all.1))

-- the first line of a text that begins with a line of fields
pub lines_again : (fields : List (List ℕ)) (rest : List ℕ) → AllByRecursion IsField fields
    → lines_of (line fields ++ rest) ≡ spaced fields [] ∷ lines_of rest
lines_again fields rest all = cc (spaced_more fields (10 ∷ []) rest, lines_spaced fields rest all)

-- ---- the tests of a line

visible_prints : {b : ℕ} → IsVisible b → is_printable b ≡ true
visible_prints h = let low = h.above in let high = h.below in grind (arith, nat_tests)

prints_front : (front rest : List ℕ) → IsField front → list_all is_printable rest ≡ true → list_all is_printable (front ++ rest) ≡ true
prints_front [] rest all e = e
prints_front (b ∷ front) rest all e = rw (visible_prints all.0, prints_front front rest all.1 e) refl

line_prints : (fields : List (List ℕ)) → AllByRecursion IsField fields → list_all is_printable (spaced fields []) ≡ true
line_prints [] all = refl
line_prints (field ∷ []) all = prints_front field [] all.0 refl
line_prints (field ∷ next ∷ fields) all = prints_front field (32 ∷ spaced (next ∷ fields) []) all.0 (line_prints (next ∷ fields) all.1)

-- the bytes of fields, each with a separator
abbrev pub total : List (List ℕ) → ℕ
total [] = 0
total (field ∷ fields) = length field + 1 + total fields

length_spaced : (fields : List (List ℕ)) → length (spaced fields []) ≤ total fields
length_spaced [] = omega arith
length_spaced (field ∷ []) = let e = length-append field [] in omega arith
length_spaced (field ∷ next ∷ fields) =
    let e = length-append field (32 ∷ spaced (next ∷ fields) []) in
    let k = length_spaced (next ∷ fields) in omega arith

text_again : (fields : List (List ℕ)) → AllByRecursion IsField fields → total fields ≤ 4096
    → line_text (spaced fields []) ≡ Ok (spaced fields [])
text_again fields all few =
    let k = length_spaced fields in
    let short : nat_lt 4096 (length (spaced fields [])) ≡ false = grind (arith, nat_tests) in
    rw (short, line_prints fields all) refl

-- what a line of fields says
pub entry_again : (version : Version) (place : Place) (live : Bool) (field : List ℕ) (fields : List (List ℕ))
    → AllByRecursion IsField (field ∷ fields) → total (field ∷ fields) ≤ 4096
    → entry_in_line version place live (spaced (field ∷ fields) []) ≡ placed version place live (word_of version field) fields
entry_again version place live field fields all few = cc (text_again (field ∷ fields) all few, fields_again field fields all)
