-- A text that is read piece by piece.
use Rattle.bfd_script.proofs.FieldsCommon.{◌≡◌, ℕ, ◌+◌, ◌<◌, ◌≤◌, List, [], ◌∷◌, ◌++◌, length, ap, sym, ◌∙◌, lines_of, append-nil, append_assoc}
use Rattle.bfd_script.proofs.FieldsCommon.{Result, Ok, Err, arith, suc}
use Rattle.std.proofs.lemmas.List.{length-append}
use Rattle.std.specs.Prelude.{IfOk}
use Rattle.bfd_script.specs.Continued.{Progress, told_with, told_from}
use Rattle.bfd_script.specs.Fields.{IsUnended}
use Rattle.bfd_script.proofs.FirstLine.{lines_after, open_more, the_last}

-- a line that ends with these bytes
lines_end : (begun bytes text : List ℕ) → IsUnended begun → IsUnended bytes
    → lines_of (begun ++ (bytes ++ 10 ∷ text)) ≡ (begun ++ bytes) ∷ lines_of text
lines_end begun bytes text plain ends =
    ap lines_of (sym (append_assoc begun bytes (10 ∷ text))) ∙ lines_after (begun ++ bytes) text (open_more begun bytes plain ends)

pub line_ended : {X F : Type 0} (result : Result X F) (old new : Progress) (begun bytes : List ℕ) → new.begun ≡ [] → IsUnended begun
    → IsUnended bytes
    → IfOk result (λ _. (lines : List (List ℕ)) → told_from new lines ≡ told_from old ((begun ++ bytes) ∷ lines))
    → IfOk result (λ _. (more : List ℕ) → told_with new more ≡ told_from old (lines_of (begun ++ (bytes ++ 10 ∷ more))))
line_ended (Err fault) old new begun bytes none plain ends told = tt
line_ended (Ok value) old new begun bytes none plain ends told = λ more.
    ap (λ front. told_from new (lines_of (front ++ more))) none
    ∙ told (lines_of more)
    ∙ ap (told_from old) (sym (lines_end begun bytes more plain ends))

-- one more whole line of a text
pub line_read_of : (old new : Progress) (line after : List ℕ) → old.begun ≡ [] → new.begun ≡ [] → IsUnended line
    → ((lines : List (List ℕ)) → told_from new lines ≡ told_from old (line ∷ lines)) → (more : List ℕ)
    → told_with new (after ++ more) ≡ told_with old ((line ++ 10 ∷ after) ++ more)
line_read_of old new line after none still plain told more =
    ap (λ front. told_from new (lines_of (front ++ (after ++ more)))) still
    ∙ told (lines_of (after ++ more))
    ∙ ap (told_from old) (sym (lines_after line (after ++ more) plain) ∙ ap lines_of (sym (append_assoc line (10 ∷ after) more)))
    ∙ ap (λ front. told_from old (lines_of (front ++ ((line ++ 10 ∷ after) ++ more)))) (sym none)

-- the lines that are left, and the text
pub fewer : (number more total : ℕ) (text line after : List ℕ) → text ≡ line ++ 10 ∷ after → more ≤ number + 1
    → number + length text ≤ total
    → more + length after ≤ total
fewer number more total text line after cut one fits =
    let long : length text ≡ length line + suc (length after) = ap length cut ∙ length-append line (10 ∷ after) in
    omega (arith, long, one, fits)

pub shorter : (text line after rest : List ℕ) → text ≡ line ++ 10 ∷ after → length rest ≤ length after → length rest < length text
shorter text line after rest cut less =
    let long : length text ≡ length line + suc (length after) = ap length cut ∙ length-append line (10 ∷ after) in
    omega (arith, long, less)

-- the last line, with an LF or without
pub closed : {X F : Type 0} (result : Result X F) (old new : Progress) → 0 < length old.begun → IsUnended old.begun → new.begun ≡ []
    → IfOk result (λ _. (more : List ℕ) → told_with new more ≡ told_with old (10 ∷ more))
    → IfOk result (λ _. told_from new [] ≡ told_with old [])
closed (Err fault) old new some plain none told = tt
closed (Ok value) old new some plain none told =
    ap (λ front. told_from new (lines_of (front ++ []))) (sym none)
    ∙ told []
    ∙ ap (told_from old) (lines_after old.begun [] plain ∙ sym (ap lines_of (append-nil old.begun) ∙ the_last old.begun plain some))
