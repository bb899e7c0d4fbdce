-- The outcome of many packets if the first was handled; and places for outputs that are none.
use Rattle.std.proofs.Common.{◌≡◌, ℕ, List, [], ◌∷◌, length, ap, arith, subst, sym, ◌∙◌}
use Rattle.std.specs.Prelude.{true, false, Option, None, Some, is_some, option_copied}
use Rattle.std.specs.Borrow.{Bor}
use Rattle.bfd_c.proofs.Common.{T, refl}
use Rattle.bfd_script.specs.declared.line.entries.Line.{Line}
use Rattle.bfd_rules.specs.declared.outputs.Out.{Out}
use Rattle.bfd_c.specs.declared.structs.Answered.{Answered}
use Rattle.bfd_c.specs.declared.structs.Output.{Output}
use Rattle.bfd_c.specs.Engines.{Instance, asked, first_of}
use Rattle.bfd_c.specs.Many.{Handed, handed_by, handed_behind, none_handed, one_before, outputs_in}
use Rattle.bfd_c.specs.Structs.{answer_for_c}

stopped_behind : (left : List Out) (first : Option (Bor Out)) (place : Answered) (places : List Answered) (after : Instance)
    (behind : Handed)
    → option_copied first ≡ first_of left → is_some first ≡ true
    → one_before place (none_handed 0 places after) ≡ handed_behind left place places after behind
stopped_behind (out ∷ outs) first place places after behind h k = refl
stopped_behind [] None place places after behind h k = absurd (subst T (sym k) tt)
stopped_behind [] (Some out) place places after behind h k = absurd (subst T (ap is_some h) tt)

went_behind : (left : List Out) (first : Option (Bor Out)) (place : Answered) (places : List Answered) (after : Instance) (behind : Handed)
    → option_copied first ≡ first_of left → is_some first ≡ false
    → one_before place behind ≡ handed_behind left place places after behind
went_behind [] first place places after behind h k = refl
went_behind (out ∷ outs) None place places after behind h k = absurd (subst T (sym (ap is_some h)) tt)
went_behind (out ∷ outs) (Some o) place places after behind h k = absurd (subst T k tt)

-- the first packet left outputs
pub stopped : (line : Option Line) (place answered : Answered) (places : List Answered) (e after : Instance) (first : Option (Bor Out))
    (behind : Handed)
    → (after, 0) ≡ asked line e → answered ≡ answer_for_c after.discr after.answer → option_copied first ≡ first_of after.left
    → is_some first ≡ true
    → one_before answered (none_handed 0 places after) ≡ handed_by line place places e behind
stopped None place answered places e after first behind h w f k = absurd (let no = ap (λ (p : Instance × ℕ). p.1) h in omega (arith, no))
stopped (Some line) place answered places e after first behind h w f k =
    subst (λ (x : Instance). one_before answered (none_handed 0 places after)
    ≡ handed_behind x.left (answer_for_c x.discr x.answer) places x behind)
    (ap (λ (p : Instance × ℕ). p.0) h)
    (ap (λ (x : Answered). one_before x (none_handed 0 places after)) w
    ∙ stopped_behind after.left first (answer_for_c after.discr after.answer) places after behind f k)

-- it left none, and this is the outcome of the others
pub went_on : (line : Option Line) (place answered : Answered) (places : List Answered) (e after : Instance) (first : Option (Bor Out))
    (rest : Instance → Handed) (behind : Handed)
    → (after, 0) ≡ asked line e → answered ≡ answer_for_c after.discr after.answer → option_copied first ≡ first_of after.left
    → is_some first ≡ false
    → behind ≡ rest after
    → one_before answered behind ≡ handed_by line place places e (rest (asked line e).0)
went_on None place answered places e after first rest behind h w f k b =
    absurd (let no = ap (λ (p : Instance × ℕ). p.1) h in omega (arith, no))
went_on (Some line) place answered places e after first rest behind h w f k b =
    subst (λ (x : Instance). one_before answered behind ≡ handed_behind x.left (answer_for_c x.discr x.answer) places x (rest x))
    (ap (λ (p : Instance × ℕ). p.0) h)
    (ap (λ (x : Answered). one_before x behind) w ∙ (ap (λ (x : Handed). one_before (answer_for_c after.discr after.answer) x) b
    ∙ went_behind after.left first (answer_for_c after.discr after.answer) places after (rest after) f k))

-- no place
pub no_place : (left : List Out) (places : List Output) → length places ≡ 0 → places ≡ outputs_in left places
no_place [] places h = refl
no_place (out ∷ outs) [] h = refl
no_place (out ∷ outs) (place ∷ places) h = absurd (omega (arith, h))
