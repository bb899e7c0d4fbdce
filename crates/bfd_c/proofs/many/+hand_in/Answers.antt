-- One packet was handled, and this is the outcome of those behind it.
use Rattle.std.proofs.Common.{rules, arith, subst, sym, suc, ◌≡◌, ◌+◌, ℕ, List, ◌∷◌, length}
use Rattle.std.specs.Prelude.{true, false, is_some}
use Rattle.bfd_c.specs.declared.many.Arrived.{Arrived}
use Rattle.bfd_c.specs.declared.structs.Answered.{Answered}
use Rattle.bfd_c.specs.Engines.{asked}
use Rattle.bfd_c.specs.Many.{Handed, handed, line_of_arrived, none_handed, one_before}
use Rattle.bfd_c.proofs.Handing.{stopped, went_on}
use Rattle.bfd_c.proofs.many.+hand_in.Goals as goal

pub returns-then-is_some-clause-done : goal.returns-then-is_some-clause-done
returns-then-is_some-clause-done t c h =
    let line = line_of_arrived c.in-Some.arrived.now in let e = c.args.engine.now in
    let places = c.in-Some-split_first_mut.places.now in let others = c.in-Some.others.now in
    let after = c.hear_one-code.new.engine in
    let zero : c.hear_one-code.result ≡ 0 = search rules in
    let did : (after, 0) ≡ asked line e = search rules in
    let found : is_some c.first.result ≡ true = search rules in
    let one : Handed = one_before c.hear_one-code.new.answer (none_handed 0 places after) in
    subst (λ (l : List Arrived). one ≡ handed (length l) l c.args.answers.now e) (sym c.in-Some.ensures.cases.0)
    (subst (λ (l : List Answered). one ≡ handed (suc (length others)) (c.in-Some.arrived.now ∷ others) l e)
    (sym c.in-Some-split_first_mut.ensures.cases.0)
    (stopped line c.in-Some-split_first_mut.answer.now c.hear_one-code.new.answer places e after c.first.result
    (handed (length others) others places (asked line e).0) did (c.hear_one-code.ensures.answer zero) c.first.ensures found))

pub returns-clause-done : goal.returns-clause-done
returns-clause-done t c h =
    let line = line_of_arrived c.in-Some.arrived.now in let e = c.args.engine.now in
    let places = c.in-Some-split_first_mut.places.now in let others = c.in-Some.others.now in
    let after = c.hear_one-code.new.engine in let r = c.hand_in-packets in
    let zero : c.hear_one-code.result ≡ 0 = search rules in
    let did : (after, 0) ≡ asked line e = search rules in
    let none : is_some c.first.result ≡ false = search rules in
    let behind : Handed = record { engine = r.new.engine; answers = r.new.answers; packets = r.result.0; code = r.result.1 } in
    let all : Handed = one_before c.hear_one-code.new.answer behind in
    subst (λ (l : List Arrived). all ≡ handed (length l) l c.args.answers.now e) (sym c.in-Some.ensures.cases.0)
    (subst (λ (l : List Answered). all ≡ handed (suc (length others)) (c.in-Some.arrived.now ∷ others) l e)
    (sym c.in-Some-split_first_mut.ensures.cases.0)
    (went_on line c.in-Some-split_first_mut.answer.now c.hear_one-code.new.answer places e after c.first.result
    (λ x. handed (length others) others places x) behind did (c.hear_one-code.ensures.answer zero) c.first.ensures none (r.ensures.done h)))

pub returns-clause-memory : goal.returns-clause-memory
returns-clause-memory t c h =
    let line = line_of_arrived c.in-Some.arrived.now in let e = c.args.engine.now in
    let places = c.in-Some-split_first_mut.places.now in let others = c.in-Some.others.now in
    let after = c.hear_one-code.new.engine in let r = c.hand_in-packets in
    let zero : c.hear_one-code.result ≡ 0 = search rules in
    let did : (after, 0) ≡ asked line e = search rules in
    let none : is_some c.first.result ≡ false = search rules in
    let behind : Handed = record { engine = r.new.engine; answers = r.new.answers; packets = r.result.0; code = r.result.1 } in
    let all : Handed = one_before c.hear_one-code.new.answer behind in
    let more : suc r.result.0 ≡ r.result.0 + 1 = omega arith in
    subst (λ (l : List Arrived). all ≡ handed (r.result.0 + 1) l c.args.answers.now e) (sym c.in-Some.ensures.cases.0)
    (subst (λ (l : List Answered). all ≡ handed (r.result.0 + 1) (c.in-Some.arrived.now ∷ others) l e)
    (sym c.in-Some-split_first_mut.ensures.cases.0)
    (subst (λ (n : ℕ). all ≡ handed n (c.in-Some.arrived.now ∷ others) (c.in-Some-split_first_mut.answer.now ∷ places) e) more
    (went_on line c.in-Some-split_first_mut.answer.now c.hear_one-code.new.answer places e after c.first.result
    (λ x. handed r.result.0 others places x) behind did (c.hear_one-code.ensures.answer zero) c.first.ensures none (r.ensures.memory h))))
