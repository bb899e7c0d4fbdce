-- The last element of a reversed list, and the others.
use Rattle.bfd_replay.proofs.PlanCommon.{List, reverse, length, ◌≡◌, ◌<◌, ◌++◌, ◌∷◌, [], ap, arith, length-append, reverse-append}
use Rattle.bfd_replay.proofs.plan.shrinking.next_of.Goals as goal

last_of : {X : Type 0} {xs rest others : List X} (x : X) → xs ≡ rest ++ x ∷ [] → others ≡ rest → reverse xs ≡ x ∷ reverse others
last_of {rest} x all same = cc (reverse-append rest (x ∷ []))

fewer_of : {X : Type 0} {xs rest others : List X} (x : X) → xs ≡ rest ++ x ∷ [] → others ≡ rest → length others < length xs
fewer_of {rest} x all same = omega (arith, ap length all, ap length same, length-append rest (x ∷ []))

pub returns : goal.returns
returns g c = record {
  first = last_of c.in_ok-element.element c.in_ok-element.ensures.items c.give_back.ensures;
  fewer = fewer_of c.in_ok-element.element c.in_ok-element.ensures.items c.give_back.ensures;
  none = λ no. cc;
}
