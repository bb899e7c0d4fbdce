-- What the first of the events that are left gave.
use Rattle.bfd_instance.proofs.Common.{◌≡◌, List, ◌∷◌, ap, sym, ◌∙◌, Out, Answer, Line, Outcome, World, turn_giving, happens, outcomes}

abbrev pub gave : List Out → Answer → Outcome
gave items answer = record { items = items; answer = answer }

pub one_outcome : (line : Line) (left rest : List Line) (before after : World) (items : List Out) (answer : Answer) → left ≡ line ∷ rest
    → turn_giving after items answer ≡ happens line before → outcomes left before ≡ gave items answer ∷ outcomes rest after
one_outcome line left rest before after items answer split e =
    ap (λ ls. outcomes ls before) split ∙ ap (λ t. t.outcome ∷ outcomes rest t.world) (sym e)
