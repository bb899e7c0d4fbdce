-- A tick by which nothing is due changes no session and emits nothing.
use Rattle.bfd_instance.proofs.Common.{◌≡◌, ◌∙◌, ◌++◌, ℕ, max, List, [], ◌∷◌, map, refl, false, Running, AllByRecursion, IsSound, Out}
use Rattle.bfd_instance.proofs.Common.{flat_map, tick_items, ticked}
use Rattle.std.proofs.Common.{ap₂}
use Rattle.bfd_num.specs.Due.{has_come}
use Rattle.bfd_lanes.specs.Places.{least}
use Rattle.bfd_session.specs.Due.{due}
use Rattle.bfd_session.proofs.DueTick.{parts}
use Rattle.bfd_session.proofs.Rest.{rest_outs, rest_session}
use Rattle.bfd_shard.specs.declared.entry.ShardEvent.TheVariants.{Tick}
use Rattle.bfd_shard.specs.Shard.{NoneDue}
unfoldable use Rattle.bfd_shard.specs.History.{moved, outcome_of}

-- where the least due tick hasn't come, none has
none_due : (t : ℕ) (ss : List Running) → has_come t (least (map due ss)) ≡ false → NoneDue t ss
none_due t [] e = tt
none_due t (s ∷ ss) e = let both = parts t (due s) (least (map due ss)) e in (both.first, none_due t ss both.second)

all_rest : (t : ℕ) (ss : List Running) → AllByRecursion IsSound ss → NoneDue t ss → map (ticked t) ss ≡ ss
all_rest t [] sound none = refl
all_rest t (s ∷ ss) sound none = ap₂ (λ x xs. x ∷ xs) (rest_session s t _ sound.0 none.0) (all_rest t ss sound.1 none.1)

none_emitted : (t : ℕ) (ss : List Running) → AllByRecursion IsSound ss → NoneDue t ss → flat_map (tick_items t) ss ≡ []
none_emitted t [] sound none = refl
none_emitted t (s ∷ ss) sound none =
    ap₂ (λ xs ys. xs ++ ys) (rest_outs s t _ sound.0 none.0) (none_emitted t ss sound.1 none.1)

pub rests : (t last : ℕ) (ss ss2 : List Running) (none items : List Out) → AllByRecursion IsSound ss → none ≡ []
    → ss2 ≡ moved last (Tick t) ss → items ≡ none ++ (outcome_of last (Tick t) ss).items
    → has_come (max last t) (least (map due ss)) ≡ false → (ss2 ≡ ss) × (items ≡ [])
unfolding moved outcome_of
rests t last ss ss2 none items sound empty made reported nothing =
    let still : NoneDue (max last t) ss = none_due (max last t) ss nothing in (
      made ∙ all_rest (max last t) ss sound still,
      reported ∙ ap₂ (λ xs ys. xs ++ ys) empty (none_emitted (max last t) ss sound still),
    )
