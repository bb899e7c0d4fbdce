-- What a sink accepted, over several calls.
use Rattle.bfd_replay.proofs.ReportCommon.{ℕ, List, [], ◌∷◌, ◌++◌, ◌≡◌, ◌<◌, ap, drop-cons, flat_map, flat_map-append, get_or, length, suc}
use Rattle.bfd_replay.proofs.ReportCommon.{take, drop, None, append-nil, Option, Result, Ok, Err, refl, sym, subst, ◌∙◌, append_assoc}
use Rattle.bfd_replay.proofs.ReportCommon.{Appends, TookUpTo}
use Rattle.bfd_replay.proofs.ReportCommon.{TookFront, Appends-nil, Appends-trans}
use Rattle.std.specs.Prelude.{OnOk}
use Rattle.std.proofs.lemmas.List.{take-append-drop}

-- before the first call nothing was accepted
pub none_taken : (known : Option (List ℕ)) (text : List ℕ) → TookUpTo known known text text
none_taken known text = ([], Appends-nil known, refl)

pub took_nothing : (known : Option (List ℕ)) (text : List ℕ) → TookFront known known text
took_nothing known text = (text, none_taken known text)

-- a sink of which nothing is observed may have accepted anything
pub took_unread : (known : Option (List ℕ)) (text : List ℕ) → known ≡ None → TookUpTo known known text []
took_unread known text none = (text, subst (λ k. Appends k k text) (sym none) tt, sym (append-nil text))

-- one more piece was accepted
pub took_more : (first next last : Option (List ℕ)) {text rest : List ℕ} (n : ℕ) → TookUpTo first next text rest
    → Appends next last (take n rest) → TookUpTo first last text (drop n rest)
took_more first next last {rest} n (front, so_far, whole) more = (
  front ++ take n rest,
  Appends-trans first next last front (take n rest) so_far more,
  whole ∙ rw (append_assoc, take-append-drop n rest) refl,
)

-- of what was left more was accepted, up to a rest, as a prefix, and whole
pub took_on : (first next last : Option (List ℕ)) (text mid rest : List ℕ) → TookUpTo first next text mid → TookUpTo next last mid rest
    → TookUpTo first last text rest
took_on first next last text mid rest (front, so_far, whole) (more, now, is) =
    (front ++ more, Appends-trans first next last front more so_far now, cc (append_assoc front more rest))

pub took_front : (first next last : Option (List ℕ)) (text mid : List ℕ) → TookUpTo first next text mid → TookFront next last mid
    → TookFront first last text
took_front first next last text mid so_far (rest, now) = (rest, took_on _ next last text mid rest so_far now)

pub took_rest : (first next last : Option (List ℕ)) (text mid : List ℕ) → TookUpTo first next text mid → Appends next last mid
    → Appends first last text
took_rest first next last text mid (front, so_far, whole) now =
    subst (Appends first last) (sym whole) (Appends-trans first next last front mid so_far now)

-- of a longer text the same was accepted
pub took_of_longer : (old new : Option (List ℕ)) (text rest more : List ℕ) → TookUpTo old new text rest
    → TookUpTo old new (text ++ more) (rest ++ more)
took_of_longer old new text rest more (front, took, is) = (front, took, cc (append_assoc front rest more))

pub front_of_longer : (old new : Option (List ℕ)) (text more : List ℕ) → TookFront old new text → TookFront old new (text ++ more)
front_of_longer old new text more (rest, took) = (rest ++ more, took_of_longer old new text rest more took)

-- what follows from a success
pub when_ok : {T E : Type 0} {P Q : Type 0} (r : Result T E) → (P → Q) → OnOk r P → OnOk r Q
when_ok (Ok done) f p = f p
when_ok (Err e) f p = tt

-- of texts one behind another the sink accepted some, and of the next one a prefix
pub each_front : {X : Type 0} (old mid new : Option (List ℕ)) (f : X → List ℕ) (xs : List X) (at : ℕ) (x : X) {t : List ℕ} → at < length xs
    → x ≡ get_or xs at x → t ≡ f x
    → Appends old mid (flat_map f (take at xs)) → TookFront mid new t → TookFront old new (flat_map f xs)
each_front old mid new f xs at x {t} inside is same took front =
    let split : take at xs ++ (x ∷ drop (suc at) xs) ≡ xs =
    ap (λ ys. take at xs ++ ys) (ap (λ y. y ∷ drop (suc at) xs) is ∙ sym (drop-cons xs at x inside)) ∙ take-append-drop at xs in
    let whole : flat_map f xs ≡ flat_map f (take at xs) ++ (t ++ flat_map f (drop (suc at) xs)) =
    sym (ap (flat_map f) split) ∙ flat_map-append f (take at xs) (x ∷ drop (suc at) xs)
    ∙ ap (λ u. flat_map f (take at xs) ++ (u ++ flat_map f (drop (suc at) xs))) (sym same) in
    took_front old mid new (flat_map f xs) (t ++ flat_map f (drop (suc at) xs)) (flat_map f (take at xs), took, whole)
    (front_of_longer mid new t (flat_map f (drop (suc at) xs)) front)
