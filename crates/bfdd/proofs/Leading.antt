-- The words that a job begins with.
use Rattle.std.proofs.Common.{◌≡◌, ℕ, ◌+◌, ◌-◌, ◌<◌, ◌≤◌, ◌++◌, List, [], ◌∷◌, length, map, take, drop, get_or, Option, None, Some, refl}
use Rattle.std.proofs.Common.{sym, ap, ◌∙◌, arith, append_assoc, drop-cons, length-append, suc}
use Rattle.std.proofs.lemmas.Grind.{common_steps}
use Rattle.std.proofs.lemmas.List.{drop-map, take_rest}
use Rattle.std.proofs.lemmas.List.Sums.{take_while-cons}
use Rattle.std.specs.Prelude.{is_some, take_while}
use Rattle.std.specs.List.{cons_option, filter_map}
use Rattle.bfdd.specs.declared.words.job.Job.{Job}
use Rattle.bfdd.specs.Grammar.{load_of, member_of, leading, watch_by, watch_of}

-- what the words begin with, by any reading of a word
module _ {X : Type 0} (read : X → Option ℕ) where
  abbrev lead : List X → List ℕ
  lead words = filter_map read (take_while (λ word. is_some (read word)) words)

  lead-some : {word : X} (words : List X) {member : ℕ} → read word ≡ Some member → lead (word ∷ words) ≡ member ∷ lead words
  lead-some {word} words is = ap (filter_map read) (take_while-cons (λ word. is_some (read word)) word words)
      ∙ (rw is (ap (λ first. cons_option first (lead words)) is))

module _ {S : Type 0} (f : S → List ℕ) where
  abbrev left : List S → ℕ → S → List (List ℕ)
  left words i word = f word ∷ map f (drop (i + 1) words)

  -- the word that is read now, and the ones after it
  left-is : (words : List S) {i : ℕ} {word : S} → i < length words → word ≡ get_or words i word → map f (drop i words) ≡ left words i word
  left-is words {i} {word} below is =
      let next : suc i ≡ i + 1 = omega arith in
      cc (drop-cons words i word below)

  -- one more member
  pub leading-more : (words : List S) {i : ℕ} {word : S} {member : ℕ} (found : List ℕ) → i < length words → word ≡ get_or words i word
      → Some member ≡ member_of (f word) → leading (map f words) ≡ found ++ leading (map f (drop i words))
      → leading (map f words) ≡ (found ++ member ∷ []) ++ leading (map f (drop (i + 1) words))
  leading-more words {i} {member} found below is reads all =
      cc (
        left-is words below is,
        lead-some member_of (map f (drop (i + 1) words)) (sym reads),
        append_assoc found (member ∷ []) (leading (map f (drop (i + 1) words))),
      )

  -- more members than a watch has
  pub leading-many : (words : List S) {i : ℕ} {word : S} {member : ℕ} (found : List ℕ) → i < length words → word ≡ get_or words i word
      → Some member ≡ member_of (f word) → leading (map f words) ≡ found ++ leading (map f (drop i words)) → 64 ≤ length found
      → 64 < length (leading (map f words))
  leading-many words found below is reads all full =
      rw (leading-more words found below is reads all) (grind (arith, length-append, common_steps))

  pub load_of-short : (words : List S) → length words < 3 → None ≡ load_of (map f words)
  load_of-short [] short = refl
  load_of-short (first ∷ []) short = refl
  load_of-short (first ∷ second ∷ []) short = refl
  load_of-short (first ∷ second ∷ third ∷ words) short = absurd (omega arith)

  -- the words from a place on
  abbrev after : List S → ℕ → List S
  after words n = take (length words - n) (drop n words)

  watch_of-cons : (words : List S) {need : S} {members : List ℕ} → 1 ≤ length words → need ≡ get_or words 0 need
      → members ≡ leading (map f (drop 1 words)) → watch_by (f need) members (map f (drop (length members) (drop 1 words)))
      ≡ watch_of (map f words)
  watch_of-cons [] some first found = absurd (omega arith)
  watch_of-cons (word ∷ words) {members} some first found = cc (drop-map f (length members) words)

  -- a number, the members, and what is left
  pub watch_of-parts : (words : List S) {need : S} {read members : List ℕ} {n : ℕ} {job : Option Job} → 1 ≤ length words
      → need ≡ get_or words 0 need → read ≡ f need → n ≡ length members → members ≡ leading (map f (after words 1))
      → job ≡ watch_by read members (map f (after (after words 1) n)) → job ≡ watch_of (map f words)
  watch_of-parts words {n} some first spelt counted found is =
      let rest = take_rest words 1 in
      cc (take_rest (after words 1) n, watch_of-cons words some first (found ∙ ap (λ list. leading (map f list)) rest))
