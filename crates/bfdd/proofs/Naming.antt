-- Options, where fewer than two words are left.
use Rattle.std.proofs.Common.{◌≡◌, ℕ, ◌<◌, ◌==◌, ◌++◌, List, [], ◌∷◌, length, map, option_to_list, Option, None, Some, refl, sym, arith}
use Rattle.bfdd.specs.Options.{are_options, values_of, value_of}

module _ {S : Type 0} (f : S → List ℕ) where
  pub are_options-end : (names : List (List ℕ)) (rest : List S) → length rest < 2 → are_options names (map f rest) ≡ (length rest == 0)
  are_options-end names [] short = refl
  are_options-end names (word ∷ []) short = refl
  are_options-end names (word ∷ value ∷ rest) short = absurd (omega arith)

  values_of-end : (name : List ℕ) (rest : List S) → length rest < 2 → values_of name (map f rest) ≡ []
  values_of-end name [] short = refl
  values_of-end name (word ∷ []) short = refl
  values_of-end name (word ∷ value ∷ rest) short = absurd (omega arith)

  -- what was found before is all
  pub value_of-end : (name : List ℕ) (options : List (List ℕ)) (found : Option (List ℕ)) (rest : List S) → length rest < 2
      → values_of name options ≡ option_to_list found ++ values_of name (map f rest) → Some found ≡ value_of name options
  value_of-end name options None rest short all = sym (cc (values_of-end name rest short))
  value_of-end name options (Some value) rest short all = sym (cc (values_of-end name rest short))
