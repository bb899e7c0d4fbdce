-- What is true of each element.
use Rattle.bfd_script.proofs.Common.{List, [], ◌∷◌, ◌++◌, AllByRecursion}

pub each_more : {X : Type 0} (P : X → Type 0) (xs ys : List X) → AllByRecursion P xs → AllByRecursion P ys → AllByRecursion P (xs ++ ys)
each_more P [] ys a b = b
each_more P (x ∷ xs) ys a b = (a.0, each_more P xs ys a.1 b)

pub each_to : {X : Type 0} {P Q : X → Type 0} (xs : List X) → ((x : X) → P x → Q x) → AllByRecursion P xs → AllByRecursion Q xs
each_to [] f all = tt
each_to (x ∷ xs) f all = (f x all.0, each_to xs f all.1)
