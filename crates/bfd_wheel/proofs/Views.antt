-- From lists of numbers to lists of optional due ticks.
use Rattle.bfd_wheel.proofs.Common.{◌≡◌, ◌≢◌, ℕ, zero, suc, ◌+◌, ◌^◌, ◌<◌, ◌≤◌, false, cond, List, [], ◌∷◌, ◌++◌, map}
use Rattle.bfd_wheel.proofs.Common.{replicate, length, get_or}
use Rattle.bfd_wheel.proofs.Common.{take, drop, refl, ap, arith, nat_eq, slice_index, slice_set, Option, None, Some, map-set, same_lists}
use Rattle.bfd_wheel.proofs.Common.{get_or-map, length-map, nat_tests, never, due_of, without, Node, next_in, prev_in, IsWheel, IsLinked}
use Rattle.std.proofs.lemmas.Simd.{length-replicate, get_or-replicate}
use Rattle.std.proofs.lemmas.Grind.{common_steps}
use Rattle.std.specs.List.{insert, remove}
use Rattle.bfd_wheel.proofs.Wheels.{linked, start}

pub due_of_below : (due : ℕ) → due < 2 ^ 60 → due_of due ≡ Some due
due_of_below due h = ap (λ b. cond b None (Some due)) (let test : nat_eq due never ≡ false = grind (arith, nat_tests) in test)

-- the list after one number was written
pub set_view : (dues0 dues1 dues2 : List ℕ) (seen : List (Option ℕ)) (id number : ℕ) (due : Option ℕ) → dues1 ≡ dues0
    → map due_of dues0 ≡ seen → dues2 ≡ slice_set dues1 id number → due_of number ≡ due → map due_of dues2 ≡ slice_set seen id due
set_view dues0 dues1 dues2 seen id number due same view written is = cc (map-set due_of dues1 id number)

pub linked_view : {now i : ℕ} {dues dues1 : List ℕ} {nodes nodes1 : List Node} {seen : List (Option ℕ)} → IsWheel (length dues) now dues
    nodes → dues1 ≡ dues → nodes1 ≡ nodes → map due_of dues ≡ seen → i < length seen → slice_index dues1 i ≢ never → IsLinked i dues1 nodes1
linked_view {dues} w same_dues same_nodes view inside there =
    rw same_dues (rw same_nodes (linked w (omega (arith, ap length view, length-map dues due_of)) (rw (← same_dues) there)))

-- ---- one more, and one less

pub map-insert : {X Y : Type 0} (f : X → Y) (xs : List X) (i : ℕ) (x : X) → map f (insert xs i x) ≡ insert (map f xs) i (f x)
map-insert f [] zero x = refl
map-insert f [] (suc i) x = refl
map-insert f (y ∷ ys) zero x = refl
map-insert f (y ∷ ys) (suc i) x = ap (λ l. f y ∷ l) (map-insert f ys i x)

pub map-remove : {X Y : Type 0} (f : X → Y) (xs : List X) (i : ℕ) → map f (remove xs i) ≡ remove (map f xs) i
map-remove f [] zero = refl
map-remove f [] (suc i) = refl
map-remove f (y ∷ ys) zero = refl
map-remove f (y ∷ ys) (suc i) = ap (λ l. f y ∷ l) (map-remove f ys i)

pub inserted_view : (dues : List ℕ) (id number : ℕ) → map due_of (insert dues id number) ≡ insert (map due_of dues) id (due_of number)
inserted_view dues id number = map-insert due_of dues id number

pub removed_view : (dues : List ℕ) (id : ℕ) → map due_of (remove dues id) ≡ remove (map due_of dues) id
removed_view dues id = map-remove due_of dues id

-- numbers that agree one by one agree as lists
pub forgotten : (t : ℕ) {i : ℕ} (dues dues2 : List ℕ) → length dues2 ≡ length dues → length dues ≤ i → ((k : ℕ) → k < i
    → due_of (get_or dues2 k 0) ≡ without t (due_of (get_or dues k 0))) → map due_of dues2 ≡ map (without t) (map due_of dues)
forgotten t dues dues2 len past done =
    same_lists (map due_of dues2) (map (without t) (map due_of dues))
    (cc (length-map dues2 due_of, length-map dues due_of, length-map (map due_of dues) (without t)))
    (λ k d h.
    let near : k < length dues2 = omega (arith, length-map dues2 due_of) in
    let near1 : k < length dues = omega arith in
    let near2 : k < length (map due_of dues) = omega (arith, length-map dues due_of) in
    cc (
      get_or-map due_of dues2 k 0 d near,
      done k (omega arith),
      get_or-map (without t) (map due_of dues) k None d near2,
      get_or-map due_of dues k 0 None near1,
    ))

nothing : (n : ℕ) → map due_of (replicate n never) ≡ replicate n None
nothing zero = refl
nothing (suc n) = cc (nothing n)

-- no due tick at the start
pub none_yet : (n : ℕ) (dues : List ℕ) → dues ≡ replicate n never → map due_of dues ≡ replicate n None
none_yet n dues e = cc (nothing n)

pub start_wheel : {n : ℕ} {dues : List ℕ} (nodes : List Node) → n ≤ 65536 → dues ≡ replicate n never → length nodes ≡ n + 4097
    → ((j : ℕ) → j < n + 4097 → next_in nodes j ≡ j) → ((j : ℕ) → j < n + 4097 → prev_in nodes j ≡ j) → IsWheel (length dues) 0 dues nodes
start_wheel {n} {dues} nodes few e size next prev =
    let count : length dues ≡ n = cc (length-replicate n never) in
    rw count (start 0 dues nodes few (omega arith) count (λ j near. cc (get_or-replicate n j never 0 near)) size next prev)

-- a list that was lent and came back
pub back : (len : ℕ) (new old : List ℕ) → length new ≡ len → take len (new ++ drop (length new) old) ≡ new
back len new old e = grind (arith, common_steps)
