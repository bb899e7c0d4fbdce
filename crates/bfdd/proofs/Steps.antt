-- One more event is reported.
use Rattle.std.proofs.Common.{◌≡◌, ◌≤◌, ◌+◌, ◌++◌, ℕ, List, [], ◌∷◌, length, ap, append_assoc, append-nil, arith, length-append}
use Rattle.std.specs.List.{flat_map}
use Rattle.std.specs.Fmt.{decimal}
use Rattle.bfd_session.specs.Alone.{Outcome}
use Rattle.bfd_script.proofs.Sizes.{some_after}
use Rattle.bfd_watch.specs.declared.change.Change.{Change}
use Rattle.bfd_watch.specs.Changes.{changes_in, changes_from}
use Rattle.bfd_watch.specs.Groups.{Group, group_after, is_group_up}
use Rattle.bfd_watch.specs.Watched.{change_line, watched_lines, group_line, if_moved, watched_lines_from, watched_line, watched}
use Rattle.bfd_watch.proofs.Lines.{group_twice, none_heard}

-- its lines
pub lines_step : (text : List ℕ) {more : List ℕ} (n : ℕ) {o : Outcome} {all os : List Outcome} {cs : List Change}
    (g : Group) {after : Group} {goal : List ℕ}
    → all ≡ o ∷ os → cs ≡ changes_in n o.items → after ≡ group_after cs g
    → more ≡ text ++ watched_lines n cs g → text ++ watched_lines_from n all g ≡ goal → more ++ watched_lines_from (n + 1) os after ≡ goal
unfolding watched_lines_from
lines_step text n {o} {os} g split are moved reported so_far =
    let here : List Change = changes_in n o.items in
    cc (append_assoc text (watched_lines n here g) (watched_lines_from (n + 1) os (group_after here g)))

-- the group
pub group_step : (n : ℕ) {o : Outcome} {all os : List Outcome} {cs : List Change} (g : Group) {after goal : Group}
    → all ≡ o ∷ os → cs ≡ changes_in n o.items → after ≡ group_after cs g
    → group_after (changes_from n all) g ≡ goal → group_after (changes_from (n + 1) os) after ≡ goal
unfolding changes_from
group_step n {o} {os} g split are moved so_far = cc (group_twice (changes_in n o.items) (changes_from (n + 1) os) g)

-- and the number of changes
pub count_step : (n reported more : ℕ) {goal : ℕ} {o : Outcome} {all os : List Outcome} {cs : List Change} → all ≡ o ∷ os
    → cs ≡ changes_in n o.items → more ≡ reported + length cs → reported + length (changes_from n all) ≡ goal
    → more + length (changes_from (n + 1) os) ≡ goal
unfolding changes_from
count_step n reported more {o} {os} split are added so_far = omega (
  arith,
  added,
  ap (λ ds. length ds) are,
  so_far,
  ap (λ xs. length (changes_from n xs)) split,
  length-append (changes_in n o.items) (changes_from (n + 1) os),
)

-- each change has a line

line_some : (n : ℕ) (c : Change) → 1 ≤ length (change_line n c)
line_some n c = some_after (decimal n) _ 32

lines_some : (n : ℕ) (cs : List Change) → length cs ≤ length (flat_map (change_line n) cs)
lines_some n [] = omega arith
lines_some n (c ∷ cs) = omega (arith, line_some n c, lines_some n cs, length-append (change_line n c) (flat_map (change_line n) cs))

pub few_step : (text : List ℕ) {more : List ℕ} (n : ℕ) {reported : ℕ} (cs : List Change) (g : Group) → more ≡ text ++ watched_lines n cs g
    → reported ≤ length text
    → reported + length cs ≤ length more
few_step text n cs g is few = omega (
  arith,
  ap length is,
  length-append text (watched_lines n cs g),
  length-append (flat_map (change_line n) cs) (if_moved (is_group_up g) (is_group_up (group_after cs g)) (group_line n (group_after cs g))),
  lines_some n cs,
  few,
)

-- the end: nothing is left
pub end_reported : (text : List ℕ) {more : List ℕ} (n reported : ℕ) {all : List Outcome} (goal : List Outcome) (g before : Group) → all ≡ []
    → text ++ watched_lines_from n all g ≡ watched_lines_from 1 goal before
    → group_after (changes_from n all) g ≡ group_after (changes_from 1 goal) before
    → reported + length (changes_from n all) ≡ length (changes_from 1 goal) → more ≡ text ++ watched_line reported g
    → more ≡ watched goal before
unfolding watched_lines_from changes_from
end_reported text n reported goal g before none whole after counted added =
    let text_is : text ≡ watched_lines_from 1 goal before = cc (append-nil text) in
    let reported_is : reported ≡ length (changes_from 1 goal) = omega (arith, ap (λ xs. length (changes_from n xs)) none, counted) in
    let group_is : g ≡ group_after (changes_from 1 goal) before =
    cc (none_heard g) in
    cc
