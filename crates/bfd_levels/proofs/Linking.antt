-- All ids relinked, one after another.
use Rattle.bfd_levels.proofs.Common.{◌≡◌, ◌≢◌, ℕ, ◌+◌, ◌^◌, ◌<◌, ◌≤◌, List, length, subst, slice_index, never, Node, Links, next_in}
use Rattle.bfd_levels.proofs.Common.{prev_in, place, at_tick, IsLevels}
use Rattle.bfd_wheel.specs.Wheel.{first_dues}
use Rattle.bfd_wheel.proofs.Linking.{length-first_dues, none_first, none_next, first_more, first_same, all_first}
use Rattle.bfd_levels.proofs.Placing.{start}
use Rattle.bfd_levels.proofs.Views.{levels_filled}

-- each node is linked to itself alone
pub nothing_put : {now : ℕ} (dues : List ℕ) (nodes : List Node) → length dues ≤ 65536 → now < 2 ^ 60 → length nodes ≡ length dues + 1026
    → ((j : ℕ) → j < length dues + 1026 → next_in nodes j ≡ j) → ((j : ℕ) → j < length dues + 1026 → prev_in nodes j ≡ j)
    → IsLevels (length dues) now (first_dues dues 0) nodes
nothing_put {now} dues nodes few early size next prev = record {
  early = early;
  placed = start (length dues) 1026 (at_tick (length dues) now (first_dues dues 0)) (first_dues dues 0) nodes few (length-first_dues dues 0)
      (none_first dues) size next prev;
}

pub next_put : {now i h : ℕ} (dues : List ℕ) {nodes : List Node} (nodes2 : List Node)
    → IsLevels (length dues) now (first_dues dues i) nodes → i < length dues → slice_index dues i ≢ never
    → h ≡ place (length dues) now (slice_index dues i) → length nodes2 ≡ length nodes
    → Links i h (next_in nodes) (prev_in nodes) (next_in nodes2) (prev_in nodes2)
    → IsLevels (length dues) now (first_dues dues (i + 1)) nodes2
next_put {now} {i} {h} dues {nodes} nodes2 w near there at size u =
    subst (λ ds. IsLevels (length dues) now ds nodes2) (first_more dues i near)
    (levels_filled {due = slice_index dues i} {dues = first_dues dues i} nodes2 w near (none_next dues i near) there size
    (subst (λ k. Links i k (next_in nodes) (prev_in nodes) (next_in nodes2) (prev_in nodes2)) at u))

pub none_put : {now i : ℕ} (dues : List ℕ) {nodes : List Node} → IsLevels (length dues) now (first_dues dues i) nodes → i < length dues
    → slice_index dues i ≡ never → IsLevels (length dues) now (first_dues dues (i + 1)) nodes
none_put {now} {i} dues {nodes} w near off = subst (λ ds. IsLevels (length dues) now ds nodes) (first_same dues i near off) w

pub all_put : {now : ℕ} (i : ℕ) {dues : List ℕ} {nodes : List Node} → IsLevels (length dues) now (first_dues dues i) nodes
    → length dues ≤ i → IsLevels (length dues) now dues nodes
all_put {now} i {dues} {nodes} w past = subst (λ ds. IsLevels (length dues) now ds nodes) (all_first dues i past) w
