-- The wheel after one change, as its callers see it.
use Rattle.bfd_levels.proofs.Common.{◌≡◌, ◌≢◌, ℕ, ◌+◌, ◌<◌, ◌≤◌, List, length, map, replicate, arith, slice_index, slice_set, Option}
use Rattle.bfd_levels.proofs.Common.{get_or-set_same, get_or-set_other, never, due_of, Node, Unlinks, Links, next_in, prev_in, IsLinked}
use Rattle.bfd_levels.proofs.Common.{potential, place, at_tick, loads, IsLevels}
use Rattle.std.proofs.lemmas.Simd.{length-replicate, get_or-replicate}
use Rattle.bfd_levels.proofs.Digits.{place_head}
use Rattle.bfd_levels.proofs.Placing.{freed, filled, linked, first_linked, start}
use Rattle.bfd_levels.proofs.Loads.{loads_potential}

pub levels_linked : {n now i : ℕ} {dues : List ℕ} {nodes : List Node} → IsLevels n now dues nodes → i < n → slice_index dues i ≢ never
    → IsLinked i dues nodes
levels_linked {n} {now} {i} {dues} {nodes} w near there = linked n 1026 i (at_tick n now dues) dues nodes w.placed near there

pub levels_first : {n now : ℕ} (i : ℕ) {h : ℕ} {dues : List ℕ} {nodes : List Node} → IsLevels n now dues nodes → slice_index dues i ≡ never
    → n ≤ h → h < n + 1026 → (next_in nodes h < length nodes) × (next_in nodes h ≢ i)
levels_first {n} {now} i {h} {dues} {nodes} w off far inside =
    first_linked n 1026 i (at_tick n now dues) dues nodes w.placed h off far inside

pub levels_freed : {n now i : ℕ} {dues : List ℕ} {nodes : List Node} (nodes2 : List Node) → IsLevels n now dues nodes → i < length dues
    → slice_index dues i ≢ never → length nodes2 ≡ length nodes
    → Unlinks i (next_in nodes) (prev_in nodes) (next_in nodes2) (prev_in nodes2) → IsLevels n now (slice_set dues i never) nodes2
levels_freed {n} {now} {i} {dues} {nodes} nodes2 w near there size u = record {
  early = w.early;
  placed = freed n 1026 i (at_tick n now dues) dues nodes w.placed (at_tick n now (slice_set dues i never)) nodes2 (omega arith) size
      (λ j ne. cc (get_or-set_other dues i j never 0 ne)) there u;
}

pub levels_filled : {n now i due : ℕ} {dues : List ℕ} {nodes : List Node} (nodes2 : List Node) → IsLevels n now dues nodes → i < n
    → slice_index dues i ≡ never → due ≢ never → length nodes2 ≡ length nodes → Links i (place n now due) (next_in nodes) (prev_in nodes)
    (next_in nodes2) (prev_in nodes2) → IsLevels n now (slice_set dues i due) nodes2
levels_filled {n} {now} {i} {due} {dues} {nodes} nodes2 w near off there size u = record {
  early = w.early;
  placed = filled n 1026 i (at_tick n now dues) dues nodes w.placed (at_tick n now (slice_set dues i due)) nodes2 near size
      (λ j ne. cc (get_or-set_other dues i j due 0 ne)) (place n now due) due off there (place_head n now due).0 (place_head n now due).1
      (cc (get_or-set_same dues i due 0 (omega arith))) u;
}

pub start_levels : {n : ℕ} {dues : List ℕ} (nodes : List Node) → n ≤ 65536 → dues ≡ replicate n never → length nodes ≡ n + 1026
    → ((j : ℕ) → j < n + 1026 → next_in nodes j ≡ j) → ((j : ℕ) → j < n + 1026 → prev_in nodes j ≡ j) → IsLevels (length dues) 0 dues nodes
start_levels {n} {dues} nodes few e size next prev =
    let count : length dues ≡ n = cc (length-replicate n never) in
    record {
      early = omega arith;
      placed = rw count (start n 1026 (at_tick n 0 dues) dues nodes few count (λ j near. cc (get_or-replicate n j never 0 near)) size next
          prev);
    }

-- what an advance was paid with, in the potentials that its callers see
pub paid_view : {clock now : ℕ} (now2 s s2 extra : ℕ) {dues dues1 : List ℕ} (dues2 : List ℕ) {seen seen2 : List (Option ℕ)} → now ≡ clock
    → dues1 ≡ dues → map due_of dues ≡ seen → map due_of dues2 ≡ seen2 → length dues2 ≡ length dues1
    → s2 + loads (length dues1) (at_tick (length dues1) now2 dues2) dues2 ≤ s + extra + loads (length dues1)
    (at_tick (length dues1) now dues1) dues1
    → s2 + potential now2 seen2 ≤ s + extra + potential clock seen
paid_view {clock} {now} now2 s s2 extra {dues1} dues2 {seen} {seen2} time same view view2 len cost =
    let a : loads (length dues2) (at_tick (length dues2) now2 dues2) dues2 ≡ potential now2 seen2 = cc (loads_potential now2 dues2) in
    let b : loads (length dues2) (at_tick (length dues2) now2 dues2) dues2
    ≡ loads (length dues1) (at_tick (length dues1) now2 dues2) dues2 = cc in
    let c : loads (length dues1) (at_tick (length dues1) now dues1) dues1 ≡ potential clock seen = cc (loads_potential now dues1) in
    omega arith
