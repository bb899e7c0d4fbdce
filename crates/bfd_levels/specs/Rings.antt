-- Rings behind any number of heads, where a function names the head of each id's list.
use Rattle.std.specs.Prelude.{◌≡◌, ℕ, ◌+◌, ◌≤◌, List, length, if◌then◌else◌, nat_lt}
use Rattle.bfd_wheel.specs.declared.links.Node.{Node}
use Rattle.bfd_wheel.specs.Rings.{IsRanked}
use Rattle.bfd_wheel.specs.Wheel.{due_in, next_in, prev_in}

-- the head of the list of the node j: for an id the one that `at` names, and for a head itself
unfoldable pub head_for : ℕ → (ℕ → ℕ) → ℕ → ℕ
head_for n at j = if nat_lt j n then at j else j

-- each of the n ids that has a due tick stands on the one list that `at` names, behind one of m heads. An id that
-- has none stands on no list
pub record IsPlaced (n m : ℕ) (at : ℕ → ℕ) (dues : List ℕ) (nodes : List Node) : Type 0 where
  pub few : n ≤ 65536
  pub count : length dues ≡ n
  pub size : length nodes ≡ n + m
  pub links : IsRanked n (n + m) (due_in dues) (head_for n at) (next_in nodes) (prev_in nodes)
