-- A tick comes exactly when the moment that it rounds has come; and what a tick leaves is not due by it.
use Rattle.bfd_session.proofs.Common.{◌≡◌, ◌||◌, ◌*◌, ℕ, false, refl, sym, ap, ◌∙◌, Option, None, Some, arith, or_parts, nat_tests, nat_le}
use Rattle.bfd_session.proofs.Common.{ceil_tick, floor_tick, has_come, sooner, Echo, due, tick_of, IsEchoOver, point_of, initiator_of}
use Rattle.bfd_session.proofs.Common.{head_of}
use Rattle.bfd_session.proofs.Common.{tail_of}
use Rattle.bfd_p2p.specs.Machine as point
use Rattle.bfd_p2p.specs.Over.{IsOver}
use Rattle.bfd_sbfd.specs.Machine as initiator
use Rattle.bfd_sbfd.specs.Over as initiator_left
use Rattle.bfd_mp.specs.Machine as tree
use Rattle.bfd_mp.specs.Over.{IsHeadOver, IsTailOver}

-- the sooner of two has come where one of them has
has_come-sooner : (t : ℕ) (a b : Option ℕ) → has_come t (sooner a b) ≡ (has_come t a || has_come t b)
has_come-sooner t None b = refl
has_come-sooner t (Some a) None = grind (arith, nat_tests)
has_come-sooner t (Some a) (Some b) = grind (arith, nat_tests)

rounded : (t m : ℕ) → nat_le (ceil_tick m) t ≡ nat_le m (1000 * t)
unfolding ceil_tick
rounded t m = grind (arith, nat_tests)

-- the tick of a moment has come by t where the moment has come by that of t
has_come-ceil : (t : ℕ) (m : Option ℕ) → has_come t (tick_of m) ≡ has_come (1000 * t) m
has_come-ceil t None = refl
has_come-ceil t (Some m) = rounded t m

floor-tick : (t : ℕ) → floor_tick (1000 * t) ≡ t
unfolding floor_tick
floor-tick t = omega arith

-- where neither has come, the sooner hasn't, and the other way around

neither : (t : ℕ) (a b : Option ℕ) → has_come t a ≡ false → has_come t b ≡ false → has_come t (sooner a b) ≡ false
neither t a b ha hb = has_come-sooner t a b ∙ rw ha hb

pub record NeitherCame (t : ℕ) (a b : Option ℕ) : Type 0 where
  pub first : has_come t a ≡ false
  pub second : has_come t b ≡ false

pub parts : (t : ℕ) (a b : Option ℕ) → has_come t (sooner a b) ≡ false → NeitherCame t a b
parts t a b h =
    let both = or_parts (has_come t a) (has_come t b) (cc (has_come-sooner t a b)) in record { first = both.0; second = both.1 }

-- the same with the tick's own limit

pub not_late : (t : ℕ) (m : Option ℕ) → has_come t (tick_of m) ≡ false → has_come (1000 * t) m ≡ false
not_late t m h = cc (has_come-ceil t m)

pub not_due : (t : ℕ) (m : Option ℕ) → has_come t m ≡ false → has_come (floor_tick (1000 * t)) m ≡ false
not_due t m h = cc (floor-tick t)

-- a moment that hasn't come by the limit of a tick is of a later tick, and so is a due tick that hasn't come

later : (limit t : ℕ) (m : Option ℕ) → limit ≡ 1000 * t → has_come limit m ≡ false → has_come t (tick_of m) ≡ false
later limit t m at h = cc (has_come-ceil t m, sym at)

due_later : (limit t : ℕ) (m : Option ℕ) → limit ≡ 1000 * t → has_come (floor_tick limit) m ≡ false → has_come t m ≡ false
due_later limit t m at h = cc (ap (λ (l : ℕ). floor_tick l) at, floor-tick t)

-- what a tick leaves of each kind of session is not due by it

pub point_over : (m : point.Machine) (echo : Option Echo) (next limit t : ℕ) → limit ≡ 1000 * t → IsOver limit m.vars
    → IsEchoOver limit m.config m.vars echo → has_come t (due (point_of m echo next)) ≡ false
point_over m echo next limit t at over echo_over = neither t _ _ (later limit t _ at over.late)
    (neither t _ _ (later limit t _ at over.seq_late)
    (neither t _ _ (due_later limit t _ at over.due_later) (due_later limit t _ at echo_over)))

pub initiator_over : (m : initiator.Machine) (limit t : ℕ) → limit ≡ 1000 * t → initiator_left.IsOver limit m.vars
    → has_come t (due (initiator_of m)) ≡ false
initiator_over m limit t at over = neither t _ _ (later limit t _ at over.late) (due_later limit t _ at over.due_later)

pub head_over : (m : tree.HeadMachine) (limit t : ℕ) → limit ≡ 1000 * t → IsHeadOver limit m.vars → has_come t (due (head_of m)) ≡ false
head_over m limit t at over = due_later limit t _ at over.due_later

pub tail_over : (m : tree.TailMachine) (limit t : ℕ) → limit ≡ 1000 * t → IsTailOver limit m.vars → has_come t (due (tail_of m)) ≡ false
tail_over m limit t at over = later limit t _ at over.late
