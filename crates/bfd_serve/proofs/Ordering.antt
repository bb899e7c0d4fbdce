-- What is to be done at one more tick.
use Rattle.bfd_serve.proofs.Common.{◌≡◌, zero, suc, ◌+◌, ◌<◌, ◌≤◌, true, false, ◌++◌, length, take, drop, get_or, refl, ap, ◌∙◌}
use Rattle.bfd_serve.proofs.Common.{append_assoc, append-nil, arith, take_more, take-append-drop, Line, Shards, Act, Turns, is_due}
use Rattle.bfd_serve.proofs.Common.{orders_due, order_act, orders_acts, advances, tick_acts, ticks_acts, orders_left, ℕ, List, [], ◌∷◌}
use Rattle.bfd_shard.specs.declared.entry.ShardEvent.TheVariants.{Tick as TickEvent}

-- the order at a place is due
pub due_next : (t i : ℕ) (orders : List Line) (order : Line) → i < length orders → get_or orders i order ≡ order → is_due t order ≡ true
    → orders_due t (drop i orders) ≡ orders_due t (drop (i + 1) orders) + 1
due_next t i [] order h here is = absurd (omega arith)
due_next t zero (o ∷ os) order h here is = rw (ap (is_due t) here ∙ is) refl
due_next t (suc i) (o ∷ os) order h here is = let e : suc i + 1 ≡ suc (i + 1) = omega arith in
    rw e (due_next t i os _ (omega arith) here is)

-- .. or isn't
pub due_stop : (t i : ℕ) (orders : List Line) (order : Line) → i < length orders → get_or orders i order ≡ order → is_due t order ≡ false
    → orders_due t (drop i orders) ≡ 0
due_stop t i [] order h here is = absurd (omega arith)
due_stop t zero (o ∷ os) order h here is = rw (ap (is_due t) here ∙ is) refl
due_stop t (suc i) (o ∷ os) order h here is = due_stop t i os _ (omega arith) here is

pub due_none : (t i : ℕ) (orders : List Line) → length orders ≤ i → orders_due t (drop i orders) ≡ 0
due_none t zero [] h = refl
due_none t (suc i) [] h = refl
due_none t zero (o ∷ os) h = absurd (omega arith)
due_none t (suc i) (o ∷ os) h = due_none t i os (omega arith)

pub advances_next : (i t : ℕ) → advances (i + 1) t ≡ advances i t ++ Turns i (TickEvent t) ∷ []
advances_next i t = let e : i + 1 ≡ suc i = omega arith in cc

-- the first shards, and the others
pub advances_rest : (i j t : ℕ) → (rest : List Act) × (advances i t ++ rest ≡ advances (j + i) t)
advances_rest i zero t = let e : i ≡ zero + i = omega arith in ([], cc (append-nil (advances i t)))
advances_rest i (suc j) t = let r = advances_rest i j t in let e : suc (j + i) ≡ suc j + i = omega arith in
    (r.0 ++ Turns (j + i) (TickEvent t) ∷ [], cc (append_assoc (advances i t) r.0 (Turns (j + i) (TickEvent t) ∷ [])))

pub left_snoc : (orders : List Line) (ts : List ℕ) (t : ℕ)
    → orders_left orders (ts ++ t ∷ []) ≡ drop (orders_due t (orders_left orders ts)) (orders_left orders ts)
left_snoc orders [] t = refl
left_snoc orders (u ∷ ts) t = left_snoc (drop (orders_due u orders) orders) ts t

module _ (engine : Shards) where
  orders_append : (xs ys : List Line) → orders_acts engine (xs ++ ys) ≡ orders_acts engine xs ++ orders_acts engine ys
  orders_append [] ys = refl
  orders_append (x ∷ xs) ys = cc (orders_append xs ys)

  -- one more order
  pub orders_next : (orders : List Line) {i : ℕ} (order : Line) → i < length orders → get_or orders i order ≡ order
      → orders_acts engine (take (i + 1) orders) ≡ orders_acts engine (take i orders) ++ order_act engine order ∷ []
  orders_next orders {i} order h here = cc (take_more orders i order h, orders_append (take i orders) (get_or orders i order ∷ []))

  pub orders_rest : (orders : List Line) (i : ℕ) → orders_acts engine (take i orders) ++ orders_acts engine (drop i orders)
      ≡ orders_acts engine orders
  orders_rest orders i = cc (orders_append (take i orders) (drop i orders), take-append-drop i orders)

  pub ticks_snoc : (orders : List Line) (ts : List ℕ) (t : ℕ)
      → ticks_acts engine orders (ts ++ t ∷ []) ≡ ticks_acts engine orders ts ++ tick_acts engine (orders_left orders ts) t
  ticks_snoc orders [] t = append-nil (tick_acts engine orders t)
  ticks_snoc orders (u ∷ ts) t = cc (
    ticks_snoc (drop (orders_due u orders) orders) ts t,
    append_assoc (tick_acts engine orders u) (ticks_acts engine (drop (orders_due u orders) orders) ts)
        (tick_acts engine (orders_left (drop (orders_due u orders) orders) ts) t),
  )
