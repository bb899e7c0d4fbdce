-- How many turns on one shard some acts can take.
use Rattle.bfd_serve.proofs.Common.{◌≡◌, ◌≢◌, zero, suc, ◌+◌, ◌≤◌, ◌==◌, Bool, true, false, length, take, drop, refl, ap, ◌∙◌, le_refl}
use Rattle.bfd_serve.proofs.Common.{length-append, arith, length-map, take-append-drop, dite, ℕ_discrete, nat_tests, Arrival, ShardEvent}
use Rattle.bfd_serve.proofs.Common.{Line, Shards, Act, Turns, Rests, act_at, worker_acts, orders_due, order_act, orders_acts, advances}
use Rattle.bfd_serve.proofs.Common.{tick_acts, ticks_acts, orders_left, timer_acts, ℕ, List, [], ◌∷◌}
use Rattle.bfd_shard.specs.declared.entry.ShardEvent.TheVariants.{Tick as TickEvent}
use Rattle.bfd_serve.proofs.Histories.{weight, weight_append}

module _ (n s : ℕ) where
  turn_weight : (shard : ℕ) (event : ShardEvent) (b : Bool) → (shard == s) ≡ b → weight n s (Turns shard event ∷ []) ≤ 1
  turn_weight shard event true is = rw is (le_refl 1)
  turn_weight shard event false is = rw is (omega arith)

  turn_elsewhere : (shard : ℕ) (event : ShardEvent) → shard ≢ s → weight n s (Turns shard event ∷ []) ≡ 0
  turn_elsewhere shard event other = let b : (shard == s) ≡ false = grind (arith, nat_tests, other) in rw b refl

  act_weight : (x : Act) → weight n s (x ∷ []) ≤ 1
  act_weight (Rests outs answer) = omega arith
  act_weight (Turns shard event) = turn_weight shard event (shard == s) refl

  acts_weight : (xs : List Act) → weight n s xs ≤ length xs
  acts_weight [] = omega arith
  acts_weight (x ∷ xs) = omega (arith, act_weight x, acts_weight xs, weight_append n s (x ∷ []) xs)

  advances_none : (m t : ℕ) → m ≤ s → weight n s (advances m t) ≡ 0
  advances_none zero t h = refl
  advances_none (suc m) t h = let a = advances_none m t (omega arith) in let b = turn_elsewhere m (TickEvent t)
      (λ e. absurd (omega arith)) in weight_append n s (advances m t) (Turns m (TickEvent t) ∷ []) ∙ (omega arith)

  advances_weight : (m t : ℕ) → weight n s (advances m t) ≤ 1
  advances_weight zero t = omega arith
  advances_weight (suc m) t = let all = weight_append n s (advances m t) (Turns m (TickEvent t) ∷ []) in dite (ℕ_discrete m s)
      (λ is. omega (arith, advances_none m t (omega arith), turn_weight m (TickEvent t) (m == s) refl))
      (λ other. omega (arith, advances_weight m t, turn_elsewhere m (TickEvent t) other))

  module _ (engine : Shards) where
    -- a worker takes at most one turn for each arrival
    pub arrivals_weight : (heard : List (ℕ × Arrival)) → weight n s (worker_acts engine heard) ≤ length heard
    arrivals_weight heard = omega (arith, acts_weight (worker_acts engine heard), length-map heard (act_at engine))

    orders_weight : (orders : List Line) → weight n s (orders_acts engine orders) ≤ length orders
    orders_weight orders = omega (arith, acts_weight (orders_acts engine orders), length-map orders (order_act engine))

    ticks_weight : (orders : List Line) (ts : List ℕ)
        → weight n s (ticks_acts engine orders ts) + length (orders_left orders ts) ≤ length ts + length orders
    ticks_weight orders [] = omega arith
    ticks_weight orders (t ∷ ts) =
        let first : List Line = take (orders_due t orders) orders in let rest : List Line = drop (orders_due t orders) orders in
        omega (
          arith,
          orders_weight first,
          advances_weight (length engine.locks) t,
          weight_append n s (orders_acts engine first) (advances (length engine.locks) t),
          weight_append n s (tick_acts engine orders t) (ticks_acts engine rest ts),
          ticks_weight rest ts,
          ap length (take-append-drop (orders_due t orders) orders),
          length-append first rest,
        )

    -- the timer takes at most one turn for each tick and each order
    pub timer_weight : (orders : List Line) (ts : List ℕ) (failed : Bool)
        → weight n s (timer_acts engine orders ts failed) ≤ length ts + length orders
    timer_weight orders ts true = omega (arith, ticks_weight orders ts, weight_append n s (ticks_acts engine orders ts) [])
    timer_weight orders ts false = omega (
      arith,
      ticks_weight orders ts,
      weight_append n s (ticks_acts engine orders ts) (orders_acts engine (orders_left orders ts)),
      orders_weight (orders_left orders ts),
    )
