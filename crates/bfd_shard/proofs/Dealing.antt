-- A session is built from its own events alone.
use Rattle.bfd_shard.proofs.Common.{◌≡◌, ◌≢◌, ◌⊎◌, inl, inr, ℕ, ◌/◌, ◌%◌, Bool, true, false, List, [], ◌∷◌, Some, None, refl, ap, sym, ◌∙◌}
use Rattle.bfd_shard.proofs.Common.{max, if◌then◌else◌, ◌==◌, cons_option, cases_eq, eq-eqb, ne_eqb, eqb-true, eqb-false, SessionConfig}
use Rattle.bfd_shard.proofs.Common.{Event, stepped, ticked, Running, started, ShardEvent, Own, Tick, last_from, last_tick, run_from, run}
use Rattle.bfd_shard.proofs.Common.{div-add-mod'}
use Rattle.bfd_shard.specs.Dealing.{own_events, history_of}

-- a session is built from its own events

own_first : (p q m last : ℕ) (ev : Event) (es : List ShardEvent) (s : Running) (b : Bool)
    → ((t : Running) → run_from p last es t ≡ run_from 0 last (own_events p es) t)
    → run_from p last es (if b then stepped m last ev s else s)
    ≡ run_from 0 last (cons_option (if b then Some (Own 0 m ev) else None) (own_events p es)) s
unfolding run_from
own_first p q m last ev es s true rest = rest (stepped m last ev s)
own_first p q m last ev es s false rest = rest s

run_alone : (p last : ℕ) (es : List ShardEvent) (s : Running) → run_from p last es s ≡ run_from 0 last (own_events p es) s
unfolding run_from
run_alone p last [] s = refl
run_alone p last (Own q m ev ∷ es) s = own_first p q m last ev es s (q == p) (run_alone p last es)
run_alone p last (Tick t ∷ es) s = run_alone p (max last t) es (ticked (max last t) s)

pub same_own_events : (p q : ℕ) (es fs : List ShardEvent) (c : SessionConfig) → own_events p es ≡ own_events q fs → run p es c ≡ run q fs c
same_own_events p q es fs c e = cc (run_alone p 0 es (started c), run_alone q 0 fs (started c))

-- the places of a table, and those of its shards

whole : (j k n : ℕ) → j / n ≡ k / n → j % n ≡ k % n → j ≡ k
whole j k n q r = cc (div-add-mod' j n, div-add-mod' k n)

-- in one shard, places are the same where those of the table are
same_places : (j k n : ℕ) → j % n ≡ k % n → (j / n == k / n) ≡ (j == k)
same_places j k n together = by (cases_eq j k)
  where
    by : (j ≡ k) ⊎ (j ≢ k) → (j / n == k / n) ≡ (j == k)
    by (inl same) = eq-eqb (j / n) (k / n) (ap (λ (x : ℕ). x / n) same) ∙ sym (eq-eqb j k same)
    by (inr other) = ne_eqb (j / n) (k / n) (λ q. other (whole j k n q together)) ∙ sym (ne_eqb j k other)

-- an own event of another shard is one of another place
other_shard : (j k n : ℕ) → (j % n == k % n) ≡ false → (j == k) ≡ false
other_shard j k n is = ne_eqb j k (λ same. eqb-false (j % n) (k % n) is (cc))

own_dealt : (n k j m : ℕ) (ev : Event) (es : List ShardEvent) (b : Bool) → (j % n == k % n) ≡ b
    → own_events (k / n) (history_of n (k % n) es) ≡ own_events k es
    → own_events (k / n) (cons_option (if b then Some (Own (j / n) m ev) else None) (history_of n (k % n) es))
    ≡ own_events k (Own j m ev ∷ es)
own_dealt n k j m ev es true is rest = cc (same_places j k n (eqb-true (j % n) (k % n) is))
own_dealt n k j m ev es false is rest = cc (other_shard j k n is)

pub own_of_shard : (n k : ℕ) (es : List ShardEvent) → own_events (k / n) (history_of n (k % n) es) ≡ own_events k es
own_of_shard n k [] = refl
own_of_shard n k (Own j m ev ∷ es) = own_dealt n k j m ev es (j % n == k % n) refl (own_of_shard n k es)
own_of_shard n k (Tick t ∷ es) = cc (own_of_shard n k es)

pub dealt_out : (n k : ℕ) (es : List ShardEvent) (c : SessionConfig) → run (k / n) (history_of n (k % n) es) c ≡ run k es c
dealt_out n k es c = same_own_events (k / n) k (history_of n (k % n) es) es c (own_of_shard n k es)

-- every shard has every tick

last_dealt : (last j m : ℕ) (ev : Event) (es : List ShardEvent) (b : Bool)
    → last_from last (cons_option (if b then Some (Own j m ev) else None) es) ≡ last_from last es
unfolding last_from
last_dealt last j m ev es true = refl
last_dealt last j m ev es false = refl

last_kept : (n r last : ℕ) (es : List ShardEvent) → last_from last (history_of n r es) ≡ last_from last es
unfolding last_from
last_kept n r last [] = refl
last_kept n r last (Own j m ev ∷ es) = last_dealt last (j / n) m ev (history_of n r es) (j % n == r) ∙ last_kept n r last es
last_kept n r last (Tick t ∷ es) = last_kept n r (max last t) es

pub last_of_shard : (n r : ℕ) (es : List ShardEvent) → last_tick (history_of n r es) ≡ last_tick es
last_of_shard n r es = last_kept n r 0 es
