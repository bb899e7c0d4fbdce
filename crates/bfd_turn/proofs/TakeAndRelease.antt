-- The exchange that takes the turn, and the add that gives it back.
use Rattle.bfd_turn.proofs.Common.{◌≡◌, ◌≢◌, ℕ, ◌+◌, ◌%◌, ◌^◌, ◌<◌, List, [], ◌∷◌, set, get_or, sym, refl, ap, ◌∙◌, subst, inl, inr, ⊎_elim}
use Rattle.bfd_turn.proofs.Common.{arith, Option, Some, None, some, none, get_elem?, append-nil, State, Me, Act, step, stepped, keeps}
use Rattle.bfd_turn.proofs.Common.{takes, gives, Allows, Valid, carried_after, at_set, set_here, exchanged, View, Known, Idle, Holding}
use Rattle.bfd_turn.proofs.Common.{Begins, calls, known, met, holding, idle_after, Lent, took, released, Grows, Fits, AtHome, Out}
use prog.Atomic.{either}
use Rattle.bfd_turn.proofs.Beginnings.{begins_itself, begins_through, calls_added, calls_other}
use Rattle.bfd_turn.proofs.Seats.{at_below, at_same, total_set, has_number}
use Rattle.bfd_turn.proofs.Kept.{idle_holds_not, idle_lives, holding_lives, no_place, one_place, fits_moved, kept_of, one_seat}
use Rattle.bfd_turn.proofs.Loads.{Rule, word_is, fits_of, reads}

module _ {V N B : Type 0} (notes : V → List N) (by : N → ℕ) (base : V → B) where
  -- at an even word the value is at home
  home_at_even : {s : State (Option V) (View N B)} (k : Rule notes by base s) → k.now % 2 ≡ 0
      → AtHome notes base k.history k.lock_base k.now s
  home_at_even k even = ⊎_elim (λ a. a) (λ o. let odd = o.odd in absurd (omega arith)) k.place

  -- the exchange wins
  wins : (id : ℕ) (v : View N B) (c : List (ℕ × Option V)) (slots read : ℕ) → v.role ≡ Idle → read % 2 ≡ 0 → read + 2 < 2 ^ 64
      → (s : State (Option V) (View N B)) (k : Rule notes by base s) → get_elem? s.views id ≡ some v → (n : ℕ) → n ≡ k.now → n ≡ read
      → (w : View N B) × (a : Act (Option V)) × Valid s.homes c a × Rule notes by base (stepped s 0 (read + 1) id c w a)
      × took notes by base (step slots 0 read (read + 1) none) (v, c) n (w, carried_after c a)
  wins id v c slots read idle even room s k at n is hit =
      let f = fits_of notes by base s k id v at idle in let reached = f.word in
      let a = home_at_even k (cc ((sym is ∙ hit))) in let twice = a.even in
      let x : V = a.value in let w = holding (notes x) (n + 1) v in
      let sum = total_set s.views id v w at in
      let seen_all = a.notes_are in
      let after : State (Option V) (View N B) = record {
        words = set s.words 0 (read + 1);
        homes = set s.homes 0 none;
        views = set s.views id w;
      } in
      let out : Out k.history (read + 1) (set s.homes 0 none ≡ none ∷ []) (set s.views id w) = record {
        holder = id;
        view = w;
        at = set_here s.views id w (at_below s.views id v at);
        holds = refl;
        seen = seen_all;
        word = cc;
        odd = omega arith;
        away = cc;
        alone = λ j u e holds. ⊎_elim (λ (t : (j ≡ id) × (w ≡ u)). t.0)
            (λ (t : (j ≢ id) × (get_elem? s.views j ≡ some u)). absurd (a.nobody j u t.1 holds)) (at_set s.views id j w u e);
      } in
      let rule =
      one_seat notes by base s k (set s.words 0 (read + 1)) (set s.homes 0 none) (read + 1) id v w at (holding_lives {r = Holding} refl)
      (ap (λ ws. set ws 0 (read + 1)) k.words) (omega arith) (omega arith) (inr out)
      record {
        seen = ([], sym seen_all ∙ sym (append-nil (notes x)));
        reported = f.reported;
        calls_seen = ap (calls by v.number) (sym seen_all);
        calls_own = f.calls_own;
        base = f.base;
        word = omega arith;
        place = f.place;
        first = f.first;
        others = f.others;
      } (λ _. seen_all) in
      let lent : Lent notes by base v n x = record {
        reached = omega arith;
        room = omega arith;
        base_is = cc;
        adds = (f.seen.0, cc, calls_added by v.number v.seen f.seen.0 f.seen.1 f.calls_seen);
        kept = kept_of by f k.kept seen_all;
      } in
      (w, takes 0 (Some x), cc, rule, record { won = λ _. (x, refl, lent); lost = λ ne. absurd (ne hit) })

  pub takes_turn : (slots id : ℕ) (v : View N B) (c : List (ℕ × Option V)) (read : ℕ) → v.role ≡ Idle → read % 2 ≡ 0 → read + 2 < 2 ^ 64
      → Allows (Rule notes by base) slots id (v, c) 0 (λ n. either (Rattle.std.proofs.Common.eqb n read) (read + 1) n)
      (took notes by base (step slots 0 read (read + 1) none) (v, c))
  takes_turn slots id v c read idle even room s k deep at fits =
      let n : ℕ = get_or s.words 0 0 in let is = word_is notes by base s k in let reached = (fits_of notes by base s k id v at idle).word in
      let last = k.room in
      exchanged n read (read + 1)
      (λ m. (w : View N B) × (a : Act (Option V)) × Valid s.homes c a × Rule notes by base (stepped s 0 m id c w a)
      × took notes by base (step slots 0 read (read + 1) none) (v, c) n (w, carried_after c a))
      (wins id v c slots read idle even room s k at n is)
      (λ miss. (
        met n v,
        keeps,
        tt,
        reads notes by base s k id v n v.looks at idle (omega arith),
        record { won = λ e. absurd (miss e); lost = λ _. (refl, omega arith, omega arith) },
      ))

  -- the notes at the end of a turn begin with those at its start
  grown : (v : View N B) {x : V} → Grows notes by (known v) x → Begins v.seen (notes x)
  grown v (inl e) = ([], cc (append-nil v.seen))
  grown v (inr t) = (t.0 ∷ [], t.1)

  -- and have as many calls of each other caller
  grown_else : (v : View N B) {x : V} {n : ℕ} → n ≢ v.number → Grows notes by (known v) x → calls by n (notes x) ≡ calls by n v.seen
  grown_else v other (inl e) = cc
  grown_else v {n} other (inr t) = cc (calls_other by n v.seen t.0 (λ e. other (cc)))

  in_hand : List (ℕ × Option V) → Option V
  in_hand [] = None
  in_hand (p ∷ ps) = p.1

  same_value : {x y : V} → ◌≡◌ {A = List (ℕ × Option V)} ((0, Some x) ∷ []) ((0, Some y) ∷ []) → x ≡ y
  unfolding in_hand
  same_value {x} {y} e = let p = ap in_hand e in cc

  -- at what a holder's seat stands
  out_of : (s : State (Option V) (View N B)) (k : Rule notes by base s) (id : ℕ) (v : View N B) → get_elem? s.views id ≡ some v
      → v.role ≡ Holding → Out k.history k.now (s.homes ≡ none ∷ []) s.views
  out_of s k id v at holds = ⊎_elim (λ a. absurd (a.nobody id v at holds)) (λ o. o) k.place

  gives_back : (s : State (Option V) (View N B)) (k : Rule notes by base s) (id : ℕ) (v : View N B) (x : V) (word : ℕ)
      → get_elem? s.views id ≡ some v → v.role ≡ Holding
      → Grows notes by (known v) x → Some (base x) ≡ v.base → word ≡ k.now + 1
      → Rule notes by base record {
        words = set s.words 0 word;
        homes = set s.homes 0 (some (Some x));
        views = set s.views id (idle_after (notes x) v);
      }
  gives_back s k id v x word at holds grows same_base next =
      let o = out_of s k id v at holds in let f = k.live id v at (holding_lives holds) in
      let here = o.alone id v at holds in
      let mine = at_same s.views id _ v (subst (λ j. get_elem? s.views j ≡ some o.view) (sym here) o.at) at in
      let seen_all : v.seen ≡ k.history = cc in
      let at_word : v.word ≡ k.now = cc in
      let odd = o.odd in let room = k.room in
      let w = idle_after (notes x) v in
      let sum = total_set s.views id v w at in
      let more : Begins k.history (notes x) = rw (← seen_all) (grown v grows) in
      let else_same : (n : ℕ) → n ≢ v.number → calls by n (notes x) ≡ calls by n k.history = λ n other. cc (grown_else v other grows) in
      let base_is = one_place (sym same_base) f.base in
      record {
        history = notes x;
        lock_base = k.lock_base;
        now = word;
        made = k.made;
        joined = k.joined;
        seat = k.seat;
        words = cc;
        room = omega arith;
        place = inl record {
          value = x;
          home = cc;
          notes_are = refl;
          base_is = base_is;
          even = omega arith;
          nobody = λ j u e hold. ⊎_elim (λ (t : (j ≡ id) × (w ≡ u)). idle_holds_not _ (sym (ap (λ (y : View N B). y.role) t.1)) hold)
              (λ (t : (j ≢ id) × (get_elem? s.views j ≡ some u)). t.0 (o.alone j u t.1 hold ∙ sym here)) (at_set s.views id j w u e);
        };
        live = λ j u e alive. ⊎_elim
            (λ (t : (j ≡ id) × (w ≡ u)). subst (λ (y : ℕ × View N B). Fits by (notes x) k.lock_base word k.made k.joined k.seat y.0 y.1)
            (λ z. (sym t.0 z, t.1 z)) record {
              seen = begins_itself (notes x);
              reported = begins_through v.reported _ _ f.reported more;
              calls_seen = refl;
              calls_own = refl;
              base = f.base;
              word = omega arith;
              place = f.place;
              first = f.first;
              others = f.others;
            }) (λ (t : (j ≢ id) × (get_elem? s.views j ≡ some u)). let old = k.live j u t.1 alive in
            fits_moved by word k.made k.joined k.seat old more
            (else_same u.number (λ same. t.0 (one_place (ap k.seat (sym same) ∙ old.place) f.place))) (omega arith) refl
            (λ _. (refl, refl)))
            (at_set s.views id j w u e);
        spent = λ j u e joined. ⊎_elim (λ (t : (j ≡ id) × (w ≡ u)). absurd (idle_lives _ (sym (ap (λ (y : View N B). y.role) t.1)) joined))
            (λ (t : (j ≢ id) × (get_elem? s.views j ≡ some u)). k.spent j u t.1 joined) (at_set s.views id j w u e);
        whole = (id, w, set_here s.views id w (at_below s.views id v at), idle_lives Idle refl, refl);
        unmade = λ n ne new. let old = k.unmade n ne new in
            (old.0, else_same n (λ same. no_place old.0 (ap k.seat same ∙ f.place)) ∙ old.1);
        ended = k.ended;
        kept = λ i d below. let j = get_or k.joined i d in
            else_same j.0 (λ same. no_place (k.ended j.0 (has_number k.joined i d below)).1 (ap k.seat same ∙ f.place)) ∙ k.kept i d below;
      }

  gives_turn : (slots id : ℕ) (v : View N B) (x : V) → v.role ≡ Holding → Grows notes by (known v) x → Some (base x) ≡ v.base
      → Allows (Rule notes by base) slots id (v, (0, Some x) ∷ []) 0 (λ n. (n + 1) % 2 ^ 64)
      (released notes (step slots 0 1 0 none) (v, (0, Some x) ∷ []))
  gives_turn slots id v x holds grows same_base s k deep at fits =
      let n : ℕ = get_or s.words 0 0 in let is = word_is notes by base s k in let room = k.room in (
        idle_after (notes x) v,
        gives,
        tt,
        gives_back s k id v x ((n + 1) % 2 ^ 64) at holds grows same_base (omega arith),
        (λ y e. cc (same_value e)),
      )

  -- the same, at a seat that holds the value in its hand, and for what clauses see of it
  pub gives_at : (slots id : ℕ) {m : Me (Option V) (View N B)} {v : View N B} {x : V} {seen : Known N B} {y : V} → m ≡ (v, (0, Some x) ∷ [])
      → v.role ≡ Holding → known v ≡ seen → x ≡ y
      → Grows notes by seen y → Some (base y) ≡ seen.base
      → Allows (Rule notes by base) slots id m 0 (λ n. (n + 1) % 2 ^ 64) (released notes (step slots 0 1 0 none) m)
  gives_at slots id {v} {x} is holds same same' grows same_base = rw is (gives_turn slots id v x holds
      (subst (λ (q : Known N B × V). Grows notes by q.0 q.1) (λ i. (sym same i, sym same' i)) grows)
      (subst (λ (q : Known N B × V). Some (base q.1) ≡ q.0.base) (λ i. (sym same i, sym same' i)) same_base))
