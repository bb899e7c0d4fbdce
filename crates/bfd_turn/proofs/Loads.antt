-- A new lock, and a load of its word.
use Rattle.bfd_turn.proofs.Common.{◌≡◌, ◌≢◌, ℕ, zero, suc, ◌*◌, ◌^◌, ◌<◌, ◌≤◌, List, [], ◌∷◌, ◌++◌, set, get_or, sym, refl, ap, subst, inl}
use Rattle.bfd_turn.proofs.Common.{arith, Option, Some, None, some, none, some-injective, some-ne-none, get_elem?, State, step, keeps}
use Rattle.bfd_turn.proofs.Common.{Allows, opening, View, Idle, Joined, newcomer, at_word, having_looked, Shows, looked, checked, Fits}
use Rattle.bfd_turn.proofs.Common.{Keeps}
use Rattle.bfd_turn.proofs.Beginnings.{begins_begins}
use Rattle.bfd_turn.proofs.Seats.{put, put_here, total_set}
use Rattle.bfd_turn.proofs.Kept.{idle_holds_not, idle_lives, quiet_to, quiet_from, Place, place_moves, one_seat}

only : {A : Type 0} (i : ℕ) (a : A) {b : A} → get_elem? (a ∷ []) i ≡ some b → (i ≡ 0) × (a ≡ b)
only zero a {b} e = (refl, some-injective a b e)
only (suc i) a {b} e = absurd (some-ne-none b (sym e))

module _ {V N B : Type 0} (notes : V → List N) (by : N → ℕ) (base : V → B) where
  -- a new lock
  pub opens : {x : V} {turns : ℕ} → notes x ≡ [] → turns < 2 ^ 63
      → Keeps notes by base (opening (2 * turns ∷ []) (Some x ∷ []) (newcomer (base x) turns))
  opens {x} {turns} none_yet few = record {
    history = [];
    lock_base = base x;
    now = 2 * turns;
    made = [];
    joined = [];
    seat = put (λ _. None) 0 (Some 0);
    words = refl;
    room = omega arith;
    place = inl record {
      value = x;
      home = refl;
      notes_are = none_yet;
      base_is = refl;
      even = omega arith;
      nobody = λ i v e. rw (← (only i (newcomer (base x) turns) e).1) (idle_holds_not Idle refl);
    };
    live = λ i v e alive. let t = only i (newcomer (base x) turns) e in
        subst (λ (p : ℕ × View N B). Fits by [] (base x) (2 * turns) [] [] (put (λ _. None) 0 (Some 0)) p.0 p.1) (λ z. (sym t.0 z, t.1 z))
        record {
          seen = ([], refl);
          reported = ([], refl);
          calls_seen = refl;
          calls_own = refl;
          base = refl;
          word = omega arith;
          place = put_here (λ _. None) 0 (Some 0);
          first = λ _. (refl, refl);
          others = λ ne. absurd (ne refl);
        };
    spent = λ i v e joined. absurd (subst (λ u. u.role ≢ Joined) (only i (newcomer (base x) turns) e).1 (idle_lives Idle refl) joined);
    whole = (0, newcomer (base x) turns, refl, idle_lives Idle refl, refl);
    unmade = λ n ne _. (Rattle.bfd_turn.proofs.Seats.put_else (λ _. None) 0 (Some 0) n ne, refl);
    ended = λ n h. absurd (cc);
    kept = λ k d below. absurd (omega arith);
  }

  abbrev pub Rule : State (Option V) (View N B) → Type 0
  Rule s = Keeps notes by base s

  pub word_is : (s : State (Option V) (View N B)) (k : Rule s) → get_or s.words 0 0 ≡ k.now
  word_is s k = cc

  pub fits_of : (s : State (Option V) (View N B)) (k : Rule s) (i : ℕ) (v : View N B) → get_elem? s.views i ≡ some v → v.role ≡ Idle
      → Fits by k.history k.lock_base k.now k.made k.joined k.seat i v
  fits_of s k i v at idle = k.live i v at (idle_lives _ idle)

  -- what a load shows of a view
  shows : {s : State (Option V) (View N B)} (k : Rule s) {i : ℕ} {v : View N B}
      → Fits by k.history k.lock_base k.now k.made k.joined k.seat i v → Shows by v (get_or s.words 0 0)
  shows {s} k {v} f = let is = word_is s k in let reached = f.word in let room = k.room in record {
    reached = omega arith;
    room = omega arith;
    begins = λ le. begins_begins v.reported v.seen _ f.reported f.seen le;
    own = cc;
  }

  -- A load, after which the seat has the view w: it knows what v knew, at a word that the lock's word has reached
  pub reads : (s : State (Option V) (View N B)) (k : Rule s) (i : ℕ) (v : View N B) (word : ℕ) (looks : List ℕ)
      → get_elem? s.views i ≡ some v → v.role ≡ Idle → word ≤ k.now
      → Rule record { words = set s.words 0 (get_or s.words 0 0); homes = s.homes; views = set s.views i (at_word word looks v) }
  reads s k i v word looks at idle le = let n : ℕ = get_or s.words 0 0 in let is = word_is s k in let room = k.room in let f =
      fits_of s k i v at idle in
      let sum = total_set s.views i v (at_word word looks v) at in
      let place = subst (λ m. Place notes base k.history k.lock_base m s) (sym is) k.place in
      one_seat notes by base s k (set s.words 0 n) s.homes n i v (at_word word looks v) at (idle_lives _ idle)
      (ap (λ ws. set ws 0 n) k.words) (omega arith) (omega arith)
      (place_moves notes base k.history k.lock_base s (set s.words 0 n) (set s.views i (at_word word looks v)) n (omega arith)
      (quiet_to s.views i v (at_word word looks v) at (idle_holds_not _ idle))
      (quiet_from s.views i v (at_word word looks v) at (idle_holds_not _ idle)) place)
      record {
        seen = f.seen;
        reported = f.reported;
        calls_seen = f.calls_seen;
        calls_own = f.calls_own;
        base = f.base;
        word = omega arith;
        place = f.place;
        first = f.first;
        others = f.others;
      }
      (λ e. e)

  pub looks : (slots id : ℕ) (v : View N B) (c : List (ℕ × Option V)) → v.role ≡ Idle
      → Allows Rule slots id (v, c) 0 (λ n. n) (looked by (step slots 0 0 0 none) (v, c))
  looks slots id v c idle s k deep at fits = let is = word_is s k in (
    having_looked (get_or s.words 0 0) v,
    keeps,
    tt,
    reads s k id v (get_or s.words 0 0) (v.looks ++ get_or s.words 0 0 ∷ []) at idle (omega arith),
    (refl, shows k (fits_of s k id v at idle)),
  )

  pub checks : (slots id : ℕ) (v : View N B) (c : List (ℕ × Option V)) → v.role ≡ Idle
      → Allows Rule slots id (v, c) 0 (λ n. n) (checked by (step slots 0 0 0 none) (v, c))
  checks slots id v c idle s k deep at fits = let f = fits_of s k id v at idle in
      (v, keeps, tt, reads s k id v v.word v.looks at idle f.word, (refl, shows k f))
