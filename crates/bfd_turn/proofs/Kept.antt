-- What stays of the rule where a step changes other views.
use Rattle.bfd_turn.proofs.Common.{◌≡◌, ◌≢◌, ◌⊎◌, ℕ, ◌+◌, ◌^◌, ◌<◌, ◌≤◌, List, [], ◌∷◌, ◌++◌, set, sym, refl, ap, ◌∙◌, subst, inl, inr}
use Rattle.bfd_turn.proofs.Common.{⊎_elim, arith, Option, Some, None, some, none, dite, ℕ_discrete, get_elem?, State, at_set, set_here}
use Rattle.bfd_turn.proofs.Common.{set_else, View, Known, known, known_of, Idle, Holding, Joined, Begins, calls, AllKept, total_taken, Fits}
use Rattle.bfd_turn.proofs.Common.{AtHome, Out, Keeps, Role}
use mathlib.Core.Option as maybe
use Rattle.bfd_turn.proofs.Beginnings.{begins_through}
use Rattle.bfd_turn.proofs.Seats.{at_below, at_same}

pub idle_holds_not : (r : Role) → r ≡ Idle → r ≢ Holding
idle_holds_not r p q = absurd cc

pub idle_lives : (r : Role) → r ≡ Idle → r ≢ Joined
idle_lives r p q = absurd cc

pub holding_lives : {r : Role} → r ≡ Holding → r ≢ Joined
holding_lives p q = absurd cc

pub no_place : {X : Type 0} {o : Option X} {i : X} → o ≡ None → o ≡ Some i → ⊥
no_place {i} p q = absurd cc

pub one_place : {X : Type 0} {o : Option X} {i j : X} → o ≡ Some i → o ≡ Some j → i ≡ j
one_place {i} {j} p q = cc

module _ {N B : Type 0} (by : N → ℕ) where
  -- a view that a step does not change
  pub fits_moved : {h : List N} {lb : B} {now : ℕ} {made : List ℕ} {joined : List (ℕ × List N)} {seat : ℕ
      → Option ℕ} {i : ℕ} {v : View N B} {h' : List N} (now' : ℕ) (made' : List ℕ) (joined' : List (ℕ × List N)) (seat' : ℕ → Option ℕ)
      → Fits by h lb now made joined seat i v → Begins h h' → calls by v.number h' ≡ calls by v.number h → now ≤ now'
      → seat' v.number ≡ seat v.number
      → (v.number ≡ 0 → (made' ≡ made) × (joined' ≡ joined)) → Fits by h' lb now' made' joined' seat' i v
  fits_moved {h} {v} {h'} now' made' joined' seat' f more same later stays kept = record {
    seen = begins_through v.seen h h' f.seen more;
    reported = begins_through v.reported h h' f.reported more;
    calls_seen = cc;
    calls_own = cc;
    base = f.base;
    word = omega arith;
    place = cc;
    first = λ z. ((f.first z).0 ∙ sym (kept z).0, (f.first z).1 ∙ sym (kept z).1);
    others = f.others;
  }

  -- what is kept of the joined passes is true of each view's own list, which is the rule's or empty
  pub kept_of : {h : List N} {lb : B} {now : ℕ} {made : List ℕ} {joined : List (ℕ × List N)} {seat : ℕ
      → Option ℕ} {i : ℕ} {v : View N B} {notes : List N}
      → Fits by h lb now made joined seat i v → AllKept by joined h → notes ≡ h → AllKept by v.joined notes
  kept_of {joined} {v} {notes} f kept is =
      let all : AllKept by joined notes = rw is kept in
      dite (ℕ_discrete v.number 0) (λ z. rw ((f.first z).1) all) (λ ne. rw (f.others ne) (λ k d below. absurd (omega arith)))

module _ {N B : Type 0} (views : List (View N B)) (i : ℕ) (v w : View N B) (at : get_elem? views i ≡ some v) where
  pub quiet_to : v.role ≢ Holding → (j : ℕ) (u : View N B) → get_elem? views j ≡ some u → u.role ≡ Holding
      → get_elem? (set views i w) j ≡ some u
  quiet_to quiet j u e holds = set_else views i j w
      (λ same. quiet (cc (at_same views i v u at (subst (λ k. get_elem? views k ≡ some u) same e)))) ∙ e

  pub quiet_from : w.role ≢ Holding → (j : ℕ) (u : View N B) → get_elem? (set views i w) j ≡ some u → u.role ≡ Holding
      → get_elem? views j ≡ some u
  quiet_from quiet j u e holds = ⊎_elim (λ (t : (j ≡ i) × (w ≡ u)). absurd (quiet (ap (λ (x : View N B). x.role) t.1 ∙ holds)))
      (λ (t : (j ≢ i) × (get_elem? views j ≡ some u)). t.1) (at_set views i j w u e)

module _ {V N B : Type 0} (notes : V → List N) (base : V → B) (h : List N) (lb : B) where
  abbrev pub Place : ℕ → State (Option V) (View N B) → Type 0
  Place now s = AtHome notes base h lb now s ⊎ Out h now (s.homes ≡ none ∷ []) s.views

  -- the value stays where it is, and the holder of the turn still holds it
  pub place_moves : (s : State (Option V) (View N B)) (words : List ℕ) (views : List (View N B)) (now : ℕ)
      → total_taken views ≡ total_taken s.views
      → ((j : ℕ) (u : View N B) → get_elem? s.views j ≡ some u → u.role ≡ Holding → get_elem? views j ≡ some u)
      → ((j : ℕ) (u : View N B) → get_elem? views j ≡ some u → u.role ≡ Holding → get_elem? s.views j ≡ some u)
      → Place now s → Place now record { words = words; homes = s.homes; views = views }
  place_moves s words views now sum to from (inl a) = inl record {
    value = a.value;
    home = a.home;
    notes_are = a.notes_are;
    base_is = a.base_is;
    even = cc;
    nobody = λ j u e holds. a.nobody j u (from j u e holds) holds;
  }
  place_moves s words views now sum to from (inr o) = inr record {
    holder = o.holder;
    view = o.view;
    at = to o.holder o.view o.at o.holds;
    holds = o.holds;
    seen = o.seen;
    word = o.word;
    odd = cc;
    away = o.away;
    alone = λ j u e holds. o.alone j u (from j u e holds) holds;
  }

module _ {V N B : Type 0} (notes : V → List N) (by : N → ℕ) (base : V → B) where
  -- one live view changes, and the history stays
  pub one_seat : (s : State (Option V) (View N B)) (k : Keeps notes by base s) (words : List ℕ) (homes : List (maybe.Option (Option V)))
      (now : ℕ) (i : ℕ) (v w : View N B)
      → get_elem? s.views i ≡ some v → w.role ≢ Joined → words ≡ now ∷ [] → now + 1 < 2 ^ 64 → k.now ≤ now
      → Place notes base k.history k.lock_base now record { words = words; homes = homes; views = set s.views i w }
      → Fits by k.history k.lock_base now k.made k.joined k.seat i w → (v.seen ≡ k.history → w.seen ≡ k.history)
      → Keeps notes by base record { words = words; homes = homes; views = set s.views i w }
  one_seat s k words homes now i v w at lives ws room later place fits whole = record {
    history = k.history;
    lock_base = k.lock_base;
    now = now;
    made = k.made;
    joined = k.joined;
    seat = k.seat;
    words = ws;
    room = room;
    place = place;
    live = λ j u e alive. ⊎_elim
        (λ (t : (j ≡ i) × (w ≡ u)). subst (λ (x : ℕ × View N B). Fits by k.history k.lock_base now k.made k.joined k.seat x.0 x.1)
        (λ z. (sym t.0 z, t.1 z)) fits)
        (λ (t : (j ≢ i) × (get_elem? s.views j ≡ some u)). fits_moved by now k.made k.joined k.seat (k.live j u t.1 alive) ([], begins_all)
        refl later refl (λ _. (refl, refl)))
        (at_set s.views i j w u e);
    spent = λ j u e joined. ⊎_elim
        (λ (t : (j ≡ i) × (w ≡ u)). absurd (lives (ap (λ (x : View N B). x.role) t.1 ∙ joined)))
        (λ (t : (j ≢ i) × (get_elem? s.views j ≡ some u)). k.spent j u t.1 joined)
        (at_set s.views i j w u e);
    whole = dite (ℕ_discrete k.whole.0 i)
        (λ same. (
          i,
          w,
          set_here s.views i w (at_below s.views i v at),
          lives,
          whole (cc (at_same s.views i v k.whole.1 at (subst (λ j. get_elem? s.views j ≡ some k.whole.1) same k.whole.2))),
        ))
        (λ other. (k.whole.0, k.whole.1, set_else s.views i k.whole.0 w other ∙ k.whole.2, k.whole.3, k.whole.4));
    unmade = k.unmade;
    ended = k.ended;
    kept = k.kept;
  }
    where
      begins_all : k.history ≡ k.history ++ []
      begins_all = sym (Rattle.std.proofs.lemmas.List.append-nil k.history)

module _ {N B : Type 0} where
  -- the seat that a pass keeps is idle
  pub sits : {views : List (View N B)} {m : View N B} {number : ℕ} → (v : View N B) × (views ≡ v ∷ []) × (v.role ≡ Idle)
      × (number ≡ v.number) → views ≡ m ∷ [] → m.role ≡ Idle
  sits {m} inv e = cc

  -- what clauses see of a pass is what they see of its seat
  pub sits_known : {views : List (View N B)} {m : View N B} {seen : Known N B} → views ≡ m ∷ [] → known_of views ≡ seen → known m ≡ seen
  sits_known e is = cc
