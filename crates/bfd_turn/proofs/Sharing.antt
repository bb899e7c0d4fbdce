-- Caller 0 makes a pass, joins one, and closes the lock.
use Rattle.bfd_turn.proofs.Common.{◌≡◌, ◌≢◌, ◌⊎◌, ℕ, zero, suc, ◌*◌, ◌<◌, ◌≤◌, Bool, true, false, List, [], ◌∷◌, ◌++◌, length, set, sym}
use Rattle.bfd_turn.proofs.Common.{refl, ap, ◌∙◌, subst, inl, inr, ⊎_elim, arith, Option, Some, None, All, some, some-injective, dite}
use Rattle.bfd_turn.proofs.Common.{ℕ_discrete, get_elem?, map-append, All-append, State, Splits, Joins, Final, Seen, at_set, set_here}
use Rattle.bfd_turn.proofs.Common.{set_else, at_longer, View, Known, Idle, Holding, Joined, longer, calls, has, numbers_of, known, parent}
use Rattle.bfd_turn.proofs.Common.{offspring, glued, joined_view, AllKept, IsNew, AllJoined, Fits, AtHome, Role, true_from_ne_false}
use Rattle.bfd_turn.proofs.Beginnings.{begins_itself, begins_begins, begins_whole, longer_begins, shorter_begins, longer_length}
use Rattle.bfd_turn.proofs.Beginnings.{calls_front, calls_between}
use Rattle.bfd_turn.proofs.Seats.{has_above, has_older, has_either, has_not, put, put_here, put_else, put_none, at_below, at_same}
use Rattle.bfd_turn.proofs.Seats.{at_newest, total_set, total_newest, total_one}
use Rattle.bfd_turn.proofs.Kept.{idle_holds_not, idle_lives, holding_lives, no_place, one_place, fits_moved, kept_of, quiet_to, quiet_from}
use Rattle.bfd_turn.proofs.Kept.{place_moves}
use Rattle.bfd_turn.proofs.Loads.{Rule, fits_of}

module _ {V N B : Type 0} (notes : V → List N) (by : N → ℕ) (base : V → B) where
  splits : (id : ℕ) (v : View N B) (n : ℕ) → v.role ≡ Idle → v.number ≡ 0 → 0 < n → IsNew n (known v)
      → Splits (Rule notes by base) id v (parent n v) (offspring n v)
  splits id v n idle first positive new s k at =
      let f = fits_of notes by base s k id v at idle in
      let ne : n ≢ 0 = (λ e. omega arith) in
      let none_yet : has n k.made ≡ false = cc (((f.first first).0), has_above v.made new) in
      let unmade = k.unmade n ne none_yet in
      let l = parent n v in let r = offspring n v in
      let ls = set s.views id l in
      let made : List ℕ = k.made ++ n ∷ [] in let seat = put k.seat n (Some (length ls)) in
      let sum = total_set s.views id v l at in
      let sum' = total_newest ls r in
      let older : (j : ℕ) (u : View N B) → get_elem? (ls ++ r ∷ []) j ≡ some u
      → (get_elem? ls j ≡ some u) ⊎ ((j ≡ length ls) × (r ≡ u)) = λ j u e. ⊎_elim
      (λ (t : (j < length ls) × (get_elem? ls j ≡ some u)). inl t.1) (λ (t : (j ≡ length ls) × (r ≡ u)). inr t) (at_newest ls r j e) in
      record {
        history = k.history;
        lock_base = k.lock_base;
        now = k.now;
        made = made;
        joined = k.joined;
        seat = seat;
        words = k.words;
        room = k.room;
        place = place_moves notes base k.history k.lock_base s s.words (ls ++ r ∷ []) _ (omega arith)
            (λ j u e holds. at_longer ls (r ∷ []) j u (quiet_to s.views id v l at (idle_holds_not _ idle) j u e holds))
            (λ j u e holds. ⊎_elim
            (λ (t : get_elem? ls j ≡ some u). quiet_from s.views id v l at (idle_holds_not _ idle) j u t holds)
            (λ (t : (j ≡ length ls) × (r ≡ u)). absurd (idle_holds_not _ (sym (ap (λ (y : View N B). y.role) t.1)) holds)) (older j u e))
            k.place;
        live = λ j u e alive. ⊎_elim (λ (t : get_elem? ls j ≡ some u). ⊎_elim
            (λ (q : (j ≡ id) × (l ≡ u)). subst (λ (y : ℕ × View N B). Fits by k.history k.lock_base k.now made k.joined seat y.0 y.1)
            (λ z. (sym q.0 z, q.1 z)) record {
              seen = f.seen;
              reported = f.reported;
              calls_seen = f.calls_seen;
              calls_own = f.calls_own;
              base = f.base;
              word = f.word;
              place = put_else k.seat n (Some (length ls)) v.number (λ e. ne (sym e ∙ first)) ∙ f.place;
              first = λ z. (ap (λ ms. ms ++ n ∷ []) (f.first z).0, (f.first z).1);
              others = f.others;
            }) (λ (q : (j ≢ id) × (get_elem? s.views j ≡ some u)). let old = k.live j u q.1 alive in
            fits_moved by k.now made k.joined seat old (begins_itself k.history) refl (omega arith)
            (put_else k.seat n (Some (length ls)) u.number (λ same. no_place unmade.0 (ap k.seat (sym same) ∙ old.place)))
            (λ z. absurd (q.0 (one_place (ap k.seat (sym z) ∙ old.place) (ap k.seat (sym first) ∙ f.place))))) (at_set s.views id j l u t))
            (λ (t : (j ≡ length ls) × (r ≡ u)). subst (λ (y : ℕ × View N B). Fits by k.history k.lock_base k.now made k.joined seat y.0 y.1)
            (λ z. (sym t.0 z, t.1 z)) record {
              seen = f.seen;
              reported = (k.history, refl);
              calls_seen = unmade.1 ∙ sym (calls_front by n v.seen f.seen unmade.1);
              calls_own = unmade.1;
              base = f.base;
              word = f.word;
              place = put_here k.seat n (Some (length ls));
              first = λ z. absurd (ne z);
              others = λ _. refl;
            }) (older j u e);
        spent = λ j u e joined. ⊎_elim (λ (t : get_elem? ls j ≡ some u). ⊎_elim
            (λ (q : (j ≡ id) × (l ≡ u)). absurd (idle_lives _ (sym (ap (λ (y : View N B). y.role) q.1) ∙ idle) joined))
            (λ (q : (j ≢ id) × (get_elem? s.views j ≡ some u)). k.spent j u q.1 joined) (at_set s.views id j l u t))
            (λ (t : (j ≡ length ls) × (r ≡ u)). absurd (idle_lives _ (sym (ap (λ (y : View N B). y.role) t.1)) joined)) (older j u e);
        whole = dite (ℕ_discrete k.whole.0 id) (λ same. (
          id,
          l,
          at_longer ls (r ∷ []) id l (set_here s.views id l (at_below s.views id v at)),
          idle_lives _ idle,
          cc (at_same s.views id v k.whole.1 at (subst (λ j. get_elem? s.views j ≡ some k.whole.1) same k.whole.2)),
        ))
            (λ other. (
              k.whole.0,
              k.whole.1,
              at_longer ls (r ∷ []) k.whole.0 k.whole.1 (set_else s.views id k.whole.0 l other ∙ k.whole.2),
              k.whole.3,
              k.whole.4,
            ));
        unmade = λ m z h. let t = has_not m k.made n h in let old = k.unmade m z t.0 in
            (put_else k.seat n (Some (length ls)) m t.1 ∙ old.0, old.1);
        ended = λ m h. let old = k.ended m h in (
          old.0,
          put_else k.seat n (Some (length ls)) m (λ same. Rattle.std.proofs.lemmas.Bool.false≢true (cc)) ∙ old.1,
          has_older m k.made n old.2,
        );
        kept = k.kept;
      }

  joins : (id : ℕ) (v : View N B) (od : ℕ) (w : View N B) → v.role ≡ Idle → v.number ≡ 0 → w.role ≡ Idle → w.number ≢ 0
      → Joins (Rule notes by base) id v od w (glued by v w) joined_view
  joins id v od w idle first idle' second s k at apart at' =
      let f = fits_of notes by base s k id v at idle in
      let b = glued by v w in
      let atw = sym (set_else s.views id od b apart) ∙ at' in
      let g = fits_of notes by base s k od w atw idle' in
      let m : ℕ = w.number in
      let l1 = set s.views id b in let l2 = set l1 od joined_view in
      let sum = total_set s.views id v b at in
      let sum' = total_set l1 od w joined_view at' in
      let seat = put k.seat m None in
      let joined : List (ℕ × List N) = k.joined ++ (m, calls by m w.seen) ∷ [] in
      let lb = longer_begins v.seen w.seen _ f.seen g.seen in
      let lens = longer_length v.seen w.seen in
      let reached = f.word in let reached' = g.word in
      let stays : id ≢ od = λ e. apart (sym e) in
      let here = set_else l1 od id joined_view stays ∙ set_here s.views id b (at_below s.views id v at) in
      record {
        history = k.history;
        lock_base = k.lock_base;
        now = k.now;
        made = k.made;
        joined = joined;
        seat = seat;
        words = k.words;
        room = k.room;
        place = place_moves notes base k.history k.lock_base s s.words l2 _ (omega arith)
            (λ j u e holds. quiet_to l1 od w joined_view at' (idle_holds_not _ idle') j u
            (quiet_to s.views id v b at (idle_holds_not _ idle) j u e holds) holds)
            (λ j u e holds. quiet_from s.views id v b at (idle_holds_not _ idle) j u
            (quiet_from l1 od w joined_view at' (λ p. let q : Joined ≡ Holding = p in absurd cc) j u e holds) holds)
            k.place;
        live = λ j u e alive. ⊎_elim
            (λ (t : (j ≡ od) × (joined_view ≡ u)). absurd (alive (sym (ap (λ (y : View N B). y.role) t.1))))
            (λ (t : (j ≢ od) × (get_elem? l1 j ≡ some u)). ⊎_elim
            (λ (q : (j ≡ id) × (b ≡ u)). subst (λ (y : ℕ × View N B). Fits by k.history k.lock_base k.now k.made joined seat y.0 y.1)
            (λ z. (sym q.0 z, q.1 z)) record {
              seen = lb;
              reported = shorter_begins v.seen w.seen _ f.seen g.seen;
              calls_seen = calls_between by v.number v.seen _ _ (begins_begins v.seen (longer v.seen w.seen) _ f.seen lb lens.0) lb
                  f.calls_seen;
              calls_own = f.calls_seen;
              base = f.base;
              word = omega arith;
              place = put_else k.seat m None v.number (λ e. second (sym e ∙ first)) ∙ f.place;
              first = λ z. ((f.first z).0, ap (λ js. js ++ (m, calls by m w.seen) ∷ []) (f.first z).1);
              others = λ z. absurd (z first);
            })
            (λ (q : (j ≢ id) × (get_elem? s.views j ≡ some u)). let old = k.live j u q.1 alive in
            fits_moved by {h = k.history} {lb = k.lock_base} {now = k.now} {made = k.made} {joined = k.joined} {seat = k.seat} {i = j} {v =
            u} {h' = k.history} k.now k.made joined seat old (begins_itself k.history) refl (omega arith)
            (put_else k.seat m None u.number (λ same. t.0
            (one_place {o = k.seat m} {i = j} {j = od} (ap k.seat (sym same) ∙ old.place) g.place)))
            (λ z. absurd (q.0 (one_place {o = k.seat 0} {i = j} {j = id} (ap k.seat (sym z) ∙ old.place)
            (ap k.seat (sym first) ∙ f.place)))))
            (at_set s.views id j b u t.1))
            (at_set l1 od j joined_view u e);
        spent = λ j u e gone. ⊎_elim
            (λ (t : (j ≡ od) × (joined_view ≡ u)). sym (ap (λ (y : View N B). y.taken) t.1))
            (λ (t : (j ≢ od) × (get_elem? l1 j ≡ some u)). ⊎_elim
            (λ (q : (j ≡ id) × (b ≡ u)). absurd (idle_lives _ (sym (ap (λ (y : View N B). y.role) q.1) ∙ idle) gone))
            (λ (q : (j ≢ id) × (get_elem? s.views j ≡ some u)). k.spent j u q.1 gone)
            (at_set s.views id j b u t.1))
            (at_set l1 od j joined_view u e);
        whole =
            let as_long : length k.history ≤ length (longer v.seen w.seen) → (i : ℕ) × (y : View N B) × (get_elem? l2 i ≡ some y)
            × (y.role ≢ Joined) × (y.seen ≡ k.history) =
            λ le. (id, b, here, idle_lives _ idle, begins_whole (longer v.seen w.seen) _ lb le) in
            dite (ℕ_discrete k.whole.0 id)
            (λ same. let e = at_same s.views id v k.whole.1 at (subst (λ j. get_elem? s.views j ≡ some k.whole.1) same k.whole.2) in
            let n : length v.seen ≡ length k.history = cc in as_long (omega (arith, lens)))
            (λ ni. dite (ℕ_discrete k.whole.0 od)
            (λ same. let e = at_same s.views od w _ atw (subst (λ j. get_elem? s.views j ≡ some k.whole.1) same k.whole.2) in
            let n : length w.seen ≡ length k.history = cc in as_long (omega (arith, lens)))
            (λ no. (
              k.whole.0,
              k.whole.1,
              cc (set_else l1 od k.whole.0 joined_view no, set_else s.views id k.whole.0 b ni),
              k.whole.3,
              k.whole.4,
            )));
        unmade = λ n z h. let old = k.unmade n z h in (put_none k.seat m n (λ _. old.0), old.1);
        ended = λ n h. ⊎_elim
            (λ (t : has n (numbers_of k.joined) ≡ true). let old = k.ended n t in (old.0, put_none k.seat m n (λ _. old.1), old.2))
            (λ (t : m ≡ n). subst (λ y. (y ≢ 0) × (seat y ≡ None) × (has y k.made ≡ true)) t (
              second,
              put_here k.seat m None,
              true_from_ne_false (has m k.made)
                  (λ new. no_place {o = k.seat m} {i = od} (k.unmade m second new).0 g.place),
            ))
            (has_either n (numbers_of k.joined) m (sym
            (ap (has n) (map-append (λ (p : ℕ × List N). p.0) k.joined ((m, calls by m w.seen) ∷ []))) ∙ h));
        kept = All-append (λ j. calls by j.0 k.history ≡ j.1) k.joined ((m, calls by m w.seen) ∷ []) k.kept (one k.history g.calls_seen);
      }
    where
      one : (h : List N) → calls by w.number h ≡ calls by w.number w.seen
          → All (λ (j : ℕ × List N). calls by j.0 h ≡ j.1) ((w.number, calls by w.number w.seen) ∷ [])
      one h e zero d below = e
      one h e (suc i) d below = absurd (omega arith)

  -- what the lock holds where caller 0 is the only one
  pub record Closes (s : State (Option V) (View N B)) (v : View N B) : Type 0 where
    pub value : V
    pub home : s.homes ≡ some (Some value) ∷ []
    pub notes_are : notes value ≡ v.seen
    pub base_is : Some (base value) ≡ v.base
    pub word : v.word ≤ 2 * v.taken
    pub kept : AllKept by v.joined (notes value)
    pub unmade : (n : ℕ) → n ≢ 0 → has n v.made ≡ false → calls by n (notes value) ≡ []

  -- where every other pass was joined, caller 0 is the only one
  alone : (s : State (Option V) (View N B)) (k : Rule notes by base s) (id : ℕ) (v : View N B) → get_elem? s.views id ≡ some v
      → v.role ≡ Idle → v.number ≡ 0 → AllJoined (known v)
      → (j : ℕ) (u : View N B) → get_elem? s.views j ≡ some u → u.role ≢ Joined → j ≡ id
  alone s k id v at idle first all j u e alive =
      let f = fits_of notes by base s k id v at idle in let g = k.live j u e alive in let own = f.first first in
      dite (ℕ_discrete u.number 0) (λ z. one_place (ap k.seat (sym z) ∙ g.place) (cc))
      (λ ne. let gone : (c : Bool) → has u.number k.made ≡ c → ⊥ = elim [
        | true ↦ λ h. no_place (k.ended u.number (sym (ap (λ js. has u.number (numbers_of js)) own.1)
            ∙ all u.number (ap (has u.number) own.0 ∙ h))).1 g.place
        | false ↦ λ h. no_place (k.unmade u.number ne h).0 g.place
      ] in absurd (gone (has u.number k.made) refl))

  closes : (s : State (Option V) (View N B)) → Rule notes by base s → (id : ℕ) (v : View N B) → get_elem? s.views id ≡ some v
      → v.role ≡ Idle → v.number ≡ 0 → AllJoined (known v) → Closes s v
  closes s k id v at idle first all =
      let f = fits_of notes by base s k id v at idle in let only = alone s k id v at idle first all in
      let a : AtHome notes base k.history k.lock_base k.now s = ⊎_elim (λ a. a)
      (λ o. absurd (let there : o.holder ≡ id = only o.holder o.view o.at (holding_lives o.holds) in
      let mine = at_same s.views id v o.view at (subst (λ j. get_elem? s.views j ≡ some o.view) there o.at) in
      idle_holds_not _ idle (ap (λ (y : View N B). y.role) mine ∙ o.holds))) k.place in
      let seen_all : v.seen ≡ k.history = cc (at_same s.views id v k.whole.1 at
      (subst (λ j. get_elem? s.views j ≡ some k.whole.1) (only k.whole.0 k.whole.1 k.whole.2 k.whole.3) k.whole.2)) in
      let none_else : (r : Role) (j : ℕ) (u : View N B) → u.role ≡ r → get_elem? s.views j ≡ some u → j ≢ id
      → u.taken ≡ 0 = λ r. elim r as (λ q. (j : ℕ) (u : View N B) → u.role ≡ q → get_elem? s.views j ≡ some u → j ≢ id → u.taken ≡ 0) [
        | Idle ↦ λ j u is e ne. absurd (ne (only j u e (idle_lives _ is)))
        | Holding ↦ λ j u is e ne. absurd (ne (only j u e (holding_lives is)))
        | Joined ↦ λ j u is e ne. k.spent j u e is
      ] in
      let sum = total_one s.views id v at (λ j u e ne. none_else u.role j u refl e ne) in
      let reached = f.word in let even = a.even in
      record {
        value = a.value;
        home = a.home;
        notes_are = cc;
        base_is = cc;
        word = omega arith;
        kept = kept_of by f k.kept a.notes_are;
        unmade = λ n ne new. cc ((k.unmade n ne (sym (ap (has n) (f.first first).0) ∙ new)).1);
      }

  -- the same, for what clauses see of the passes
  pub splits_at : (id : ℕ) (v : View N B) {n number : ℕ} {seen : Known N B} → v.role ≡ Idle → known v ≡ seen → seen.number ≡ 0 → number ≡ n
      → 0 < number → IsNew number seen → Splits (Rule notes by base) id v (parent n v) (offspring n v)
  splits_at id v {n} idle same first is positive new =
      splits id v n idle (cc) (rw (← is) positive) (subst (λ (q : ℕ × Known N B). IsNew q.0 q.1) (λ i. (is i, sym same i)) new)

  pub joins_at : (id : ℕ) (v : View N B) (od : ℕ) (w : View N B) {seen seen' : Known N B} → v.role ≡ Idle → known v ≡ seen → seen.number ≡ 0
      → w.role ≡ Idle → known w ≡ seen' → seen'.number ≢ 0 → Joins (Rule notes by base) id v od w (glued by v w) joined_view
  joins_at id v od w idle same first idle' same' second = joins id v od w idle (cc) idle' (λ z. second (cc))

  -- what clauses say of the value of a lock that was closed by this pass
  pub record Found (seen : Known N B) (x : V) : Type 0 where
    pub notes_are : notes x ≡ seen.seen
    pub base_is : Some (base x) ≡ seen.base
    pub word : seen.word ≤ 2 * seen.taken
    pub kept : AllKept by seen.joined (notes x)
    pub unmade : (n : ℕ) → n ≢ 0 → has n seen.made ≡ false → calls by n (notes x) ≡ []

  pub finds : (id : ℕ) (v : View N B) (seen : Known N B) (ws : List ℕ) (xs : List (Option V)) (o : Option V) → v.role ≡ Idle
      → known v ≡ seen → seen.number ≡ 0 → AllJoined seen
      → Final (Seen (Rule notes by base) id v) ws xs → get_elem? xs 0 ≡ some o → (x : V) × (o ≡ Some x) × Found seen x
  finds id v seen ws xs o idle same first all end at =
      let c = closes _ end.1.0 id v end.1.1 idle (cc) (subst AllJoined (sym same) all) in (
        c.value,
        some-injective o (Some c.value) (sym at ∙ end.4 0 (Some c.value) (ap (λ hs. get_elem? hs 0) c.home)),
        subst (λ q. Found q c.value) same record {
          notes_are = c.notes_are;
          base_is = c.base_is;
          word = c.word;
          kept = c.kept;
          unmade = c.unmade;
        },
      )

  -- the same, of the value that was found in the slot
  pub finds_at : {seen : Known N B} {o : Option V} {y : V} → (x : V) × (o ≡ Some x) × Found seen x → o ≡ Some y → Found seen y
  finds_at {seen} found is = subst (Found seen) (one_place found.1 is) found.2
