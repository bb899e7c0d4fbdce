-- A tick of the sessions that are due, one after another, is a tick of all.
use Rattle.bfd_shard.proofs.Common.{◌≡◌, ◌≢◌, ◌⊎◌, inl, inr, ℕ, ◌+◌, ◌*◌, max, ◌<◌, ◌≤◌, refl, sym, ◌∙◌, ap, List, [], ◌∷◌, ◌++◌}
use Rattle.bfd_shard.proofs.Common.{append_assoc, append-nil, length, length-append, map, set, get_or, Option, None, Bool, true, false}
use Rattle.bfd_shard.proofs.Common.{arith, drop, drop-cons, add-one, zero, suc, get_or-set_same, get_or-set_other, length-set}
use Rattle.bfd_shard.proofs.Common.{if◌then◌else◌, drop_all, get_or-map, length-map, AllByRecursion, flat_map, cases_eq, has_come}
use Rattle.bfd_shard.proofs.Common.{moment_bound, greatest_tick, places, without, ticked, tick_items, due, Running, IsSound, started}
use Rattle.bfd_shard.proofs.Common.{tick_next, tick_emits, NoneDue, get_or-append_seam, set-append_seam}
use Rattle.bfd_rules.specs.declared.outputs.Out.{Out}
use Rattle.bfd_packet.specs.declared.arrival.Addr.TheVariants.{V4}
use Rattle.bfd_rules.specs.declared.config.Role.TheVariants.{Single}
use Rattle.bfd_session.specs.declared.event.SessionConfig.TheVariants.{PointToPoint}

-- a session for places past the end
abbrev pub nobody : Running
nobody = started (PointToPoint (record {
  discr = 0;
  role = Single;
  iface = 0;
  local = V4 0;
  remote = V4 0;
  active = false;
  tx = 0;
  rx = 0;
  mult = 0;
  echo = 0;
  seed = 0;
  keys = None;
}))

-- what a tick goes over: the sessions, the due ticks that the timers have of them, and the outputs so far
pub record Tour : Type 0 where
  pub sessions : List Running
  pub dues : List (Option ℕ)
  pub outs : List Out

abbrev pub tour : List Running → List (Option ℕ) → List Out → Tour
tour sessions dues outs = record { sessions = sessions; dues = dues; outs = outs }

-- the session at this place is ticked, and its due tick is kept
unfoldable pub visit : Running → ℕ → ℕ → Tour → Tour
visit d last k w =
    let s = get_or w.sessions k d in
    record { sessions = set w.sessions k (ticked last s); dues = set w.dues k (due (ticked last s)); outs = w.outs ++ tick_items last s }

unfoldable pub visits : Running → ℕ → List ℕ → Tour → Tour
visits d last [] w = w
visits d last (k ∷ ks) w = visits d last ks (visit d last k w)

-- what a tick leaves of a session that has nothing due by it
pub record Idles : Type 0 where
  pub session : (s : Running) (t eff : ℕ) → IsSound s → has_come t (due s) ≡ false → tick_next (1000 * t) eff s ≡ s
  pub outs : (s : Running) (t eff : ℕ) → IsSound s → has_come t (due s) ≡ false → tick_emits (1000 * t) eff s ≡ []

regrouped : (pre ss : List Running) (dpre dss : List (Option ℕ)) (s : Running) (x : Option ℕ) (outs : List Out)
    → tour (pre ++ s ∷ ss) (dpre ++ x ∷ dss) outs ≡ tour ((pre ++ s ∷ []) ++ ss) ((dpre ++ x ∷ []) ++ dss) outs
regrouped pre ss dpre dss s x outs = cc (append_assoc pre (s ∷ []) ss, append_assoc dpre (x ∷ []) dss)

module _ (idles : Idles) (d : Running) (last : ℕ) where
  -- a session with nothing due is as a tick leaves it
  at_rest : (pre ss : List Running) (dpre dss : List (Option ℕ)) (outs : List Out) (s : Running) → IsSound s → has_come last (due s) ≡ false
      → tour (pre ++ s ∷ ss) (dpre ++ without last (due s) ∷ dss) outs
      ≡ tour (pre ++ ticked last s ∷ ss) (dpre ++ due (ticked last s) ∷ dss) (outs ++ tick_items last s)
  at_rest pre ss dpre dss outs s sound nothing =
      let still = sym (idles.session s last (max (1000 * last) s.vars.at) sound nothing) in
      let left : without last (due s) ≡ due s = rw nothing refl in
      let quiet : outs ≡ outs ++ tick_items last s =
      sym (cc (idles.outs s last (max (1000 * last) s.vars.at) sound nothing, append-nil outs)) in
      cc

  visit_seam : (pre ss : List Running) (dpre dss : List (Option ℕ)) (outs : List Out) (s : Running) (x : Option ℕ)
      → length dpre ≡ length pre
      → visit d last (length pre) (tour (pre ++ s ∷ ss) (dpre ++ x ∷ dss) outs)
      ≡ tour (pre ++ ticked last s ∷ ss) (dpre ++ due (ticked last s) ∷ dss) (outs ++ tick_items last s)
  unfolding visit
  visit_seam pre ss dpre dss outs s x e =
      cc (
        ap (λ z. tour (set (pre ++ s ∷ ss) (length pre) (ticked last z)) (set (dpre ++ x ∷ dss) (length pre) (due (ticked last z)))
            (outs ++ tick_items last z)) (get_or-append_seam pre s ss d),
        set-append_seam pre s ss (ticked last s),
        set-append_seam dpre x dss (due (ticked last s)),
      )

  -- the session at the seam is among those that are visited, or rests
  passes : (b : Bool) (ks : List ℕ) {n : ℕ} (pre ss : List Running) (dpre dss : List (Option ℕ)) (outs : List Out) (s : Running)
      → length pre ≡ n → length dpre ≡ n → IsSound s → has_come last (due s) ≡ b
      → visits d last (if b then n ∷ ks else ks) (tour (pre ++ s ∷ ss) (dpre ++ without last (due s) ∷ dss) outs)
      ≡ visits d last ks (tour (pre ++ ticked last s ∷ ss) (dpre ++ due (ticked last s) ∷ dss) (outs ++ tick_items last s))
  unfolding visits
  passes true ks pre ss dpre dss outs s e f sound is = cc (visit_seam pre ss dpre dss outs s (without last (due s)) (cc))
  passes false ks pre ss dpre dss outs s e f sound is = cc (at_rest pre ss dpre dss outs s sound is)

  all_ticked : (n : ℕ) (pre ss : List Running) (dpre : List (Option ℕ)) (outs : List Out) → length pre ≡ n → length dpre ≡ n
      → AllByRecursion IsSound ss
      → visits d last (places (has_come last) n (map due ss)) (tour (pre ++ ss) (dpre ++ map (without last) (map due ss)) outs)
      ≡ tour (pre ++ map (ticked last) ss) (dpre ++ map due (map (ticked last) ss)) (outs ++ flat_map (tick_items last) ss)
  unfolding visits
  all_ticked n pre [] dpre outs e f sound = cc (append-nil outs)
  all_ticked n pre (s ∷ ss) dpre outs e f sound =
      let t : Running = ticked last s in
      let reported : List Out = outs ++ tick_items last s in
      cc (
        passes (has_come last (due s)) (places (has_come last) (n + 1) (map due ss)) pre ss dpre (map (without last) (map due ss)) outs s e
            f sound.0 refl,
        regrouped pre ss dpre (map (without last) (map due ss)) t (due t) reported,
        all_ticked (n + 1) (pre ++ t ∷ []) ss (dpre ++ due t ∷ []) reported
            (omega (arith, length-append pre (t ∷ []))) (omega (arith, length-append dpre (due t ∷ []))) sound.1,
        regrouped pre (map (ticked last) ss) dpre (map due (map (ticked last) ss)) t (due t) (reported ++ flat_map (tick_items last) ss),
        append_assoc outs (tick_items last s) (flat_map (tick_items last) ss),
      )

-- the places that have come are places of the list, and no more of them

range_by : {A : Type 0} (p : A → Bool) (n : ℕ) (xs : List A) (b : Bool) (j : ℕ)
    → ((i : ℕ) → i < length (places p (n + 1) xs) → get_or (places p (n + 1) xs) i 0 < n + 1 + length xs)
    → j < length (if b then n ∷ places p (n + 1) xs else places p (n + 1) xs)
    → get_or (if b then n ∷ places p (n + 1) xs else places p (n + 1) xs) j 0 < n + suc (length xs)
range_by p n xs true zero rec h = omega arith
range_by p n xs true (suc j) rec h = omega arith
range_by p n xs false j rec h = omega arith

pub in_range : {A : Type 0} (p : A → Bool) (n : ℕ) (xs : List A) (j : ℕ) → j < length (places p n xs)
    → get_or (places p n xs) j 0 < n + length xs
in_range p n [] j h = absurd (omega arith)
in_range p n (x ∷ xs) j h = range_by p n xs (p x) j (in_range p (n + 1) xs) h

more_by : (n : ℕ) (ks : List ℕ) (b : Bool) {m : ℕ} → length ks ≤ m → length (if b then n ∷ ks else ks) ≤ suc m
more_by n ks true h = omega arith
more_by n ks false h = omega arith

pub no_more : {A : Type 0} (p : A → Bool) (n : ℕ) (xs : List A) → length (places p n xs) ≤ length xs
no_more p n [] = omega arith
no_more p n (x ∷ xs) = more_by n (places p (n + 1) xs) (p x) (no_more p (n + 1) xs)

-- a place that isn't among them doesn't pass

-- this number isn't in the list from the index i on
abbrev pub IsAway : ℕ → ℕ → List ℕ → Type 0
IsAway k i ks = (j : ℕ) → i ≤ j → j < length ks → get_or ks j 0 ≢ k

away_at : {A : Type 0} (p : A → Bool) (x : A) (ks : List ℕ) {n m : ℕ} (b : Bool) → p x ≡ b → n ≡ m → IsAway m 0 (if b then n ∷ ks else ks)
    → p x ≡ false
away_at p x ks true is same away = absurd (away 0 (omega arith) (omega arith) same)
away_at p x ks false is same away = is

away_from : (n : ℕ) {m : ℕ} (ks : List ℕ) (b : Bool) → IsAway m 0 (if b then n ∷ ks else ks) → IsAway m 0 ks
away_from n ks true away = λ j from to. away (suc j) (omega arith) (omega arith)
away_from n ks false away = away

passed_over : {A : Type 0} (p : A → Bool) (xs : List A) (n k m : ℕ) (d : A) → k < length xs → n + k ≡ m → IsAway m 0 (places p n xs)
    → p (get_or xs k d) ≡ false
passed_over p [] n k m d h e away = absurd (omega arith)
passed_over p (x ∷ xs) n zero m d h e away = away_at p x (places p (n + 1) xs) _ refl (omega arith) away
passed_over p (x ∷ xs) n (suc k) m d h e away = passed_over p xs (n + 1) k m d (omega arith) (omega arith)
    (away_from n (places p (n + 1) xs) (p x) away)

-- nothing is due by this tick, but at places that are still to be visited
abbrev pub QuietFrom : ℕ → ℕ → List ℕ → List Running → Type 0
QuietFrom last i ks ss = (k : ℕ) (d : Running) → k < length ss → IsAway k i ks → has_come last (due (get_or ss k d)) ≡ false

-- away from the rest of the list, and not at the place that is visited now, is away from this place on
earlier : (i j k : ℕ) (ks : List ℕ) → get_or ks i 0 ≡ k → k ≢ j → IsAway j (i + 1) ks → IsAway j i ks
earlier i j k ks at other away m from to = by (cases_eq i m)
  where
    by : (i ≡ m) ⊎ (i ≢ m) → get_or ks m 0 ≢ j
    by (inl same) = λ here. other (sym at ∙ (ap (λ (x : ℕ). get_or ks x 0) same ∙ here))
    by (inr apart) = away m (omega arith) to

quiet_by : (last i k : ℕ) (ks : List ℕ) (ss : List Running) (s : Running) → QuietFrom last i ks ss → get_or ks i 0 ≡ k → k < length ss
    → has_come last (due s) ≡ false → (j : ℕ) (d : Running) → j < length ss → IsAway j (i + 1) ks → (k ≡ j) ⊎ (k ≢ j)
    → has_come last (due (get_or (set ss k s) j d)) ≡ false
quiet_by last i k ks ss s quiet at within over j d inside away (inl same) = cc (get_or-set_same ss k s d within)
quiet_by last i k ks ss s quiet at within over j d inside away (inr other) =
    cc (get_or-set_other ss k j s d (λ e. other (sym e)), quiet j d inside (earlier i j k ks at other away))

-- one more place is visited
pub quiet_more : (last i : ℕ) (ks : List ℕ) (ss ss2 : List Running) (k : ℕ) (s : Running) → QuietFrom last i ks ss → get_or ks i 0 ≡ k
    → k < length ss → ss2 ≡ set ss k s → has_come last (due s) ≡ false → QuietFrom last (i + 1) ks ss2
quiet_more last i ks ss ss2 k s quiet at within made over =
    rw made (λ j d inside away. quiet_by last i k ks ss s quiet at within over j d (let l = length-set ss k s in omega arith) away
    (cases_eq k j))

each_one : (P : Running → Type 0) (ss : List Running) → ((k : ℕ) (d : Running) → k < length ss → P (get_or ss k d)) → AllByRecursion P ss
each_one P [] at = tt
each_one P (s ∷ ss) at = (at 0 s (omega arith), each_one P ss (λ k d h. at (suc k) d (omega arith)))

-- when all are visited, nothing is due
pub quiet_all : (last : ℕ) {i : ℕ} (ks : List ℕ) (ss : List Running) → length ks ≤ i → QuietFrom last i ks ss → NoneDue last ss
quiet_all last ks ss end quiet = each_one (λ s. has_come last (due s) ≡ false) ss (λ k d h. quiet k d h (λ j from to. absurd (omega arith)))

-- before any is visited, what has come is all to be visited
pub quiet_first : (last : ℕ) {ks : List ℕ} (ss : List Running) → ks ≡ places (has_come last) 0 (map due ss) → QuietFrom last 0 ks ss
quiet_first last ss e = λ k d h away. (cc (
  get_or-map due ss k d (due d) h,
  passed_over (has_come last) (map due ss) 0 k k (due d) (omega (arith, length-map ss due, length-map ss due)) (omega arith)
      (rw (← e) away),
))

-- one more place of the list is visited
pub visits_more : (d : Running) (last : ℕ) (ks : List ℕ) (i k : ℕ) (ss ss2 : List Running) (ds ds2 : List (Option ℕ))
    (outs outs2 : List Out)
    → i < length ks → k ≡ get_or ks i 0 → ss2 ≡ set ss k (ticked last (get_or ss k d)) → ds2 ≡ set ds k (due (ticked last (get_or ss k d)))
    → outs2 ≡ outs ++ tick_items last (get_or ss k d)
    → visits d last (drop (i + 1) ks) (tour ss2 ds2 outs2) ≡ visits d last (drop i ks) (tour ss ds outs)
unfolding visits visit
visits_more d last ks i k ss ss2 ds ds2 outs outs2 more at moved kept reported =
    let rest : drop i ks ≡ k ∷ drop (i + 1) ks =
    cc (drop-cons ks i 0 more, add-one i, sym at) in
    let s : Running = get_or ss k d in
    let now : tour ss2 ds2 outs2 ≡ visit d last k (tour ss ds outs) =
    cc in
    cc

-- when all are visited, all are ticked
pub visits_done : (idles : Idles) (d : Running) (last : ℕ) {ks : List ℕ} {i : ℕ} (ss ss2 : List Running) {ds : List (Option ℕ)}
    (ds2 : List (Option ℕ)) (outs outs2 : List Out)
    → AllByRecursion IsSound ss → length ks ≤ i → ks ≡ places (has_come last) 0 (map due ss) → ds ≡ map (without last) (map due ss)
    → visits d last (drop i ks) (tour ss2 ds2 outs2) ≡ visits d last ks (tour ss ds outs)
    → tour ss2 ds2 outs2 ≡ tour (map (ticked last) ss) (map due (map (ticked last) ss)) (outs ++ flat_map (tick_items last) ss)
unfolding visits
visits_done idles d last {ks} {i} ss ss2 ds2 outs outs2 sound end e f h =
    cc (drop_all i ks end, all_ticked idles d last 0 [] ss [] outs refl refl sound)

-- what is ticked stays sound
pub all_sound : {last : ℕ} (ss : List Running) → last ≤ greatest_tick → ((s : Running) → IsSound s → s.vars.at < moment_bound)
    → ((s : Running) (limit eff : ℕ) → eff < moment_bound → IsSound s → IsSound (tick_next limit eff s))
    → AllByRecursion IsSound ss → AllByRecursion IsSound (map (ticked last) ss)
all_sound [] early moments law sound = tt
all_sound {last} (s ∷ ss) early moments law sound =
    (law s (1000 * last) (max (1000 * last) s.vars.at) (omega arith) sound.0, all_sound ss early moments law sound.1)
