-- Results, one more of which has parts; and parts in order.
use Rattle.bfd_replay.proofs.WorkerCommon.{◌≡◌, ◌≢◌, ◌<◌, ◌≤◌, ◌+◌, ◌%◌, ◌++◌, ◌∙◌, ◌∷◌, ℕ, [], List, length, map, get_or, set}
use Rattle.bfd_replay.proofs.WorkerCommon.{get_or-set_same, get_or-set_other, refl, sym, ap, arith, length-append, Some, Result, Ok}
use Rattle.bfd_replay.proofs.WorkerCommon.{slice_get, slice_index_or, get_or-map, map-append, map-set, length-map, length-set}
use Rattle.bfd_replay.proofs.WorkerCommon.{get_or_append_left, get_or-append_seam, dite, ℕ_discrete, put_other}

-- the next of the results that are left
pub mapped_here : {A B : Type 0} (f : A → B) (xs ys zs : List A) (x : A) → xs ++ x ∷ ys ≡ zs → slice_get (map f zs) (length xs) ≡ Some (f x)
mapped_here f [] ys zs x e = cc
mapped_here f (w ∷ xs) ys zs x e = cc (mapped_here f xs ys (xs ++ x ∷ ys) x refl)

pub ok_more : {A B V E : Type 0} (f : A → Result B E) (g : V → B) (xs : List A) {x : A} (vs : List V) {vs2 : List V} {v : V}
    → map f xs ≡ map Ok (map g vs) → f x ≡ Ok (g v) → vs2 ≡ vs ++ v ∷ []
    → map f (xs ++ x ∷ []) ≡ map Ok (map g vs2)
ok_more f g xs {x} vs {v} so_far one pushed = map-append f xs (x ∷ [])
    ∙ (ap (λ l. l ++ f x ∷ []) so_far ∙ (ap (λ r. map Ok (map g vs) ++ r ∷ []) one
    ∙ (sym (map-append Ok (map g vs) (g v ∷ [])) ∙ (ap (map Ok) (sym (map-append g vs (v ∷ [])))
    ∙ ap (λ l. map Ok (map g l)) (sym pushed)))))

pub reported_more : {A B V : Type 0} (f : A → V) (g : B → V) (ts : List A) {ts2 : List A} {t : A} (ws : List B) {w : B}
    → map f ts ≡ map g ws
    → f t ≡ g w → ts2 ≡ ts ++ t ∷ [] → map f ts2 ≡ map g (ws ++ w ∷ [])
reported_more f g ts {t} ws {w} so_far one pushed = cc (map-append f ts (t ∷ []), map-append g ws (w ∷ []))

-- the parts so far, with one more
pub record InOrder (shards workers shard : ℕ) {P : Type 0} (all left : List (List (List P))) (parts : List (List P)) : Type 0 where
  pub long : length parts ≡ shard
  pub many : length left ≡ length all
  pub wide : (i : ℕ) → length (slice_index_or left i []) ≡ length (slice_index_or all i [])
  pub each : (s : ℕ) → s < shard → slice_index_or parts s [] ≡ slice_index_or (slice_index_or all (s % workers) []) s []
  pub later : (i r : ℕ) → shard ≤ r → slice_index_or (slice_index_or left i []) r [] ≡ slice_index_or (slice_index_or all i []) r []

pub order_none : {P : Type 0} (shards workers : ℕ) (all : List (List (List P))) {parts : List (List P)} → parts ≡ []
    → InOrder shards workers 0 all all parts
order_none shards workers all none = record {
  long = cc;
  many = refl;
  wide = λ i. refl;
  each = λ s h. absurd (omega (arith, h));
  later = λ i r h. refl;
}

pub order_more : {P : Type 0} {shards workers shard : ℕ} {all left : List (List (List P))}
    (after : List (List (List P))) {parts parts2 : List (List P)} {part : List P} → InOrder shards workers shard all left parts
    → part ≡ slice_index_or (slice_index_or left (shard % workers) []) shard [] → length after ≡ length left
    → ((i : ℕ) → length (slice_index_or after i []) ≡ length (slice_index_or left i []))
    → ((i r : ℕ) → r ≢ shard → slice_index_or (slice_index_or after i []) r [] ≡ slice_index_or (slice_index_or left i []) r [])
    → parts2 ≡ parts ++ part ∷ [] → InOrder shards workers (shard + 1) all after parts2
order_more {workers} {shard} after {parts} {part} o is many wide others pushed = record {
  long = omega (arith, ap length pushed, length-append parts (part ∷ []), o.long);
  many = cc;
  wide = λ i. wide i ∙ o.wide i;
  each = λ s h. dite (ℕ_discrete s shard) (λ same. rw same
      (cc (get_or-append_seam parts part [] [], o.later (shard % workers) shard (omega arith)))) (λ other.
      cc (get_or_append_left parts (part ∷ []) [] s (omega (arith, o.long, h, other)), o.each s (omega (arith, h, other))));
  later = λ i r h. others i r (λ e. absurd (omega (arith, h, e))) ∙ o.later i r (omega (arith, h));
}

pub order_end : {P : Type 0} (parts : List (List P)) {parts2 : List (List P)} (part : List P) (s : ℕ) → parts2 ≡ parts ++ part ∷ []
    → s < length parts → slice_index_or parts2 s [] ≡ slice_index_or parts s []
order_end parts part s pushed h = cc (get_or_append_left parts (part ∷ []) [] s h)

pub order_last : {P : Type 0} (parts : List (List P)) {parts2 : List (List P)} (part : List P) {n : ℕ} → parts2 ≡ parts ++ part ∷ []
    → length parts ≡ n → slice_index_or parts2 n [] ≡ part
order_last parts part pushed long = cc (get_or-append_seam parts part [] [])

module _ {V A : Type 0} (f : V → List (List A)) where
  -- the list that was changed in place, and the others
  changed_at : (vs : List V) (at : ℕ) (v new : V) → at < length vs → get_or (map f (set vs at new)) at [] ≡ f new
  changed_at vs at v new h = cc (map-set f vs at new, get_or-set_same (map f vs) at (f new) [] (omega (arith, h, length-map vs f)))

  pub take_wide : (vs : List V) (at shard : ℕ) (v new : V) (x : List A) → at < length vs → v ≡ get_or vs at v → f new ≡ set (f v) shard x
      → (i : ℕ) → length (get_or (map f (set vs at new)) i []) ≡ length (get_or (map f vs) i [])
  take_wide vs at shard v new x h is put i = dite (ℕ_discrete i at)
      (λ same. rw same (cc (changed_at vs at v new h, length-set (f v) shard x, get_or-map f vs at v [] h)))
      (λ other. ap length (put_other f vs at i new other))

  pub take_others : (vs : List V) (at shard : ℕ) (v new : V) (x : List A) → at < length vs → v ≡ get_or vs at v → f new ≡ set (f v) shard x
      → (i r : ℕ) → r ≢ shard → get_or (get_or (map f (set vs at new)) i []) r [] ≡ get_or (get_or (map f vs) i []) r []
  take_others vs at shard v new x h is put i r away = dite (ℕ_discrete i at)
      (λ same. rw same (cc (changed_at vs at v new h, get_or-set_other (f v) shard r x [] away, get_or-map f vs at v [] h)))
      (λ other. cc (put_other f vs at i new other))
