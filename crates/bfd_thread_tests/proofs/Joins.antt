-- Passes that are made, and joined one after another.
use Rattle.std.proofs.Common.{◌≡◌, ◌≢◌, ◌<◌, ◌++◌, ◌∷◌, [], ℕ, true, List, length, map, get_or, refl, ◌∙◌, append_assoc, append-nil}
use Rattle.std.specs.List.{All}
use Rattle.std.proofs.lemmas.List.Elements.{All-push, All-nil}
use Rattle.std.proofs.lemmas.List.{map-append}
use Rattle.bfd_turn.specs.Lists.{Begins, has, numbers_of}
use Rattle.bfd_turn.proofs.Beginnings.{begins_through}
use Rattle.bfd_shard.specs.declared.entry.Entry.{Entry}
use Rattle.bfd_shard.proofs.Lists.{all_next}
use Rattle.bfd_engine.specs.Engines.{Shards, Knows, IsOf, AllThere}
use Rattle.bfd_engine.specs.Calls.{seen_at, kept_at, mine}
use Rattle.bfd_engine.specs.Opening.{IsNewPass}
use Rattle.bfd_engine.specs.Passes.{Joined, EachJoined}
use Rattle.bfd_thread_tests.specs.declared.embedding.threads.Call.{Call}
use Rattle.bfd_thread_tests.specs.declared.embedding.threads.Job.{Job}
use Rattle.bfd_thread_tests.specs.Ready.{IsJobReady, number_of}
use Rattle.bfd_thread_tests.specs.Joining.{HasOpen, HasAdded, HasJoined}

-- a job's number, and its calls on a shard
abbrev kept_by : ℕ → Job → ℕ × List Entry
kept_by s j = (j.pass.0, mine j.pass s)

module _ (engine : Shards) where
  pub open_new : (k : Knows) → IsNewPass engine k → HasOpen engine k []
  open_new k new = record {
    of = new.of;
    there = new.there;
    number = new.number;
    others = All-nil (λ n. n ≢ 0);
    made = λ s h. cc (new.made s h, new.kept s h, append-nil (numbers_of (kept_at k s)));
  }

  pub joined_more : {k l m : Knows} {js : List Job} (j : Job) → HasJoined engine k l js → IsOf engine m.1 → AllThere m.1 → m.0 ≡ 0
      → ((s : ℕ) → s < length engine.locks → Joined l j.pass m s) → HasJoined engine k m (js ++ j ∷ [])
  joined_more {k} {l} {m} {js} j a of there number t = record {
    of = of;
    there = there;
    number = number;
    own = λ s h. (t s h).own ∙ a.own s h;
    seen = λ s h. begins_through (seen_at k s) _ _ (a.seen s h) (t s h).first;
    each = λ s h. All-push (λ x. Begins (seen_at x.pass s) (seen_at m s)) js j
        (λ i d e. begins_through (seen_at (get_or js i d).pass s) _ _ (a.each s h i d e) (t s h).first) (t s h).other;
    kept = λ s h. cc (
      (t s h).kept,
      a.kept s h,
      append_assoc (kept_at k s) (map (kept_by s) js) (kept_by s j ∷ []),
      map-append (kept_by s) js (j ∷ []),
    );
    made = λ s h. (t s h).made ∙ a.made s h;
  }

  numbers_kept : (s : ℕ) (js : List Job) → numbers_of (map (kept_by s) js) ≡ map number_of js
  numbers_kept s [] = refl
  numbers_kept s (j ∷ js) = cc (numbers_kept s js)

  same_has : (n : ℕ) {xs ys : List ℕ} → xs ≡ ys → has n xs ≡ true → has n ys ≡ true
  same_has n same h = rw (← same) h

  -- with all that were left joined, each that was made was joined
  pub all_joined : {k l : Knows} {js : List Job} → HasOpen engine k (map number_of js) → HasJoined engine k l js → EachJoined engine l
  all_joined {k} {js} left a = λ s n h. same_has n
      (cc (a.made s h, left.made s h, numbers_kept s js, map-append (λ p. p.0) (kept_at k s) (map (kept_by s) js), a.kept s h))

-- what is true of what each gives is true of what the next gives
pub all_made_next : {X Y : Type 0} (P : Y → Type 0) (f : X → Y) {items : List X} (xs ys : List X) (x : X) → xs ++ x ∷ ys ≡ items
    → All P (map f items) → P (f x)
all_made_next P f {items} xs ys x is all = all_next P _ (map f xs) (map f ys) (f x) (cc (map-append f xs (x ∷ ys))) all

-- a ready job more
pub ready_more : {engine : Shards} {k l : Knows} {before after : List Job} {calls : List Call} {room : ℕ}
    → All (λ j. IsJobReady engine j) before → HasAdded engine k l before after calls room → All (λ j. IsJobReady engine j) after
ready_more {engine} {before} all added = rw added.after_is (All-push (λ j. IsJobReady engine j) before added.job all added.ready)

-- what each gives, with one more
pub map_more : {A B C : Type 0} (f : A → B) (h : C → B) (xs : List A) {ys : List A} {x : A} (zs : List C) (z : C) → map f xs ≡ map h zs
    → f x ≡ h z → ys ≡ xs ++ x ∷ [] → map f ys ≡ map h (zs ++ z ∷ [])
map_more f h xs {x} zs z same one is = cc (map-append f xs (x ∷ []), map-append h zs (z ∷ []))
