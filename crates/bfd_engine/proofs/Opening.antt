-- Shards that are opened one after another.
use Rattle.bfd_engine.proofs.Common.{◌≡◌, ℕ, zero, suc, ◌<◌, ◌≤◌, List, [], ◌∷◌, ◌++◌, length, map, length-map, Some, slice_get, get_or}
use Rattle.bfd_engine.proofs.Common.{refl, ap, sym, ◌∙◌, arith, slice_get_within, same_Some, SessionConfig, TableId, opened_pass, Shards}
use Rattle.bfd_engine.proofs.Common.{Held, AllOf, IsOf, AllThere, IsEngine, configs_at, seen_of, met_word_of, taken_of, made_of, kept_of}
use Rattle.bfd_engine.proofs.Common.{IsNewPass, opened_base, IsOpenedShard, IsMade, AreOpened, AreShares, share, Reflector, All-nil}
use Rattle.bfd_engine.proofs.Places.{K, same_held}

abbrev pub Parts : Type 0
Parts = List (List SessionConfig)

abbrev pub Made : Type 0
Made = TableId × K × ℕ

-- one shard for each part
abbrev pub AreMade : ℕ → Parts → List Made → Type 0
AreMade limit [] [] = Unit {0}
AreMade limit [] (one ∷ made) = ⊥
AreMade limit (part ∷ parts) [] = ⊥
AreMade limit (part ∷ parts) (one ∷ made) = IsMade limit part one × AreMade limit parts made

module _ (limit : ℕ) where
  -- one more part is made
  pub parts_more : {V : Type 0} (f : V → List SessionConfig) (yielded : List V) (made : List Made) (part : V) (one : Made)
      → AreMade limit (map f yielded) made → IsMade limit (f part) one → AreMade limit (map f (yielded ++ part ∷ [])) (made ++ one ∷ [])
  parts_more f [] [] part one m is = (is, tt)
  parts_more f [] (x ∷ made) part one m is = absurd m
  parts_more f (p ∷ parts) [] part one m is = absurd m
  parts_more f (p ∷ parts) (x ∷ made) part one m is = (m.0, parts_more f parts made part one m.1 is)

  -- what each part gives is built from it
  pub made_each : {V : Type 0} (f : V → List SessionConfig) (parts : List V) (made : List Made) → length made ≡ length parts
      → ((k : ℕ) (v : V) (d : Made) → k < length parts → get_or parts k v ≡ v → IsMade limit (f v) (get_or made k d))
      → AreMade limit (map f parts) made
  made_each f [] [] long each = tt
  made_each f [] (x ∷ made) long each = absurd (omega (arith, long))
  made_each f (p ∷ parts) [] long each = absurd (omega (arith, long))
  made_each f (p ∷ parts) (x ∷ made) long each = (
    each 0 p x (omega arith) refl,
    made_each f parts made (omega (arith, long)) (λ k v d h e. each (suc k) v d (omega (arith, h)) e),
  )

  made_long : (parts : Parts) (made : List Made) → AreMade limit parts made → length made ≡ length parts
  made_long [] [] m = refl
  made_long [] (x ∷ made) m = absurd m
  made_long (p ∷ parts) [] m = absurd m
  made_long (p ∷ parts) (x ∷ made) m = ap suc (made_long parts made m.1)

  opened_at : (parts : Parts) (made : List Made) → AreMade limit parts made → (k : ℕ) (configs : List SessionConfig)
      → slice_get parts k ≡ Some configs
      → IsOpenedShard limit configs (slice_get (map (λ s. s.0) made) k) (slice_get (map (λ s. Some s.1) made) k)
      (slice_get (map (λ s. s.2) made) k)
  opened_at [] made m k configs h = cc
  opened_at (p ∷ parts) [] m k configs h = absurd m
  opened_at (p ∷ parts) (x ∷ made) m zero configs h =
      rw (← same_Some p configs h) (record { id = x.0; lock_is = refl; pass_is = cc (m.0.0); size_is = cc (m.0.1) })
  opened_at (p ∷ parts) (x ∷ made) m (suc k) configs h = opened_at parts made m.1 k configs h

  -- taken apart, they are opened
  pub opened : (parts : Parts) (made : List Made) → AreMade limit parts made → {locks : List TableId} {passes : List Held} {sizes : List ℕ}
      → (locks ≡ map (λ s. s.0) made) × (passes ≡ map (λ s. Some s.1) made) × (sizes ≡ map (λ s. s.2) made)
      → AreOpened limit parts locks passes sizes
  opened parts made m e = rw (e.0, e.1, e.2) (record {
    locks_long = length-map made _ ∙ made_long parts made m;
    passes_long = length-map made _ ∙ made_long parts made m;
    sizes_long = length-map made _ ∙ made_long parts made m;
    each = opened_at parts made m;
  })

module _ (limit n : ℕ) (configs : List SessionConfig) (parts : Parts) (locks : List TableId) (passes : List Held) (sizes : List ℕ)
    (s : AreShares n configs parts) (o : AreOpened limit parts locks passes sizes) where
  one : (k : ℕ) → k < n → IsOpenedShard limit (share n k configs) (slice_get locks k) (slice_get passes k) (slice_get sizes k)
  one k h = o.each k (share n k configs) (s.each k h)

  count : length locks ≡ n
  count = cc

  at : (k : ℕ) (p : K) → slice_get passes k ≡ Some (Some p) → k < n
  at k p e = let i = slice_get_within passes k (Some p) e in let a = o.passes_long in omega (arith, i, a, s.long)

  pub numbers : AllOf 0 0 passes
  numbers k p e = rw (← same_held (one k (at k p e)).pass_is e) (record { number_is = refl; used_up = All-nil (λ m. m < 1) })

  -- as an engine
  module _ (pool : List Reflector) where
    abbrev engine : Shards
    engine = record { locks = locks; configs = configs; pool = pool; limit = limit }

    sizes_are : (k : ℕ) → k < length locks → slice_get sizes k ≡ Some (length (configs_at engine k))
    sizes_are k h = cc ((one k (omega (arith, h, count))).size_is, count)

    passes_of : IsOf engine passes
    passes_of = record {
      long = omega (arith, o.passes_long, o.locks_long);
      lock = λ k p e. (let x = one k (at k p e) in
          cc (same_held x.pass_is e));
      base_is = λ k p e. (
          ap (λ q. q.1.base) (sym (same_held (one k (at k p e)).pass_is e))
          ∙ ap (λ m. Some (opened_base limit (share m k configs))) (sym count));
    }

    passes_there : AllThere passes
    passes_there = record {
      at = λ k h. (
          let x = one k (omega (arith, h, o.passes_long, s.long)) in
          ((x.id, opened_pass (opened_base limit (share n k configs)) 0), x.pass_is));
    }

    new_pass : IsNewPass engine (0, passes, 0)
    new_pass =
        let pass = λ (k : ℕ) (h : k < length locks). (one k (omega (arith, h, count))).pass_is in
        record {
          of = passes_of;
          there = passes_there;
          number = refl;
          used = refl;
          seen = λ k h. ap seen_of (pass k h);
          word = λ k h. ap met_word_of (pass k h);
          taken = λ k h. ap taken_of (pass k h);
          made = λ k h. ap made_of (pass k h);
          kept = λ k h. ap kept_of (pass k h);
        }

pub engine_is : {limit n : ℕ} {configs : List SessionConfig}
    (known : List SessionConfig) {parts : Parts} {locks : List TableId} {passes : List Held} {sizes : List ℕ} (pool : List Reflector)
    → AreShares n configs parts → AreOpened limit parts locks passes sizes → known ≡ configs → 0 < n → n ≤ 64 → length configs ≤ 65536
    → IsEngine (record { locks = locks; configs = known; pool = pool; limit = limit }) sizes
engine_is {limit} {n} {configs} known {parts} {locks} {passes} {sizes} pool s o same some few small =
    let long = count limit n configs parts locks passes sizes s o in
    rw same (record {
      some = omega (arith, some, long);
      few = omega (arith, few, long);
      small = small;
      sizes_are = sizes_are limit n configs parts locks passes sizes s o pool;
    })

pub pass_is : {limit n : ℕ} {configs : List SessionConfig}
    (known : List SessionConfig) {parts : Parts} {locks : List TableId} {passes : List Held} {sizes : List ℕ} (pool : List Reflector)
    → AreShares n configs parts → AreOpened limit parts locks passes sizes → known ≡ configs
    → IsNewPass (record { locks = locks; configs = known; pool = pool; limit = limit }) (0, passes, 0)
pass_is {limit} {n} {configs} known {parts} {locks} {passes} {sizes} pool s o same =
    rw same (new_pass limit n configs parts locks passes sizes s o pool)
