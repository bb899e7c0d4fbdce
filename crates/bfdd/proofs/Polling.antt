-- Polls, shard by shard, and the text event by event.
use Rattle.bfdd.proofs.WatchedTextCommon.{◌≡◌, ◌≢◌, ◌<◌, ◌≤◌, ◌+◌, ◌++◌, ◌∙◌, ℕ, suc, [], List, length, drop, sym, ap, subst, refl}
use Rattle.bfdd.proofs.WatchedTextCommon.{append-nil, arith, length-set, set, same_Some, slice_index_or, get_or_from_slice_get}
use Rattle.bfdd.proofs.WatchedTextCommon.{slice_get-get_or, dite, ℕ_discrete, drop-append_seam, slice_get, Some, SessionConfig, Entry}
use Rattle.bfdd.proofs.WatchedTextCommon.{Knows, Shards, configs_at, seen_at, HasRead, Change, Watching, watching, AreBehind, AreWatched}
use Rattle.bfdd.proofs.WatchedTextCommon.{HasKept, Went, merged, merged_of, news}
use Rattle.bfd_turn.specs.Lists.{Begins}
use Rattle.bfd_turn.proofs.Beginnings.{begins_through}
use Rattle.bfd_engine.proofs.Places.{set_else, set_here}
use Rattle.bfd_watch.specs.declared.change.WatchFault.{WatchFault}
use Rattle.bfd_watch.specs.declared.change.WatchFault.TheVariants as watch
use Rattle.bfdd.specs.Following.{IsLeft}
use Rattle.bfd_replay.proofs.Going.{HasPassed, kept_by, passed_none, passed_on, went_nowhere, went_on, went_same}
use Rattle.bfdd.proofs.Shared.{same_of}

-- one look at a shard's history

-- what is seen after a look begins with what was taken before, and the rest is then taken
pub read_begins : (xs : List Entry) {k l : Knows} {shard : ℕ} → Begins xs (seen_at k shard) → HasRead k l shard
    → Begins xs (seen_at l shard)
read_begins xs {k} {l} {shard} b r =
    begins_through xs (seen_at k shard) (seen_at l shard) b (r.between, r.turned.here ∙ append-nil (seen_at k shard ++ r.between))

pub entries_are : (out old seen : List Entry) (from : ℕ) (w : Watching) → out ≡ old ++ drop from seen → old ≡ [] → from ≡ length w.entries
    → out ≡ drop (length w.entries) seen
entries_are out old seen from w added none at = added ∙ (ap (λ t. t ++ drop from seen) none ∙ ap (λ n. drop n seen) at)

pub rest_of : (xs seen : List Entry) → Begins xs seen → xs ++ drop (length xs) seen ≡ seen
rest_of xs seen b = cc (drop-append_seam xs b.0, b.1)

pub full_left : (fault : WatchFault) (count : ℕ) (w : Watching) (entries seen : List Entry) → fault ≡ watch.Full count
    → IsLeft fault w entries
    → entries ≡ drop (length w.entries) seen → Begins w.entries seen → w.limit < length seen
full_left fault count w entries seen is left rest b =
    let whole : w.entries ++ entries ≡ seen = ap (λ t. w.entries ++ t) rest ∙ rest_of w.entries seen b in
    subst (λ t. w.limit < length t) whole (subst (λ f. IsLeft f w entries) is left)

pub all_taken : (w : Watching) (entries seen : List Entry) → entries ≡ drop (length w.entries) seen → Begins w.entries seen
    → watching w.configs (w.entries ++ entries) w.limit ≡ watching w.configs seen w.limit
all_taken w entries seen rest b = ap (λ t. watching w.configs t w.limit) (ap (λ t. w.entries ++ t) rest ∙ rest_of w.entries seen b)

pub read_went : {k l : Knows} {shard : ℕ} → k.0 ≡ 0 → HasRead k l shard → Went k l [] shard
read_went first r = went_nowhere first r.turned

pub kept_read : {k l : Knows} {shard : ℕ} → HasRead k l shard → HasKept 1 k l
kept_read r = kept_by r.turned

-- the shards before a place were polled, of these watches
pub record HasPolled (engine : Shards) (limit number at : ℕ) (k l : Knows) (first watches : List Watching) (reported : List Change) : Type 0
  where
    pub passed : HasPassed at k l
    pub went : (r : ℕ) → Went k l [] r
    pub long : length watches ≡ length engine.locks
    pub done : (r : ℕ) → r < at → r < length engine.locks → slice_get watches r ≡ Some (watching (configs_at engine r) (seen_at l r) limit)
    pub left : (r : ℕ) → at ≤ r → slice_get watches r ≡ slice_get first r
    pub reported_is : (d : Watching) → reported ≡ merged_of at (λ r. news number (slice_index_or first r d) (seen_at l r))

pub polled_none : {engine : Shards} {limit : ℕ} (number : ℕ) (k : Knows) {watches : List Watching} → AreBehind engine limit k watches
    → HasPolled engine limit number 0 k k watches watches []
polled_none number k w = record {
  passed = passed_none k;
  went = λ r. went_same refl;
  long = w.long;
  done = λ r h inside. absurd (omega (arith, h));
  left = λ r h. refl;
  reported_is = λ d. refl;
}

pub polled_first : {engine : Shards} {limit : ℕ} (number : ℕ) (k : Knows) {watches : List Watching} {reported : List Change} → reported ≡ []
    → AreBehind engine limit k watches
    → HasPolled engine limit number 0 k k watches watches reported
polled_first {engine} {limit} number k {watches} none w =
    subst (HasPolled engine limit number 0 k k watches watches) (sym none) (polled_none number k w)

-- the watch at a place of the list
pub at_place : {n at : ℕ} (watches : List Watching) {w : Watching} → length watches ≡ n → at < n → w ≡ slice_index_or watches at w
    → slice_get watches at ≡ Some w
at_place {at = at} watches {w} long inside is = slice_get-get_or watches at w (omega (arith, long, inside)) ∙ ap (λ x. Some x) (sym is)

module _ (engine : Shards) (limit number at : ℕ) (k l : Knows) (first watches : List Watching) (reported : List Change) (w : Watching) where
  -- the next watch
  pub behind_at : AreBehind engine limit k first → HasPolled engine limit number at k l first watches reported → at < length engine.locks
      → slice_get watches at ≡ Some w → (w.configs ≡ configs_at engine at) × (w.limit ≡ limit) × Begins w.entries (seen_at l at)
  behind_at b p inside found =
      let one = b.each at inside in
      let is : w ≡ watching (configs_at engine at) one.before limit =
      same_Some w (watching (configs_at engine at) one.before limit) (sym found ∙ (p.left at (omega arith) ∙ one.is)) in (
        ap (λ x. x.configs) is,
        ap (λ x. x.limit) is,
        subst (λ t. Begins t (seen_at l at)) (sym (ap (λ x. x.entries) is))
            (subst (Begins one.before) (sym (p.passed.seen_left at (omega arith))) one.begins),
      )

  module _ (m : Knows) (watches2 : List Watching) (reported2 more : List Change) (w2 : Watching) where
    else_same : watches2 ≡ set watches at w2 → (r : ℕ) → r ≢ at → slice_get watches2 r ≡ slice_get watches r
    else_same put r e = ap (λ x. slice_get x r) put ∙ set_else watches at r w2 e

    same_before : HasRead l m at → (d : Watching) → merged_of at (λ r. news number (slice_index_or first r d) (seen_at l r))
        ≡ merged_of at (λ r. news number (slice_index_or first r d) (seen_at m r))
    same_before read d = same_of at (λ r. news number (slice_index_or first r d) (seen_at l r))
        (λ r. news number (slice_index_or first r d) (seen_at m r))
        (λ r h. ap (news number (slice_index_or first r d)) (sym (read.turned.seen_elsewhere r (λ e. omega (arith, e, h)))))

    -- the watch that took all
    same_by : {cs : List SessionConfig} {n : ℕ} → w.configs ≡ cs → w.limit ≡ n
        → watching w.configs (seen_at m at) w.limit ≡ watching cs (seen_at m at) n
    same_by {cs} p q = ap (λ x. watching x (seen_at m at) w.limit) p ∙ ap (λ x. watching cs (seen_at m at) x) q

    reported_more : HasPolled engine limit number at k l first watches reported → HasRead l m at → slice_get watches at ≡ Some w
        → more ≡ news number w (seen_at m at) → reported2 ≡ merged reported more
        → (d : Watching) → reported2 ≡ merged_of (suc at) (λ r. news number (slice_index_or first r d) (seen_at m r))
    reported_more p read found news_is merged_is d =
        let its : slice_index_or first at d ≡ w = get_or_from_slice_get first at w d (sym (p.left at (omega arith)) ∙ found) in
        merged_is
        ∙ (ap (λ x. merged x more) (p.reported_is d ∙ same_before read d)
        ∙ ap (λ x. merged (merged_of at (λ r. news number (slice_index_or first r d) (seen_at m r))) x)
        (news_is ∙ ap (λ x. news number x (seen_at m at)) (sym its)))

    pub polled_went : k.0 ≡ 0 → HasPolled engine limit number at k l first watches reported → HasRead l m at → (r : ℕ)
        → r < length engine.locks
        → Went k m [] r
    polled_went one p read r inside = dite (ℕ_discrete r at)
        (λ e. subst (Went k m []) (sym e) (went_on (p.went at) (read_went (p.passed.kept.number ∙ one) read)))
        (λ e. went_on (p.went r) (went_same (read.turned.seen_elsewhere r e)))

    -- it was polled
    pub polled_on : k.0 ≡ 0 → AreBehind engine limit k first → HasPolled engine limit number at k l first watches reported
        → at < length engine.locks
        → slice_get watches at ≡ Some w → HasRead l m at → w2 ≡ record w { entries = seen_at m at } → watches2 ≡ set watches at w2
        → more ≡ news number w (seen_at m at) → reported2 ≡ merged reported more
        → HasPolled engine limit number (at + 1) k m first watches2 reported2
    polled_on one b p inside found read taken put news_is merged_is =
        let its = behind_at b p inside found in
        record {
          passed = passed_on p.passed read.turned;
          went = λ r. dite (ℕ_discrete r at)
              (λ e. subst (Went k m []) (sym e) (went_on (p.went at) (read_went (p.passed.kept.number ∙ one) read)))
              (λ e. went_on (p.went r) (went_same (read.turned.seen_elsewhere r e)));
          long = cc (length-set watches at w2, p.long);
          done = λ r h within. dite (ℕ_discrete r at)
              (λ e. subst (λ x. slice_get watches2 x ≡ Some (watching (configs_at engine x) (seen_at m x) limit)) (sym e)
              (ap (λ x. slice_get x at) put ∙ (set_here watches at w2 (omega (arith, p.long, inside))
              ∙ ap (λ x. Some x) (taken ∙ same_by its.0 its.1))))
              (λ e. else_same put r e ∙ (p.done r (omega (arith, h, e)) within
              ∙ ap (λ t. Some (watching (configs_at engine r) t limit)) (sym (read.turned.seen_elsewhere r e))));
          left = λ r h. else_same put r (λ e. omega (arith, e, h)) ∙ p.left r (omega (arith, h));
          reported_is = λ d. reported_more p read found news_is merged_is d ∙ ap (λ n. merged_of n
              (λ r. news number (slice_index_or first r d) (seen_at m r))) (let z : suc at ≡ at + 1 = omega arith in z);
        }

-- all were polled
module _ {engine : Shards} {limit number at : ℕ} {k l : Knows} {first watches : List Watching} {reported : List Change} where
  pub polled_all : at ≡ length engine.locks → HasPolled engine limit number at k l first watches reported
      → AreWatched engine limit l watches
  polled_all end p = record { long = p.long; each = λ r h. p.done r (omega (arith, h, end)) h }

  pub polled_reported : at ≡ length engine.locks → HasPolled engine limit number at k l first watches reported
      → (d : Watching) → reported ≡ merged_of (length engine.locks) (λ r. news number (slice_index_or first r d) (seen_at l r))
  polled_reported end p d = subst (λ n. reported ≡ merged_of n (λ r. news number (slice_index_or first r d) (seen_at l r))) end
      (p.reported_is d)
