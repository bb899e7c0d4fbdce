-- One more line is planned.
use Rattle.bfd_replay.proofs.PlanCommon.{◌≡◌, ◌⊎◌, inl, inr, ◌<◌, ◌≤◌, ◌+◌, ◌++◌, ℕ, List, [], ◌∷◌, length, sym, ap, subst, append_assoc}
use Rattle.bfd_replay.proofs.PlanCommon.{append-nil, arith, Option, None, Some, slice_index_or, AllByRecursion, cons_option, Reflector}
use Rattle.bfd_replay.proofs.PlanCommon.{SessionConfig, Line, Happening, Apart, Among, in_shard, numbered, queue, apart_pieces, IsPlanned}
use Rattle.bfd_replay.proofs.PlanCommon.{IsMet, IsRunPlanned, happenings, happening, Numbered, Piece}

one_then : (xs rest : List Numbered) (o : Option Numbered) → (xs ++ cons_option o []) ++ rest ≡ xs ++ cons_option o rest
one_then xs rest None = cc (append-nil xs)
one_then xs rest (Some e) = append_assoc xs (e ∷ []) rest

reported_then : (number : ℕ) (h : Happening) (rest : List Happening) (xs : List Piece)
    → (xs ++ apart_pieces number (h ∷ [])) ++ apart_pieces (number + 1) rest ≡ xs ++ apart_pieces number (h ∷ rest)
reported_then number (Apart outcome) rest xs = append_assoc xs (apart_pieces number (Apart outcome ∷ [])) (apart_pieces (number + 1) rest)
reported_then number (Among event) rest xs = cc (append-nil xs)

-- what was planned of lines of which the first has the number `start`, and of which these are left
pub record IsOnPlan (configs : List SessionConfig) (pool : List Reflector) (all left : List Line) (shards start number : ℕ)
    (queues : List (List Numbered)) (apart : List Piece) : Type 0 where
  pub long : length queues ≡ shards
  pub queued : (k : ℕ) → k < shards → slice_index_or queues k [] ++ queue shards k number (happenings configs pool left)
      ≡ queue shards k start (happenings configs pool all)
  pub reported : apart ++ apart_pieces number (happenings configs pool left) ≡ apart_pieces start (happenings configs pool all)
  pub met : AllByRecursion (IsMet configs) (happenings configs pool left) → AllByRecursion (IsMet configs) (happenings configs pool all)
  pub few : number + length left ≡ start + length all

pub plan_more : {configs : List SessionConfig} {pool : List Reflector} {all left rest : List Line} {line : Line} {h : Happening} {shards
    start number : ℕ} {before after : List (List Numbered)} {apart apart2 : List Piece}
    → left ≡ line ∷ rest → h ≡ happening configs pool line → IsMet configs h → length after ≡ length before
    → IsPlanned number h before after apart apart2
    → IsOnPlan configs pool all left shards start number before apart
    → IsOnPlan configs pool all rest shards start (number + 1) after apart2
plan_more {configs} {pool} {left} {rest} {h} {shards} {number} {before} {apart} split is met same one so_far =
    let these : happenings configs pool left ≡ h ∷ happenings configs pool rest = cc in
    record {
      long = cc;
      queued = λ k inside.
          cc (
            one.queued k (omega (arith, inside, so_far.long)),
            one_then (slice_index_or before k []) (queue shards k (number + 1) (happenings configs pool rest))
                (numbered number (in_shard (length before) k h)),
            so_far.queued k inside,
          );
      reported = cc (reported_then number h (happenings configs pool rest) apart);
      met = λ rest_met. so_far.met (subst (AllByRecursion (IsMet configs)) (sym these) (met, rest_met));
      few = omega (arith, ap length split, so_far.few);
    }

pub plan_start : (configs : List SessionConfig) (pool : List Reflector) {all left : List Line} {shards start number : ℕ}
    (queues : List (List Numbered)) {apart : List Piece}
    → left ≡ all → number ≡ start → length queues ≡ shards → ((k : ℕ) → slice_index_or queues k [] ≡ []) → apart ≡ []
    → IsOnPlan configs pool all left shards start number queues apart
plan_start configs pool queues same is long none empty = record {
  long = long;
  queued = λ k inside. cc (none k);
  reported = cc;
  met = λ h. rw (← same) h;
  few = omega (arith, ap length same, is);
}

pub plan_end : {configs : List SessionConfig} {pool : List Reflector} {all left : List Line} {shards start number : ℕ} {queues : List
    (List Numbered)} {apart : List Piece}
    → left ≡ [] → IsOnPlan configs pool all left shards start number queues apart → IsRunPlanned configs pool shards start all queues apart
plan_end {queues} {apart} none so_far = record {
  long = so_far.long;
  queued = λ k inside. cc (append-nil (slice_index_or queues k []), so_far.queued k inside);
  reported = cc (append-nil apart);
  met = so_far.met (rw none tt);
}

at_or : {s : ℕ} (k : ℕ) → s < k + 1 → (s ≡ k) ⊎ (s < k)
at_or k h = grind (arith, h)

-- a bound of the first k holds of one more
pub bound_more : {f : ℕ → ℕ} {k m n : ℕ} → ((s : ℕ) → s < k → f s ≤ m) → f k ≤ n → m ≤ n → (s : ℕ) → s < k + 1 → f s ≤ n
bound_more {k} all last up s h = elim (at_or k h) [
  | inl e ↦ rw e last
  | inr below ↦ omega (arith, all s below, up)
]
