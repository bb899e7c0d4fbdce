-- A worker's own queues, taken out one by one.
use Rattle.bfd_replay.proofs.WorkerCommon.{◌≡◌, ◌≢◌, ◌<◌, ◌≤◌, ◌+◌, ◌%◌, ◌==◌, ◌++◌, ◌∙◌, ◌∷◌, Bool, false, ℕ, [], List, length, ap, refl}
use Rattle.bfd_replay.proofs.WorkerCommon.{arith, length-append, slice_index_or, if◌then◌else◌, ne_eqb, get_or-append_seam}
use Rattle.bfd_replay.proofs.WorkerCommon.{get_or_append_left, dite, ℕ_discrete, Numbered, own_queue}

-- those of the shards up to here were taken, and these are left
pub record InOwn (workers at shard : ℕ) (all left own : List (List Numbered)) : Type 0 where
  pub long : length own ≡ shard
  pub same : length left ≡ length all
  pub each : (s : ℕ) → s < shard → slice_index_or own s [] ≡ own_queue workers at s (slice_index_or all s [])
  pub later : (s : ℕ) → shard ≤ s → slice_index_or left s [] ≡ slice_index_or all s []
  pub others : (s : ℕ) → s % workers ≢ at → slice_index_or left s [] ≡ slice_index_or all s []

pub own_none : (workers at : ℕ) (all own : List (List Numbered)) → own ≡ [] → InOwn workers at 0 all all own
own_none workers at all own none = record {
  long = cc;
  same = refl;
  each = λ s h. absurd (omega (arith, h));
  later = λ s h. refl;
  others = λ s h. refl;
}

pub own_more : (workers at shard : ℕ) (mine : Bool) (all left after own own2 : List (List Numbered)) (taken : List Numbered)
    → mine ≡ (shard % workers == at)
    → taken ≡ (if mine then slice_index_or left shard [] else []) → own2 ≡ own ++ taken ∷ [] → length after ≡ length left
    → ((s : ℕ) → (s ≡ shard → ⊥) → slice_index_or after s [] ≡ slice_index_or left s [])
    → (mine ≡ false → after ≡ left) → InOwn workers at shard all left own → InOwn workers at (shard + 1) all after own2
own_more workers at shard mine all left after own own2 taken is took pushed long others kept o = record {
  long = omega (arith, ap length pushed, length-append own (taken ∷ []), o.long);
  same = cc;
  each = λ s h. dite (ℕ_discrete s shard) (λ same. rw same (cc (get_or-append_seam own taken [] [], o.later shard (omega arith)))) (λ other.
      cc (get_or_append_left own (taken ∷ []) [] s (omega (arith, o.long, h, other)), o.each s (omega (arith, h, other))));
  later = λ s h. others s (λ e. absurd (omega (arith, h, e))) ∙ o.later s (omega (arith, h));
  others = λ s away. dite (ℕ_discrete s shard)
      (λ same. cc (kept (is ∙ ne_eqb (shard % workers) at (λ e. away (ap (λ i. i % workers) same ∙ e))), o.others s away))
      (λ other. others s other ∙ o.others s away);
}
