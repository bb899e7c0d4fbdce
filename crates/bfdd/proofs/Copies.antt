-- A shard's sessions, copied one by one, and a watch of each shard.
use Rattle.bfdd.proofs.WatchedTextCommon.{◌≡◌, ◌<◌, ◌≤◌, ◌+◌, ◌++◌, ℕ, List, [], ◌∷◌, length, drop, get_or, sym, ap, ◌∙◌, subst}
use Rattle.bfdd.proofs.WatchedTextCommon.{append_assoc, append-nil, arith, dite, ℕ_discrete, slice_get, Some, share, SessionConfig}
use Rattle.bfdd.proofs.WatchedTextCommon.{Watching, watching}
use Rattle.std.proofs.lemmas.List.{drop_all}
use Rattle.bfd_shard.proofs.Sharing.{share_next, share_nothing}
use Rattle.bfd_engine.proofs.Places.{front_here, last_here}

module _ {A : Type 0} where
  -- one more element of a share
  pub share_more : (n c at next : ℕ) (xs part more : List A) (x : A) → 0 < n → at < length xs → next ≡ at + n → x ≡ get_or xs at x
      → more ≡ part ++ x ∷ []
      → part ++ share n 0 (drop at xs) ≡ share n c xs → more ++ share n 0 (drop next xs) ≡ share n c xs
  share_more n c at next xs part more x some inside next_is is pushed whole =
      cc (share_next n at next xs x some inside next_is is, append_assoc part (x ∷ []) (share n 0 (drop next xs)))

  pub share_over : (n c at : ℕ) (xs part : List A) → length xs ≤ at → part ++ share n 0 (drop at xs) ≡ share n c xs → part ≡ share n c xs
  share_over n c at xs part over whole = cc (append-nil part, share_nothing n _ (drop_all at xs over))

-- one more watch
pub watch_more : (n r limit : ℕ) (cs : List SessionConfig) (before after : List Watching) (w : Watching) → after ≡ before ++ w ∷ []
    → length before ≡ r
    → w ≡ watching (share n r cs) [] limit → ((k : ℕ) → k < r → slice_get before k ≡ Some (watching (share n k cs) [] limit))
    → (k : ℕ) → k < r + 1 → slice_get after k ≡ Some (watching (share n k cs) [] limit)
watch_more n r limit cs before after w added long is each k h = dite (ℕ_discrete k r)
    (λ e. subst (λ j. slice_get after j ≡ Some (watching (share n j cs) [] limit)) (sym e)
    (ap (λ x. slice_get x r) added ∙ (last_here before w r (omega (arith, long)) ∙ ap (λ x. Some x) is)))
    (λ e. ap (λ x. slice_get x k) added ∙ (front_here before w k (omega (arith, h, e, long)) ∙ each k (omega (arith, h, e))))
