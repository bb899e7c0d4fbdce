-- Sessions that are copied and dealt out.
use Rattle.bfd_serve.proofs.RunCommon.{◌≡◌, ℕ, ◌+◌, ◌<◌, ◌≤◌, List, [], ◌∷◌, ◌++◌, length, map, drop, get_or, sym, ◌∙◌, subst, append_assoc}
use Rattle.bfd_serve.proofs.RunCommon.{append-nil, arith, AllByRecursion, recursion_from_All, drop_all, length-map, get_or-map, same_lists}
use Rattle.bfd_serve.proofs.RunCommon.{get_or_default, get_or_from_slice_get, SessionConfig, configs_of, AreFit, Shard, share, Shards}
use Rattle.bfd_serve.proofs.RunCommon.{AreDealt, AreClosedShards, IsFit}
use Rattle.bfd_shard.proofs.Sharing.{all_share, share_next, share_nothing}
use Rattle.bfd_serve.proofs.Closings.{there_is}

module _ {A : Type 0} where
  -- one more element of a share
  pub share_more : (n c at next : ℕ) (xs part more : List A) (x : A) → 0 < n → at < length xs → next ≡ at + n → x ≡ get_or xs at x
      → more ≡ part ++ x ∷ []
      → part ++ share n 0 (drop at xs) ≡ share n c xs → more ++ share n 0 (drop next xs) ≡ share n c xs
  share_more n c at next xs part more x some inside next_is is pushed whole =
      cc (share_next n at next xs x some inside next_is is, append_assoc part (x ∷ []) (share n 0 (drop next xs)))

  pub share_over : (n c at : ℕ) (xs part : List A) → length xs ≤ at → part ++ share n 0 (drop at xs) ≡ share n c xs → part ≡ share n c xs
  share_over n c at xs part over whole = cc (append-nil part, share_nothing n _ (drop_all at xs over))

own_share : {engine : Shards} {shards : ℕ} {configs : List SessionConfig} {k : ℕ} {states : List Shard} (d : List SessionConfig)
    → length engine.locks ≡ shards → engine.configs ≡ configs → AreClosedShards engine states → k < length states
    → share shards k configs ≡ get_or (map (λ (state : Shard). configs_of state.sessions) states) k d
own_share {k} {states} d locks same closed inside =
    let x = there_is states k inside in
    sym (cc (
      get_or-map (λ state. configs_of state.sessions) states k x.0 d inside,
      get_or_from_slice_get states k x.0 x.0 x.1,
      (closed.each k x.0 x.1).configs,
    ))

-- the parts are what the shards were built from
pub parts_are : {engine : Shards} {shards : ℕ} {configs : List SessionConfig} {parts : List (List SessionConfig)} {states : List Shard}
    → length engine.locks ≡ shards → engine.configs ≡ configs → AreDealt shards shards configs parts → AreClosedShards engine states
    → parts ≡ map (λ state. configs_of state.sessions) states
parts_are {shards} {parts} {states} locks same dealt closed =
    let long : length parts ≡ length (map (λ (state : Shard). configs_of state.sessions) states) =
    cc (length-map states (λ state. configs_of state.sessions)) in
    same_lists parts (map (λ state. configs_of state.sessions) states) long (λ k d h. let few : k < shards = omega (arith, dealt.long, h) in
    get_or_default parts k d [] h ∙ (dealt.each k few ∙ own_share d locks same closed (omega (arith, closed.long, few, locks))))

-- each part is within its ranges
pub parts_fit : {shards : ℕ} {configs : List SessionConfig} {parts : List (List SessionConfig)} → AreFit configs
    → AreDealt shards shards configs parts → AllByRecursion AreFit parts
parts_fit {shards} {configs} {parts} fit dealt = recursion_from_All AreFit parts (λ k d h.
    subst AreFit (sym (get_or_default parts k d [] h ∙ dealt.each k (omega (arith, dealt.long, h)))) (all_share IsFit shards k configs fit))
