-- Links that are each the one that was opened by its number.
use Rattle.bfd_serve.proofs.RunCommon.{◌≡◌, ℕ, zero, suc, ◌+◌, ◌≤◌, List, [], ◌∷◌, ◌++◌, length, get_or, ap, sym, ◌∙◌, arith}
use Rattle.bfd_serve.proofs.RunCommon.{get_or_default, dite, dec_lt, nat_tests, false, true, Some, ◌==◌, PortsObserved, LinkObserved}
use Rattle.bfd_serve.proofs.RunCommon.{TickerObserved}
use Rattle.bfd_serve.proofs.RunCommon.{Line, Shards, Knows, End, Limits, AreTheirs}
use Rattle.std.proofs.Math.Seq.{get_or-append_seam}
use Rattle.std.proofs.lemmas.List.{get_or_append_left}
use Rattle.std.proofs.Common.{length-append}
use Rattle.bfd_edge.specs.Ports.{after_shut}
use Rattle.bfd_serve.specs.Serves.{HasServed}
use Rattle.bfd_serve.specs.declared.ending.End.TheVariants.{Ended}
use Rattle.bfd_serve.proofs.Shuts.{get_last}

module _ {L : Type 0} (observed : L → LinkObserved) {own : L} where
  -- the link of caller 0 alone
  pub theirs_none : (observed own).number ≡ 0 → AreTheirs observed own []
  theirs_none is = record { at = at }
    where
      at : (n : ℕ) → n ≤ 0 → (observed (get_or (own ∷ []) n own)).number ≡ n
      at zero h = is
      at (suc n) h = absurd (omega arith)

  -- one more link
  pub theirs_more : (links : List L) (link : L) → AreTheirs observed own links → (observed link).number ≡ length links + 1
      → AreTheirs observed own (links ++ link ∷ [])
  theirs_more links link theirs is = record { at = at }
    where
      at : (n : ℕ) → n ≤ length (links ++ link ∷ []) → (observed (get_or (own ∷ (links ++ link ∷ [])) n own)).number ≡ n
      at zero h = theirs.at zero (omega arith)
      at (suc m) h = dite (dec_lt m (length links))
          (λ less. ap (λ x. (observed x).number) (get_or_append_left links (link ∷ []) own m less)
          ∙ theirs.at (suc m) (omega (arith, less)))
          (λ last. let e : m ≡ length links = omega (arith, last, h, length-append links (link ∷ [])) in
          let f : length links + 1 ≡ suc m = omega (arith, e) in
          ap (λ x. (observed x).number) (get_last links link m own e) ∙ (is ∙ f))

  -- the link behind so many others is the one of the next number
  pub next_number : (gone rest links : List L) (link : L) {n : ℕ} → AreTheirs observed own links → gone ++ link ∷ rest ≡ links
      → n ≡ length gone + 1 → (observed link).number ≡ n
  next_number gone rest links link theirs all is =
      let inside : suc (length gone) ≤ length links = omega (arith, ap length all, length-append gone (link ∷ rest)) in
      let e : suc (length gone) ≡ length gone + 1 = omega arith in
      ap (λ x. (observed x).number) (sym (get_or-append_seam gone link rest own) ∙ ap (λ xs. get_or xs (length gone) own) all)
      ∙ (theirs.at (suc (length gone)) inside ∙ (e ∙ sym is))

  -- the same links, if the same is observed of the first one
  pub theirs_same : {own2 : L} (links back : List L) → observed own2 ≡ observed own → back ≡ links → AreTheirs observed own links
      → AreTheirs observed own2 back
  theirs_same {own2} links back observed_same same theirs = record { at = at }
    where
      at : (n : ℕ) → n ≤ length back → (observed (get_or (own2 ∷ back) n own2)).number ≡ n
      at zero h = ap (λ t. t.number) observed_same ∙ theirs.at zero (omega arith)
      at (suc m) h =
          let inside : suc m ≤ length links = omega (arith, h, ap length same) in
          ap (λ xs. (observed (get_or xs m own2)).number) same
          ∙ (ap (λ x. (observed x).number) (get_or_default links m own2 own (omega (arith, inside))) ∙ theirs.at (suc m) inside)

  -- the links after a run
  pub theirs_after : (own2 : L) {engine : Shards} {l : Knows} {c d : TickerObserved} {orders : List Line} {limits : Limits}
      (links back : List L) {ends : List End} {lost : ℕ}
      → HasServed observed engine l (observed own) (observed own2) c d orders limits links back ends lost → AreTheirs observed own links
      → AreTheirs observed own2 back
  theirs_after own2 links back served theirs = record { at = at }
    where
      at : (n : ℕ) → n ≤ length back → (observed (get_or (own2 ∷ back) n own2)).number ≡ n
      at zero h = served.timed.did.same_link ∙ theirs.at zero (omega arith)
      at (suc m) h =
          let inside : suc m ≤ length links = (let long = served.back_long in omega (arith, h, long)) in
          let worker = served.workers m own Ended 0 (omega (arith, inside)) in
          ap (λ x. (observed x).number) (get_or_default back m own2 own (omega (arith, h)))
          ∙ (worker.worked.did.same_link ∙ theirs.at (suc m) inside)

  -- one more link is shut
  pub shut_more : (gone : List L) (link : L) {number : ℕ} {p q : PortsObserved} → q ≡ after_shut number (observed link) p
      → number ≡ length gone + 1
      → ((n : ℕ) → n ≤ length gone → p.shut n ≡ Some (observed (get_or (own ∷ gone) n own)))
      → (n : ℕ) → n ≤ length (gone ++ link ∷ []) → q.shut n ≡ Some (observed (get_or (own ∷ (gone ++ link ∷ [])) n own))
  shut_more gone link {number} is count before zero h =
      let other : (0 == number) ≡ false = grind (arith, nat_tests, count) in
      ap (λ (r : PortsObserved). r.shut zero) is ∙ rw other (before zero (omega arith))
  shut_more gone link {number} is count before (suc m) h = dite (dec_lt m (length gone))
      (λ less. let other : (suc m == number) ≡ false = grind (arith, nat_tests, less, count) in
      ap (λ (r : PortsObserved). r.shut (suc m)) is ∙ rw other
      (before (suc m) (omega (arith, less)) ∙ ap (λ x. Some (observed x)) (sym (get_or_append_left gone (link ∷ []) own m less))))
      (λ last. let e : m ≡ length gone = omega (arith, last, h, length-append gone (link ∷ [])) in
      let here : (suc m == number) ≡ true = grind (arith, nat_tests, e, count) in
      ap (λ (r : PortsObserved). r.shut (suc m)) is ∙ rw here (ap (λ x. Some (observed x)) (sym (get_last gone link m own e))))
