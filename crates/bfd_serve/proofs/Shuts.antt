-- Links that are open, and one more that can't be opened.
use Rattle.bfd_serve.proofs.RunCommon.{◌≡◌, ℕ, zero, suc, ◌≤◌, true, List, [], ◌∷◌, ◌++◌, length, get_or, Some, Err, refl, sym, ◌∙◌, arith}
use Rattle.bfd_serve.proofs.RunCommon.{All, All-cons, All-get_or, dite, dec_lt, LinkObserved, IsNewLink, refused_as, IsUncalled, IsOpenTo}
use Rattle.bfd_serve.proofs.RunCommon.{AreUncalled, IsFaultOf, IsUnopened, PortsObserved, after_open}
use Rattle.bfd_edge.specs.declared.fault.Fault.{Fault}
use Rattle.bfd_edge.specs.declared.fault.Fault.TheVariants as fault
use Rattle.bfd_serve.specs.declared.run.finish.Refused.{Refused}

pub get_last : {X : Type 0} (xs : List X) (x : X) (i : ℕ) (d : X) → i ≡ length xs → get_or (xs ++ x ∷ []) i d ≡ x
get_last [] x zero d h = refl
get_last (y ∷ ys) x (suc i) d h = get_last ys x i d (omega (arith, h))
get_last xs x i d h = absurd (omega (arith, h))

same_opened : (L : Type 0) (f : Fault) (number : ℕ) (p : PortsObserved) {q : PortsObserved} → q ≡ after_open {L = L} number (Err f) p
    → (n : ℕ)
    → q.opened n ≡ p.opened n
same_opened L fault.Failed number p is n = cc
same_opened L fault.Memory number p is n = cc

fault_is : (L : Type 0) (f : Fault) (number : ℕ) (first p : PortsObserved) {q : PortsObserved} (last : PortsObserved)
    → q ≡ after_open {L = L} number (Err f) p → p.faults ≡ first.faults → last.faults ≡ q.faults → IsFaultOf (refused_as f) first last
fault_is L fault.Failed number first p last is same later = cc
fault_is L fault.Memory number first p last is same later = cc

-- these links are new, and all that are open are shut
module _ {L : Type 0} (observed : L → LinkObserved) (own : L) (links : List L) (own_new : IsNewLink (observed own))
    (new : All (IsUncalled observed) links)
    (first p q : PortsObserved)
    (opened : IsOpenTo (length links) first p) (same : (n : ℕ) → q.opened n ≡ p.opened n)
    (shut : (n : ℕ) → n ≤ length links → q.shut n ≡ Some (observed (get_or (own ∷ links) n own))) where
  link_new : {n : ℕ} → n ≤ length links → IsNewLink (observed (get_or (own ∷ links) n own))
  link_new {n} h = All-get_or (IsUncalled observed) (own ∷ links) n own (omega arith) (All-cons (IsUncalled observed) own links own_new new)

  inside : {n : ℕ} → q.opened n ≡ true → n ≤ length links
  inside {n} h = dite (dec_lt (length links) n) (λ far. absurd (cc (sym h ∙ (same n ∙ opened.others n far)))) (λ near. omega (arith, near))

  uncalled : AreUncalled q
  uncalled = record { shut = λ n h. let near = inside h in (observed (get_or (own ∷ links) n own), shut n near, link_new near) }

-- the next link can't be opened
pub next_unopened : {L : Type 0} (observed : L → LinkObserved) (own : L) (links : List L) (f : Fault) (r : Refused) (at number : ℕ)
    (first p q last : PortsObserved) → r ≡ refused_as f
    → IsNewLink (observed own) → All (IsUncalled observed) links → length links ≡ at → IsOpenTo at first p
    → q ≡ after_open {L = L} number (Err f) p
    → ((n : ℕ) → last.opened n ≡ q.opened n) → last.faults ≡ q.faults
    → ((n : ℕ) → n ≤ length links → last.shut n ≡ Some (observed (get_or (own ∷ links) n own))) → IsUnopened r first last
next_unopened {L} observed own links f r at number first p q last named own_new new long opened is same faults shut = rw named (record {
  fault = fault_is L f number first p last is opened.faults faults;
  uncalled = uncalled observed own links own_new new first p last (rw long opened) (λ n. same n ∙ same_opened L f number p is n) shut;
})
