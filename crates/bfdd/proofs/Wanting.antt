-- What is true of the required answer.
use Rattle.bfdd.proofs.Common.{◌≡◌, ◌⊎◌, ℕ, List, Option, Some, None, inl, inr, refl, sym, subst, IfSome, Job, Status, Done, ReadFault}
use Rattle.bfdd.proofs.Common.{WriteFault, Memory, IsDecided, Wanted, wanted, wanted_of}

-- what is true of every answer
pub of_all : (known : Option Wanted) (P : Wanted → Type 0) → ((w : Wanted) → P w) → IfSome known P
of_all None P each = tt
of_all (Some w) P each = each w

-- what is true of the answer, if it is the required one
pub of_answer : (known : Option Wanted) {answer : Wanted} (P : Wanted → Type 0) → IfSome known (λ w. answer ≡ w) → P answer → IfSome known P
of_answer None P is fact = tt
of_answer (Some w) P is fact = subst P is fact

-- what is true of the answer that is required of the job that the words ask for
pub of_job : {given : Option Job} {job : Job} (left : Option (List ℕ)) (P : Wanted → Type 0) → given ≡ Some job
    → IfSome (wanted_of job left) P → IfSome (wanted given left) P
of_job left P is fact = rw is fact

-- a run that is decided, where neither source nor sink failed
pub settled : (result : Status) {want : Status} → IsDecided result want → (result ≡ ReadFault → ⊥) → (result ≡ WriteFault → ⊥)
    → (result ≡ want) ⊎ (result ≡ Memory)
settled ReadFault is reads writes = absurd (reads refl)
settled WriteFault is reads writes = absurd (writes refl)
settled Memory is reads writes = inr refl
settled result is reads writes = inl is

-- what ended with Done was to end so
pub done_wanted : {result want : Status} → IsDecided result want → result ≡ Done → want ≡ Done
done_wanted {want} is same = sym (subst (λ status. IsDecided status want) same is)
