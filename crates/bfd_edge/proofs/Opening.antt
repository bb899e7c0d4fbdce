-- The links of ports over memory.
use Rattle.std.proofs.Common.{◌≡◌, ℕ, zero, suc, ◌<◌, ◌≤◌, List, [], ◌∷◌, length, get_or, refl, arith, inr}
use Rattle.std.specs.Prelude.{slice_set}
use Rattle.bfd_edge.specs.Links.{IsNewLink}
use Rattle.bfd_edge.specs.MemoryLink.{HeldLink, observed_of}
use Rattle.bfd_edge.specs.MemoryPorts.{AllNew, ended_link, link_at, with_ended}

pub link_there : (links : List HeldLink) (n : ℕ) (default : HeldLink) → n < length links → get_or links n default ≡ link_at links n
link_there [] n default inside = absurd (omega arith)
link_there (link ∷ links) zero default inside = refl
link_there (link ∷ links) (suc n) default inside = link_there links n default (omega arith)

pub link_past : (links : List HeldLink) (n : ℕ) → length links ≤ n → ended_link ≡ link_at links n
link_past [] n past = refl
link_past (link ∷ links) zero past = absurd (omega arith)
link_past (link ∷ links) (suc n) past = link_past links n (omega arith)

pub set_ended : (links : List HeldLink) (n : ℕ) → n < length links → slice_set links n ended_link ≡ with_ended n links
set_ended [] n inside = absurd (omega arith)
set_ended (link ∷ links) zero inside = refl
set_ended (link ∷ links) (suc n) inside = cc (set_ended links n (omega arith))

pub set_past : (links : List HeldLink) (n : ℕ) → length links ≤ n → links ≡ with_ended n links
set_past [] zero past = refl
set_past [] (suc n) past = refl
set_past (link ∷ links) zero past = absurd (omega arith)
set_past (link ∷ links) (suc n) past = cc (set_past links n (omega arith))

ended_new : IsNewLink (observed_of ended_link)
ended_new = record { counts = refl; traffic = inr refl }

-- a link that was never called stands at each number
pub new_at : (links : List HeldLink) (n : ℕ) → AllNew links → IsNewLink (observed_of (link_at links n))
new_at [] n all = ended_new
new_at (link ∷ links) zero all = all.0
new_at (link ∷ links) (suc n) all = new_at links n all.1

pub new_still : (links : List HeldLink) (n : ℕ) → AllNew links → AllNew (with_ended n links)
new_still [] zero all = all
new_still [] (suc n) all = all
new_still (link ∷ links) zero all = (ended_new, all.1)
new_still (link ∷ links) (suc n) all = (all.0, new_still links n all.1)
