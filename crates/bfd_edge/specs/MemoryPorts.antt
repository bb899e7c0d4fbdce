-- Ports over memory: what they keep, and what they answer.
use Rattle.std.specs.Prelude.{◌≡◌, ℕ, zero, suc, ⊤, true, false, List, [], ◌∷◌, Result, Ok, Err}
use Rattle.bfd_edge.specs.declared.fault.Fault.{Fault}
use Rattle.bfd_edge.specs.declared.fault.Fault.TheVariants as fault
use Rattle.bfd_edge.specs.declared.places.Place.{Place}
use Rattle.bfd_edge.specs.declared.places.Place.TheVariants.{Opened}
use Rattle.bfd_edge.specs.Faults.{raised}
use Rattle.bfd_edge.specs.Links.{IsNewLink, no_counts}
use Rattle.bfd_edge.specs.Memory.{is_to_fail}
use Rattle.bfd_edge.specs.MemoryLink.{HeldLink}
use Rattle.bfd_edge.specs.MemoryLink as memory_link
use Rattle.bfd_edge.specs.Places.{place_in, ports_observed, with_place}
use Rattle.bfd_edge.specs.Ports.{PortsObserved}

-- ports over memory
pub record HeldPorts : Type 0 where
  -- the links that are opened, by number
  pub links : List HeldLink
  -- what became of each number
  pub places : List (Place HeldLink)
  -- the calls of open so far
  pub calls : ℕ
  -- the numbers of the calls that fail, counted from 0
  pub fails : List ℕ
  -- how often opening failed
  pub faults : ℕ

-- what is observed of them
abbrev pub observed_of : HeldPorts → PortsObserved
observed_of ports = ports_observed memory_link.observed_of (place_in ports.places) ports.faults

-- each of the links is one that was never called
abbrev pub AllNew : List HeldLink → Type 0
AllNew [] = ⊤
AllNew (link ∷ links) = IsNewLink (memory_link.observed_of link) × AllNew links

-- a link that is Ended from the start
abbrev pub ended_link : HeldLink
ended_link = record { number = 0; received = []; left = []; sent = []; sends = 0; fails = []; counts = no_counts }

-- the link of a number, by the list: one that is Ended from the start if the list lacks it
abbrev pub link_at : List HeldLink → ℕ → HeldLink
link_at [] n = ended_link
link_at (link ∷ links) zero = link
link_at (link ∷ links) (suc n) = link_at links n

-- the list with a link that is Ended from the start in place of the one of this number
abbrev pub with_ended : ℕ → List HeldLink → List HeldLink
with_ended n [] = []
with_ended zero (link ∷ links) = ended_link ∷ links
with_ended (suc n) (link ∷ links) = link ∷ with_ended n links

-- ports before an open, the answer, and the ports afterwards
abbrev pub AnswersOpen : ℕ → HeldPorts → Result HeldLink Fault → HeldPorts → Type 0
AnswersOpen number old (Ok link) new =
    (is_to_fail old.calls old.fails ≡ false)
    × (link ≡ record (link_at old.links number) { number = number })
    × (new.links ≡ with_ended number old.links)
    × (place_in new.places ≡ with_place number Opened (place_in old.places))
    × (new.calls ≡ raised old.calls) × (new.fails ≡ old.fails)
AnswersOpen number old (Err fault.Failed) new =
    (is_to_fail old.calls old.fails ≡ true)
    × (new ≡ record old { calls = raised old.calls; faults = raised old.faults })
AnswersOpen number old (Err fault.Memory) new =
    (is_to_fail old.calls old.fails ≡ false)
    × (place_in new.places ≡ place_in old.places)
    × (new ≡ record old { places = new.places })
