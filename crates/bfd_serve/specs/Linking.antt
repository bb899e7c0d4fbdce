-- The links of a run, opened and shut.
use Rattle.std.specs.Prelude.{◌≡◌, ◌≤◌, ◌<◌, ℕ, true, false, List, ◌∷◌, length, slice_index_or, Some}
use Rattle.bfd_edge.specs.Faults.{risen}
use Rattle.bfd_edge.specs.Links.{LinkObserved, IsNewLink}
use Rattle.bfd_edge.specs.Ports.{PortsObserved}
use Rattle.bfd_edge.specs.Tickers.{TickerObserved}
use Rattle.bfd_serve.specs.declared.run.finish.Refused.{Refused}
use Rattle.bfd_serve.specs.declared.run.finish.Refused.TheVariants.{PortFault, Memory}

-- the link was never called
abbrev pub IsUncalled : {L : Type 0} → (L → LinkObserved) → L → Type 0
IsUncalled observed link = IsNewLink (observed link)

-- the link of caller 0 and those of the workers: each is the one that was opened by its caller's number
pub record AreTheirs {L : Type 0} (observed : L → LinkObserved) (own : L) (links : List L) : Type 0 where
  pub at : (number : ℕ) → number ≤ length links → (observed (slice_index_or (own ∷ links) number own)).number ≡ number

-- exactly the links 0 to this number were opened, and opening didn't fail
pub record IsOpenTo (last : ℕ) (before after : PortsObserved) : Type 0 where
  pub open_is : (number : ℕ) → number ≤ last → after.opened number ≡ true
  pub others : (number : ℕ) → last < number → after.opened number ≡ false
  pub faults : after.faults ≡ before.faults

-- every link that was opened was shut
pub record AreShut (ports : PortsObserved) : Type 0 where
  pub shut : (number : ℕ) → ports.opened number ≡ true → (link : LinkObserved) × (ports.shut number ≡ Some link)

-- .. and none was called
pub record AreUncalled (ports : PortsObserved) : Type 0 where
  pub shut : (number : ℕ) → ports.opened number ≡ true → (link : LinkObserved) × (ports.shut number ≡ Some link) × IsNewLink link

-- what the count of faults shows when opening failed
abbrev pub IsFaultOf : Refused → PortsObserved → PortsObserved → Type 0
IsFaultOf PortFault before after = after.faults ≡ risen before.faults 1
IsFaultOf Memory before after = after.faults ≡ before.faults

-- not all links could be opened
pub record IsUnopened (refused : Refused) (before after : PortsObserved) : Type 0 where
  pub fault : IsFaultOf refused before after
  pub uncalled : AreUncalled after

-- a port couldn't be opened: the opened links are shut, and nothing ran. Memory may run out at any place
abbrev pub IsLinkRefused : Refused → PortsObserved → PortsObserved → TickerObserved → TickerObserved → Type 0
IsLinkRefused PortFault before after c d = IsUnopened PortFault before after × (d ≡ c)
IsLinkRefused Memory before after c d = after.faults ≡ before.faults
