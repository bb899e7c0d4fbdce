-- What became of each number of the ports.
use Rattle.std.specs.Prelude.{ℕ, zero, suc, ◌==◌, Bool, true, false, List, [], ◌∷◌, Option, Some, None, if◌then◌else◌}
use Rattle.bfd_edge.specs.declared.places.Place.{Place}
use Rattle.bfd_edge.specs.declared.places.Place.TheVariants.{Waiting, Opened, Shut}
use Rattle.bfd_edge.specs.Links.{LinkObserved}
use Rattle.bfd_edge.specs.Ports.{PortsObserved}

-- the place of a number in a list of places; numbers after its end are waiting
abbrev pub place_in : {T : Type 0} → List (Place T) → ℕ → Place T
place_in [] n = Waiting
place_in (place ∷ places) zero = place
place_in (place ∷ places) (suc n) = place_in places n

-- the places with this one for the number
abbrev pub with_place : {T : Type 0} → ℕ → Place T → (ℕ → Place T) → ℕ → Place T
with_place number place places n = if n == number then place else places n

-- the number was opened, and may be shut again
abbrev pub is_opened : {T : Type 0} → Place T → Bool
is_opened Waiting = false
is_opened Opened = true
is_opened (Shut kept) = true

-- the number was shut
abbrev pub is_shut : {T : Type 0} → Place T → Bool
is_shut Waiting = false
is_shut Opened = false
is_shut (Shut kept) = true

-- what was observed of the link of the number when it was shut, by what was kept of it
abbrev pub observed_in : {T : Type 0} → (T → LinkObserved) → Place T → Option LinkObserved
observed_in observed Waiting = None
observed_in observed Opened = None
observed_in observed (Shut kept) = Some (observed kept)

-- what is observed of ports with these places
abbrev pub ports_observed : {T : Type 0} → (T → LinkObserved) → (ℕ → Place T) → ℕ → PortsObserved
ports_observed observed places faults = record {
  opened = λ n. is_opened (places n);
  shut = λ n. observed_in observed (places n);
  faults = faults;
}
