-- When a turn is refused, and what comes back.
use Rattle.atomic_table.specs.Seated.{TableId}
use Rattle.bfd_turn.specs.declared.view.Known.{Known}
use Rattle.bfd_turn.specs.declared.fault.TryFault as try
use Rattle.bfd_turn.specs.declared.fault.TryFault.TheVariants.{Busy, Spent}
use Rattle.bfd_turn.specs.declared.fault.Spent as all
use Rattle.bfd_turn.specs.Passes.{IsBack, HasLoaded, WasBusy, WasSpent}

module _ {N B : Type 0} where
  -- why one try was refused, by the word of its one load, and the pass that comes back
  abbrev pub IsRefused : TableId → Known N B → try.TryFault N B → Type 0
  IsRefused id v (Busy pass read found) = IsBack id v found pass × WasBusy v read found × HasLoaded v read pass
  IsRefused id v (Spent pass word) = IsBack id v word pass × WasSpent v word × HasLoaded v word pass

  -- no turn is left, and the pass comes back
  abbrev pub IsUsedUp : TableId → Known N B → all.Spent N B → Type 0
  IsUsedUp id v f = IsBack id v f.word f.pass × WasSpent v f.word
