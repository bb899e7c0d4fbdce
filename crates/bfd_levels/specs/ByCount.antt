-- Timers in one of two forms, as one list of optional due ticks.
use Rattle.std.specs.Prelude.{ℕ, List, Option}
use Rattle.bfd_levels.specs.declared.by_count.ByCount.{ByCount}
use Rattle.bfd_levels.specs.declared.by_count.ByCount.TheVariants.{Few, Many}

abbrev pub dues_of : ByCount → List (Option ℕ)
dues_of (Few dues) = dues
dues_of (Many levels) = levels.dues
