-- What is observed of a ticker, and how each answer changes it.
use Rattle.std.specs.Prelude.{◌≡◌, ℕ, ⊤, Bool, true, List, [], ◌∷◌, ◌++◌, drop, Option, Some, None}
use Rattle.bfd_edge.specs.declared.ticker.Next.{Next}
use Rattle.bfd_edge.specs.declared.ticker.Next.TheVariants.{Got, Ended, Failed}
use Rattle.bfd_edge.specs.Faults.{risen}

-- the ticks that were given, and those that are left, in order
pub record Ticks : Type 0 where
  pub given : List ℕ
  pub left : List ℕ

-- what is observed of a ticker: its ticks if it keeps them, and always the rest
pub record TickerObserved : Type 0 where
  pub ticks : Option Ticks
  -- how often it failed
  pub faults : ℕ
  -- how many ticks it gave
  pub gave : ℕ
  -- whether it answered Ended
  pub over : Bool

-- one more tick was given, if the ticker keeps them
abbrev pub one_given : ℕ → Option Ticks → Option Ticks
one_given tick None = None
one_given tick (Some ticks) = Some (record { given = ticks.given ++ tick ∷ []; left = drop 1 ticks.left })

-- what is observed of a ticker after an answer
abbrev pub after_next : Next → TickerObserved → TickerObserved
after_next (Got tick) observed = record observed { ticks = one_given tick observed.ticks; gave = risen observed.gave 1 }
after_next Ended observed = record observed { over = true }
after_next Failed observed = record observed { faults = risen observed.faults 1 }

-- a tick is the first of those that are left, and the end comes only when none is left
abbrev pub IsInOrder : Next → Option Ticks → Type 0
IsInOrder next None = ⊤
IsInOrder (Got tick) (Some ticks) = ticks.left ≡ tick ∷ drop 1 ticks.left
IsInOrder Ended (Some ticks) = ticks.left ≡ []
IsInOrder Failed (Some ticks) = ⊤
