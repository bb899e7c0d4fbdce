-- A ticker over memory: what it keeps, what it answers, and what it keeps afterwards.
use Rattle.std.specs.Prelude.{ℕ, Bool, true, List, [], ◌∷◌, ◌++◌, Some, if◌then◌else◌}
use Rattle.bfd_edge.specs.declared.ticker.Next.{Next}
use Rattle.bfd_edge.specs.declared.ticker.Next.TheVariants.{Got, Ended, Failed}
use Rattle.bfd_edge.specs.Faults.{raised}
use Rattle.bfd_edge.specs.Memory.{is_to_fail}
use Rattle.bfd_edge.specs.Tickers.{TickerObserved}

-- a ticker over memory
pub record HeldTicker : Type 0 where
  -- the ticks that it gave
  pub given : List ℕ
  -- the ticks that are left
  pub left : List ℕ
  -- the calls so far
  pub calls : ℕ
  -- the numbers of the calls that fail, counted from 0
  pub fails : List ℕ
  -- how often it failed
  pub faults : ℕ
  -- how many ticks it gave
  pub gave : ℕ
  -- whether it answered Ended
  pub over : Bool

-- what is observed of it
abbrev pub observed_of : HeldTicker → TickerObserved
observed_of ticker = record {
  ticks = Some (record { given = ticker.given; left = ticker.left });
  faults = ticker.faults;
  gave = ticker.gave;
  over = ticker.over;
}

-- the first tick of a list, or the end
abbrev pub first_tick : List ℕ → Next
first_tick [] = Ended
first_tick (tick ∷ rest) = Got tick

-- what a call answers
abbrev pub next_of : HeldTicker → Next
next_of ticker = if is_to_fail ticker.calls ticker.fails then Failed else first_tick ticker.left

-- after a call that doesn't fail, by the ticks that were left
abbrev pub ticker_given : List ℕ → HeldTicker → HeldTicker
ticker_given [] ticker = record ticker { over = true }
ticker_given (tick ∷ rest) ticker = record ticker { given = ticker.given ++ tick ∷ []; left = rest; gave = raised ticker.gave }

-- the ticker after a call
abbrev pub ticker_after : HeldTicker → HeldTicker
ticker_after ticker =
    if is_to_fail ticker.calls ticker.fails
    then record ticker { calls = raised ticker.calls; faults = raised ticker.faults }
    else ticker_given ticker.left (record ticker { calls = raised ticker.calls })
