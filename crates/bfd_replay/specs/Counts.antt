-- How many sessions are Up, and how many packets were sent and dropped.
use Rattle.std.specs.Prelude.{ℕ, zero, suc, ◌+◌, List, length, if◌then◌else◌, sum_by}
use Rattle.std.specs.List.{filter}
use Rattle.bfd_rules.specs.Quantities.{is_up}
use Rattle.bfd_session.specs.Alone.{Outcome}
use Rattle.bfd_session.specs.Kinds.{Running}
use Rattle.bfd_script.specs.Report.{packets_sent, dropped}
use Rattle.bfd_replay.specs.declared.report.counts.Counts.{Counts}

-- 1 for a session that is Up, and else 0
abbrev pub one_up : Running → ℕ
one_up s = if is_up s.vars.state then 1 else 0

abbrev pub ups : List Running → ℕ
ups sessions = length (filter (λ s. is_up s.vars.state) sessions)

-- the sum of a count of each number below n
abbrev pub sum_to : (ℕ → ℕ) → ℕ → ℕ
sum_to f zero = 0
sum_to f (suc n) = sum_to f n + f n

-- how many events have these outcomes, and how many packets were sent and dropped in them
abbrev pub counts_of : List Outcome → Counts
counts_of outcomes = record { events = length outcomes; txs = sum_by packets_sent outcomes; drops = sum_by dropped outcomes }
