-- The ranges of a job's numbers.
use Rattle.std.specs.Prelude.{ℕ, ◌≤◌, ◌<◌, List, length, All, IsTrue}
use Rattle.bfdd.specs.declared.words.job.Hands.{Hands}
use Rattle.bfdd.specs.declared.words.job.Job.{Job}
use Rattle.bfdd.specs.declared.words.job.Job.TheVariants.{Replay, Serve, Load, Pair, Watch}
use Rattle.bfdd.specs.Grammar.{are_distinct}

-- from one number to another
abbrev pub IsFrom : ℕ → ℕ → ℕ → Type 0
IsFrom least most n = (least ≤ n) × (n ≤ most)

pub record AreHands (hands : Hands) : Type 0 where
  pub shards : IsFrom 1 64 hands.shards
  pub workers : IsFrom 1 64 hands.workers

pub record AreMembers (members : List ℕ) : Type 0 where
  pub few : length members ≤ 64
  pub distinct : IsTrue (are_distinct members)
  pub positive : All (λ member. 0 < member) members

-- each number of a job is within its range
abbrev pub IsJob : Job → Type 0
IsJob (Replay hands) = AreHands hands
IsJob (Serve hands turns ticks journal) = AreHands hands × IsFrom 1 1000000000 turns × IsFrom 0 1000000000 ticks × IsFrom 1 200000 journal
IsJob (Load sessions ticks seed hands) = AreHands hands × IsFrom 1 5000 sessions × IsFrom 1 6000 ticks
IsJob (Pair events seed) = IsFrom 1 100000 events
IsJob (Watch need members shards) = IsFrom 1 64 shards × AreMembers members × IsFrom 1 (length members) need
