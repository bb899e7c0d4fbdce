-- A client that polls a shard.
use Rattle.std.proofs.Common.{◌≡◌, ◌++◌, [], ℕ, List, length, drop, ◌∙◌, append-nil}
use Rattle.std.proofs.Math.Seq.{drop-append_seam}
use Rattle.bfd_engine.specs.Engines.{Shards, Knows, IsOf, AllThere}
use Rattle.bfd_engine.specs.Calls.{seen_at}
use Rattle.bfd_engine.specs.Reads.{HasRead}
use Rattle.bfd_thread_tests.specs.Calling.{HasGrown}
use Rattle.bfd_thread_tests.specs.Joining.{HasOpen}
use Rattle.bfd_thread_tests.proofs.Worked.{grown_turn}

-- a look at the history is a turn
pub grown_read : (k l : Knows) (shard : ℕ) → HasRead k l shard → HasGrown k l
grown_read k l shard r = grown_turn k l shard r.between [] r.turned

-- what is seen after a look is what was seen, and then all behind it
pub seen_rest : (k l : Knows) (shard : ℕ) → HasRead k l shard
    → seen_at k shard ++ drop (length (seen_at k shard)) (seen_at l shard) ≡ seen_at l shard
seen_rest k l shard r =
    let here : seen_at l shard ≡ seen_at k shard ++ r.between = r.turned.here ∙ append-nil (seen_at k shard ++ r.between) in
    cc (drop-append_seam (seen_at k shard) r.between)

-- an open pass is open after calls of its own
pub open_grown : (engine : Shards) (k l : Knows) (ns : List ℕ) → HasOpen engine k ns → HasGrown k l → IsOf engine l.1 → AllThere l.1
    → HasOpen engine l ns
open_grown engine k l ns o g of there = record {
  of = of;
  there = there;
  number = cc;
  others = o.others;
  made = λ s h. cc (g.made s, o.made s h, g.kept s);
}
