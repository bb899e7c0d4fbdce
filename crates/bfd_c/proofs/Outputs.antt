-- Outputs that are left to be read.
use Rattle.std.proofs.Common.{◌≡◌, ◌+◌, ◌≤◌, ℕ, List, length, sym}
use Rattle.std.specs.Prelude.{drop}
use Rattle.bfd_c.proofs.Common.{drop-drop}
use Rattle.std.proofs.Math.ListN.{drop_of_length-le}
use Rattle.bfd_rules.specs.declared.outputs.Out.{Out}

pub one_more : (items : List Out) (n : ℕ) → drop (n + 1) items ≡ drop 1 (drop n items)
one_more items n = sym (drop-drop 1 n items)

pub none_more : (items : List Out) (n : ℕ) → length items ≤ n → drop n items ≡ drop 1 (drop n items)
none_more items n h = let e = drop_of_length-le items h in cc
