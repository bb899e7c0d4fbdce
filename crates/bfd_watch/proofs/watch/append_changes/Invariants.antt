-- With the changes of the outputs that are left, those reported so far are all; and there is room for as many.
use Rattle.std.proofs.Common.{◌≡◌, ◌+◌, ◌≤◌, ◌++◌, length, drop, vec_len, vec_capacity}
use Rattle.bfd_watch.specs.Changes.{changes_in}
use Rattle.bfd_watch.proofs.watch.append_changes.Given as goal

abbrev pub invariant-loop-item : goal.invariant-loop-item
invariant-loop-item l = record {
  reported : l.out.items ++ changes_in l.number (drop l.item-index l.items) ≡ l.initial.out.items ++ changes_in l.number l.items;
  room : vec_len l.out + length l.items ≤ vec_capacity l.out + l.item-index;
}
