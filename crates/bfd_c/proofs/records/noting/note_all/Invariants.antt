-- With the outputs that are left, the records are those of all.
use Rattle.std.proofs.Common.{◌≡◌, length, drop}
use Rattle.bfd_c.specs.Records.{all_given}
use Rattle.bfd_c.proofs.records.noting.note_all.Given as goal

abbrev pub invariant-loop-at : goal.invariant-loop-at
invariant-loop-at g l = record {
  reported : all_given l.instance.world l.records.items (drop l.at l.outs) ≡ all_given l.instance.world l.initial.records.items l.outs;
  long : length l.records.items ≡ length l.instance.world.sessions;
}
