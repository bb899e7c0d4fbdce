-- The lines of the changes so far.
use Rattle.std.proofs.Common.{◌≡◌, take}
use Rattle.std.specs.List.{flat_map}
use Rattle.std.specs.String.{string_bytes}
use Rattle.bfd_watch.specs.Watched.{change_line}
use Rattle.bfd_watch.proofs.text.changes_text.Given as goal

abbrev pub invariant-loop-change : goal.invariant-loop-change
invariant-loop-change l = string_bytes l.text ≡ flat_map (change_line l.number) (take l.change-index l.changes)
