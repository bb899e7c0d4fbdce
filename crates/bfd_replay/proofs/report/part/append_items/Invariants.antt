-- The outputs so far have their marks and their text.
use Rattle.bfd_replay.proofs.ReportCommon.{◌≡◌, ◌++◌, map, take, texts, item_piece, mark_of}
use Rattle.bfd_replay.proofs.report.part.append_items.Given as goal

abbrev pub invariant-loop-out : goal.invariant-loop-out
invariant-loop-out l = record {
  texts_are : l.text.items ≡ l.fn.text.items ++ texts (map (item_piece l.number) (take l.out-index l.outs));
  marks_are : l.marks.items ≡ l.fn.marks.items ++ map mark_of (map (item_piece l.number) (take l.out-index l.outs));
}
