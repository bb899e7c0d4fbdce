-- Each packet that a piece counts has text of its own.
use Rattle.bfd_replay.proofs.ReportCommon.{◌≤◌, ◌+◌, ℕ, length, arith, length-append, flat_map, Outcome, dropped_by, packets_sent, dropped}
use Rattle.bfd_replay.proofs.ReportCommon.{item_line, answer_line, event_lines, Dropped, some_after, sent_short}
use Rattle.std.specs.Fmt.{decimal}
use Rattle.bfd_session.specs.declared.event.Answer.{Answer}

answer_some : (n : ℕ) (a : Answer) → dropped_by a ≤ length (answer_line n a)
answer_some n (Dropped test) = some_after (decimal n) _ 32
answer_some n a = omega arith

pub event_some : (n : ℕ) (o : Outcome) → packets_sent o + dropped o ≤ length (event_lines n o)
event_some n o = omega (
  arith,
  sent_short n o.items,
  answer_some n o.answer,
  length-append (flat_map (item_line n) o.items) (answer_line n o.answer),
)
