-- Each entry, and each packet that it sent, has text of its own.
use Rattle.bfd_serve.proofs.ServedTextCommon.{◌≤◌, ◌+◌, ℕ, List, length, arith, length-append, flat_map, SessionConfig, Entry, packets_sent}
use Rattle.bfd_serve.proofs.ServedTextCommon.{item_line, answer_line, event_lines, discr_in, entry_text, reply_at, turn_line, Outcome}
use Rattle.bfd_script.proofs.Sizes.{sent_short}

lines_some : (n : ℕ) (o : Outcome) → packets_sent o ≤ length (event_lines n o)
lines_some n o = omega (arith, sent_short n o.items, length-append (flat_map (item_line n) o.items) (answer_line n o.answer))

turn_some : (n discr : ℕ) (entry : Entry) → 1 ≤ length (turn_line n discr entry)
turn_some n discr entry = omega arith

pub entry_some : (cs : List SessionConfig) (before : List Entry) (entry : Entry)
    → packets_sent (reply_at cs before entry) + 1 ≤ length (entry_text cs before entry)
entry_some cs before entry =
    let n : ℕ = length before + 1 in
    omega (
      arith,
      turn_some n (discr_in cs entry.event) entry,
      lines_some n (reply_at cs before entry),
      length-append (turn_line n (discr_in cs entry.event) entry) (event_lines n (reply_at cs before entry)),
    )
