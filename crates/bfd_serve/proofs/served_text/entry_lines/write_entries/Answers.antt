-- One more entry, and at the end all.
use Rattle.bfd_serve.proofs.ServedTextCommon.{rules, take, drop, length-drop, arith, nil_from_length, configs_of}
use Rattle.bfd_serve.proofs.Entries.{IsNext, can_next, taken_more, text_next, sent_next, text_over, sent_over}
use Rattle.bfd_serve.proofs.served_text.entry_lines.write_entries.Goals as goal

pub write_entry-requires-clause-can : goal.write_entry-requires-clause-can
write_entry-requires-clause-can g c =
    let i = c.loop-entry.invariant in
    let one : IsNext (configs_of c.args.shard.now.sessions) c.args.journal.now c.loop-entry.entry-index
    (configs_of c.loop-entry.shard.sessions) c.loop-entry.shard.journal c.entry-item.result =
    record { inside = search rules; configs = i.configs; journal = i.journal; is = c.entry-item.is } in
    can_next _ _ _ _ _ _ one c.requires.can

pub loop-entry-preserved : goal.loop-entry-preserved
loop-entry-preserved g c =
    let i = c.loop-entry.invariant in
    let e = c.in_ok-sent.ensures in
    let one : IsNext (configs_of c.args.shard.now.sessions) c.args.journal.now c.loop-entry.entry-index
    (configs_of c.loop-entry.shard.sessions) c.loop-entry.shard.journal c.entry-item.result =
    record { inside = search rules; configs = i.configs; journal = i.journal; is = c.entry-item.is } in
    record {
      journal = taken_more _ _ _ _ _ _ one e.journal;
      limit = cc;
      configs = cc;
      room = cc;
      text = text_next _ _ _ _ _ _ one c.loop-entry.text.items i.text e.text;
      sent = sent_next _ _ _ _ _ _ one c.loop-entry.count i.sent e.sent;
      few = omega (arith, i.few, e.few);
    }

pub returns-clause-text : goal.returns-clause-text
returns-clause-text g c = text_over (configs_of c.args.shard.now.sessions) (take c.loop-entry.entry-index c.args.journal.now)
    c.loop-entry.text.items (nil_from_length (drop c.loop-entry.entry-index c.args.journal.now)
    (omega (arith, c.loop-entry-test.false, length-drop c.loop-entry.entry-index c.args.journal.now))) c.loop-entry.invariant.text

pub returns-clause-sent : goal.returns-clause-sent
returns-clause-sent g c = sent_over (configs_of c.args.shard.now.sessions) (take c.loop-entry.entry-index c.args.journal.now)
    c.loop-entry.count (nil_from_length (drop c.loop-entry.entry-index c.args.journal.now)
    (omega (arith, c.loop-entry-test.false, length-drop c.loop-entry.entry-index c.args.journal.now))) c.loop-entry.invariant.sent
