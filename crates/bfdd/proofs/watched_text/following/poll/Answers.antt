-- What a look leaves for the watch to take.
use Rattle.std.proofs.Common.{refl, ◌∙◌}
use Rattle.bfd_engine.specs.Calls.{seen_at}
use Rattle.bfdd.proofs.Polling.{entries_are, read_begins, full_left, all_taken}
use Rattle.bfdd.proofs.watched_text.following.poll.Goals as goal

pub returns-in-Err-Full-clause-untaken : goal.returns-in-Err-Full-clause-untaken
returns-in-Err-Full-clause-untaken g c = (
  refl,
  full_left c.in-Err-Full.field-0 c.in-Err-Full.count c.args.watch.now c.journal_from.new.out.items
      (seen_at c.journal_from.new.pass c.args.shard)
      c.in-Err-Full.field-0-is c.in-Err-Full.ensures.left
      (entries_are c.journal_from.new.out.items c.new-entries.result.items (seen_at c.journal_from.new.pass c.args.shard) c.taken.result
      c.args.watch.now c.in_ok-journal_from.ensures.out c.new-entries.ensures.items c.taken.ensures)
      (read_begins c.args.watch.now.entries c.requires.begins c.journal_from.ensures.read),
)

pub returns-in-Ok-renumbered-clause-taken : goal.returns-in-Ok-renumbered-clause-taken
returns-in-Ok-renumbered-clause-taken g c = c.in-Ok.ensures.taken
    ∙ all_taken c.args.watch.now c.journal_from.new.out.items (seen_at c.journal_from.new.pass c.args.shard)
    (entries_are c.journal_from.new.out.items c.new-entries.result.items (seen_at c.journal_from.new.pass c.args.shard) c.taken.result
    c.args.watch.now c.in_ok-journal_from.ensures.out c.new-entries.ensures.items c.taken.ensures)
    (read_begins c.args.watch.now.entries c.requires.begins c.journal_from.ensures.read)
