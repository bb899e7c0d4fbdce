-- The changes of one more entry.
use Rattle.std.proofs.Common.{rules}
use Rattle.bfd_watch.proofs.ChangeLines.{whole_more}
use Rattle.bfd_watch.proofs.watch.Watch.take.Goals as goal

pub returns-clause-reported : goal.returns-clause-reported
returns-clause-reported g c = search rules

pub returns-clause-whole : goal.returns-clause-whole
returns-clause-whole g c = whole_more c.args.self.now.entries c.follow.new.shard.journal c.args.entry (search rules) (search rules)
    (returns-clause-reported g c)
