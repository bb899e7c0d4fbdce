-- The turn, and then what the entry gave.
use Rattle.bfd_serve.proofs.ServedTextCommon.{rules, configs_of}
use Rattle.bfd_serve.proofs.Entries.{entry_observed, entry_long}
use Rattle.bfd_serve.proofs.served_text.entry_lines.write_entry.Goals as goal

pub returns-clause-text : goal.returns-clause-text
returns-clause-text g c = entry_observed (configs_of c.args.shard.now.sessions) c.args.shard.now.journal c.args.entry.now
    c.args.text.now.items
    (search rules) (search rules) (search rules) (search rules) c.in_ok-write_turn.ensures c.in_ok-lines.ensures.all

pub returns-clause-sent : goal.returns-clause-sent
returns-clause-sent g c = search rules

pub returns-clause-few : goal.returns-clause-few
returns-clause-few g c = entry_long (configs_of c.args.shard.now.sessions) c.args.shard.now.journal c.args.entry.now c.args.text.now.items
    (returns-clause-text g c) (returns-clause-sent g c)
