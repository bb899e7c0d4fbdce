-- The shard is rebuilt from the configurations that the other was made with.
use Rattle.bfd_serve.proofs.ServedTextCommon.{rules, ◌∙◌, ap, configs_of}
use Rattle.bfd_session.proofs.Starting.{started_configs}
use Rattle.bfd_serve.proofs.Starting.{history_same, shard_observed}
use Rattle.bfd_serve.proofs.served_text.serving.write_shard.Goals as goal

pub write_entries-requires-clause-can : goal.write_entries-requires-clause-can
write_entries-requires-clause-can g c =
    history_same (cc (c.in_ok-shard.ensures.sessions, started_configs c.args.configs.items)) c.journal-journal.ensures
    c.sessions.ensures.kept.history

pub returns-clause-text : goal.returns-clause-text
returns-clause-text g c = shard_observed c.args.number
    c.args.text.now.items (cc (c.in_ok-shard.ensures.sessions, started_configs c.args.configs.items)) c.journal-journal.ensures
    (search rules) c.in_ok-sent.ensures.text

pub returns-clause-sent : goal.returns-clause-sent
returns-clause-sent g c =
    cc (
      c.in_ok-sent.ensures.sent,
      (ap configs_of c.in_ok-shard.ensures.sessions
          ∙ (started_configs c.args.configs.items ∙ c.requires.made)),
    )
