-- One more text is the last.
use Rattle.bfd_replay.proofs.ReportCommon.{[], ◌∷◌, append-nil, flat_map-append}
use Rattle.bfd_replay.proofs.report.threads.put_behind.Goals as goal

pub returns-clause-texts : goal.returns-clause-texts
returns-clause-texts c = cc (
  c.in_ok-push.ensures.items,
  flat_map-append (λ t. t.items) c.args.texts.now.items (c.args.more.text ∷ []),
  append-nil c.args.more.text.items,
)
