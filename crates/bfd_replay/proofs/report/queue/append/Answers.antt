-- One queue has grown.
use Rattle.bfd_shard.proofs.Lists.{put_own, put_other}
use Rattle.bfd_replay.proofs.report.queue.append.Goals as goal

pub returns-clause-own : goal.returns-clause-own
returns-clause-own c = put_own (λ q. q.items) c.args.queues.now.items _ _ _ c.args.event c.requires.inside c.index_mut.ensures.value
    c.in_ok-push.ensures.items

pub returns-clause-others : goal.returns-clause-others
returns-clause-others c = λ r other. put_other (λ q. q.items) c.args.queues.now.items _ r c.push.new.self other
