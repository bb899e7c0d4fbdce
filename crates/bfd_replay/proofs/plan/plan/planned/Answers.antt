-- One more run is put behind those before it.
use Rattle.bfd_replay.proofs.PlanCommon.{rules, arith, ap, ◌∙◌, reverse-reverse, length-map}
use Rattle.bfd_replay.proofs.Parting.{put_start, put_more, put_end, put_wide}
use Rattle.bfd_demux.specs.Rows.{build_fault}
use Rattle.bfd_instance.proofs.Stages.{no_fault}
use Rattle.bfd_replay.proofs.plan.plan.planned.Goals as goal

pub table_and_runs-requires-clause-sound : goal.table_and_runs-requires-clause-sound
table_and_runs-requires-clause-sound g c = λ _ _. ap build_fault c.requires.rows ∙ no_fault _ _ c.requires.table

pub plan_each-requires-clause-within : goal.plan_each-requires-clause-within
plan_each-requires-clause-within g c = λ _ _ k d inside. omega (arith, c.in_ok-demux.ensures.runs.within k d inside, c.requires.events)

pub runs-init : goal.runs-init
runs-init g c = record {
  put = put_start c.in_ok-queues.queues.items c.of-table.ensures c.in_ok-demux.ensures.runs
      (cc (reverse-reverse c.in_ok-left.left.items)) c.in_ok-left.ensures.long c.in_ok-left.ensures.each
      c.in_ok-queues.ensures.long c.in_ok-queues.ensures.each c.new-apart.ensures;
}

pub push_pieces-requires : goal.push_pieces-requires
push_pieces-requires g c = put_wide c.in-Some.ensures.first c.runs.invariant.put ∙ length-map c.in-Some.more.items (λ q. q.items)

pub runs-preserved : goal.runs-preserved
runs-preserved g c = record {
  put = put_more c.in-Some.ensures.first c.in_ok-queues-2.ensures c.in_ok-append.ensures.reported c.runs.invariant.put;
}

pub returns-clause-queues : goal.returns-clause-queues
returns-clause-queues g c = (put_end (search rules) c.runs.invariant.put).queues_are

pub returns-clause-apart : goal.returns-clause-apart
returns-clause-apart g c = (put_end (search rules) c.runs.invariant.put).apart_is

pub returns-clause-met : goal.returns-clause-met
returns-clause-met g c = (put_end (search rules) c.runs.invariant.put).met
