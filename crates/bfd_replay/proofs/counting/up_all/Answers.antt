-- One more shard is counted.
use Rattle.bfd_replay.proofs.WorkerCommon.{rules, ◌≡◌, ◌<◌, ◌∙◌, ap, arith, length, slice_index_or, sum_by, one_up}
use Rattle.bfd_replay.proofs.Summing.{any, kept_more, sum_step}
use Rattle.bfd_replay.proofs.counting.up_all.Goals as goal

pub loop-k-preserved : goal.loop-k-preserved
loop-k-preserved g c =
    let i = c.loop-k.invariant in
    let inside : c.loop-k.k < length c.args.states.now.items = search rules in
    record {
      count = λ d.
          let e = ap (λ s. sum_by one_up s.sessions) (c.index.ensures ∙ any c.args.states.now.items _ c.index.result.now d inside) in
          let f = sum_step (λ k. sum_by one_up (slice_index_or c.args.states.now.items k d).sessions) c.loop-k.k in
          omega (arith, i.count d, c.up_of-count.ensures.value, e, f);
      few = omega (arith, i.few, c.up_of-count.ensures.few);
      kept = kept_more c.args.states.now.items c.loop-k.k c.index.result.now inside c.index.ensures c.up_of-count.ensures.kept i.kept;
    }

pub returns-clause-value : goal.returns-clause-value
returns-clause-value g c = λ d.
    let e : c.loop-k.k ≡ length c.args.states.now.items = search rules in
    cc (c.loop-k.invariant.count d)
