-- One more part.
use Rattle.bfd_replay.proofs.WorkerCommon.{◌≡◌, ◌∙◌, ◌∷◌, [], rules, length, map, arith, ap, length-append, length-map}
use Rattle.bfd_replay.proofs.Ordering.{order_none, order_more, order_end, order_last}
use Rattle.bfd_replay.proofs.worker.finish.in_order.Goals as goal

pub loop-shard-init : goal.loop-shard-init
loop-shard-init c = record {
  order = order_none c.args.shards (length c.args.all.items) (map (λ parts. parts.items) c.args.all.items)
      c.new-parts.ensures.items;
}

pub loop-shard-preserved : goal.loop-shard-preserved
loop-shard-preserved c =
    let many : c.len-workers.result ≡ length c.args.all.items = search rules in
    record {
      order = order_more (map (λ parts. parts.items) c.take_part.new.all.items) c.loop-shard.invariant.order
          (rw (← many) c.take_part.ensures.part)
          (let a = length-map c.take_part.new.all.items (λ parts. parts.items) in let b =
          length-map c.loop-shard.all.items (λ parts. parts.items) in omega (arith, a, b, c.take_part.ensures.long))
          c.take_part.ensures.wide c.take_part.ensures.others c.in_ok-push.ensures.items;
    }

pub returns : goal.returns
returns c =
    let o = c.loop-shard.invariant.order in
    let end : c.loop-shard.shard ≡ c.args.shards = omega arith in
    let pushed = c.in_ok-push-2.ensures.items in
    record {
      long = omega (arith, ap length pushed, length-append c.loop-shard.parts.items (c.args.apart ∷ []), o.long, end);
      each = λ s h. order_end c.loop-shard.parts.items c.args.apart s pushed (omega (arith, o.long, end, h))
          ∙ o.each s (omega (arith, end, h));
      last = order_last c.loop-shard.parts.items c.args.apart pushed (cc);
    }
