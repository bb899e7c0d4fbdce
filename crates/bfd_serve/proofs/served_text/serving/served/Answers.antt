-- One more shard, and at the end all.
use Rattle.bfd_serve.proofs.ServedTextCommon.{rules, ◌≡◌, ◌∙◌, ◌∷◌, length, map, sym, ap, arith, nil_from_length, shard_sent}
use Rattle.bfd_serve.proofs.Shards.{next_made, next_fit, none_made, some_left, other_parts, text_next, sum_next, whole}
use Rattle.bfd_serve.proofs.served_text.serving.served.Goals as goal

pub loop-configs-preserved : goal.loop-configs-preserved
loop-configs-preserved g c =
    let i = c.loop-configs.invariant in
    let at = c.loop-configs.shard in
    let ss = c.args.states.now in
    let d = c.index-states-shard.result in
    let split : c.loop-configs.configs-iterator.rest.items ≡ c.in-Some.configs ∷ c.next.new.self.rest.items = search rules in
    let made = next_made (λ part. part.items) split i.made in
    let inside = some_left ss at c.in-Some.configs.items (map (λ part. part.items) c.next.new.self.rest.items) made in
    record {
      fit = next_fit (λ part. part.items) split i.fit;
      made = other_parts ss at c.in-Some.configs.items (map (λ part. part.items) c.next.new.self.rest.items) made d;
      text = text_next ss at d inside c.index-states-shard.is c.loop-configs.text.items c.write_shard.new.text.items _ i.text
          c.in_ok-sent.ensures.text;
      entries = sum_next ss at d inside c.index-states-shard.is (λ history. length history.journal) c.loop-configs.entries
          (length c.journal.result.now) _ i.entries (ap length c.journal.ensures);
      txs = sum_next ss at d inside c.index-states-shard.is shard_sent c.loop-configs.txs c.in_ok-sent.sent _ i.txs
          c.in_ok-sent.ensures.sent;
      few = omega (arith, i.few, c.in_ok-sent.ensures.few, ap length c.journal.ensures);
    }

pub returns : goal.returns
returns g c =
    let i = c.loop-configs.invariant in
    let none = none_made (λ part. part.items) (nil_from_length c.loop-configs.configs-iterator.rest.items
    (sym c.loop-configs.configs-iterator.rest.ok.0 ∙ c.in-None.ensures.steps.0)) i.made in
    whole c.args.states.now c.loop-configs.shard c.loop-configs.text.items c.extend_from_slice.new.self.items c.loop-configs.entries
    c.loop-configs.txs c.args.lost none i.text i.entries i.txs (search rules)
