-- With the shards that are left, the text and the counts are the whole.
use Rattle.bfd_serve.proofs.ServedTextCommon.{◌≡◌, ◌≤◌, ◌+◌, ◌++◌, length, map, drop, sum_by, AllByRecursion, configs_of, shard_history}
use Rattle.bfd_serve.proofs.ServedTextCommon.{shard_sent, shards_text, AreFit}
use Rattle.bfd_serve.proofs.served_text.serving.served.Given as goal

abbrev pub invariant-loop-configs : goal.invariant-loop-configs
invariant-loop-configs g l = record {
  fit : AllByRecursion AreFit (map (λ part. part.items) l.configs-iterator.rest.items);
  made : map (λ part. part.items) l.configs-iterator.rest.items ≡ map (λ state. configs_of state.sessions) (drop l.shard l.states);
  text : l.text.items ++ shards_text l.shard (map shard_history (drop l.shard l.states)) ≡ shards_text 0 (map shard_history l.states);
  entries : l.entries + sum_by (λ history. length history.journal) (map shard_history (drop l.shard l.states))
      ≡ sum_by (λ history. length history.journal) (map shard_history l.states);
  txs : l.txs + sum_by shard_sent (map shard_history (drop l.shard l.states)) ≡ sum_by shard_sent (map shard_history l.states);
  few : l.txs + l.entries ≤ length l.text.items;
}
