-- A rebuilt shard.
use Rattle.bfd_serve.proofs.ServedTextCommon.{◌≡◌, ℕ, List, [], ◌++◌, append_assoc, SessionConfig, Entry, IsHistory, entries_text}
use Rattle.bfd_serve.proofs.ServedTextCommon.{shard_line, events_of}

-- a history of shards with these configurations
pub history_same : {cs own : List SessionConfig} {js ks : List Entry} → own ≡ cs → ks ≡ js → IsHistory cs (events_of js)
    → IsHistory own (events_of ks)
history_same configs journal h = rw journal (rw configs h)

-- the text of a shard is its number and its entries
pub shard_observed : {cs own : List SessionConfig} {js ks : List Entry} (number : ℕ) (now : List ℕ) {headed new : List ℕ} → own ≡ cs
    → ks ≡ js
    → headed ≡ now ++ shard_line number → new ≡ headed ++ entries_text own [] ks → new ≡ now ++ (shard_line number ++ entries_text cs [] js)
shard_observed {own} {ks} number now configs journal head observed = cc (append_assoc now (shard_line number) (entries_text own [] ks))
