-- What an event of a shard did, of its history.
use Rattle.bfd_engine.proofs.Common.{◌≡◌, ◌<◌, ◌+◌, ◌%◌, ◌^◌, ◌∙◌, ◌++◌, ◌∷◌, [], ℕ, List, length, ap, arith, TableId, having_done}
use Rattle.bfd_engine.proofs.Common.{limit_in, HadTurn, Out, Answer, SessionConfig, configs_of, Entry, ShardEvent, Own, Tick, events_of}
use Rattle.bfd_engine.proofs.Common.{last_tick, runs, outcome_of, Shard, IsExact, IsShard, IsOver, calls, by, OfShard, entry_of, configs_in}
use Rattle.bfd_engine.proofs.Common.{HasTurned, IsTimely}
use Rattle.bfd_engine.proofs.Places.{K}

-- a turn that was lent, and given back with these notes
pub had_turn : {p : OfShard} (w : OfShard) {notes : List Entry} {id : TableId} {q : K} (given : List Entry)
    → w ≡ record p { seen = notes; word = w.word; looks = w.looks } → p.word < w.word
    → w.word % 2 ≡ 1 → w.word + 1 < 2 ^ 64 → q ≡ (id, having_done given w) → HadTurn p q.1
had_turn w given same later odd room back = record {
  counted = ap (λ k. k.1.taken) back ∙ ap (λ v. v.taken + 1) same;
  later = omega (arith, ap (λ k. k.1.word) back, later);
  left = omega (arith, ap (λ k. k.1.word) back, odd, room);
}

pub timely : {old new : Shard} (caller : ℕ) (event : ShardEvent) {configs : List SessionConfig} {seen : List Entry} → IsShard old
    → IsShard new
    → configs_of old.sessions ≡ configs → configs_of new.sessions ≡ configs_of old.sessions
    → new.journal ≡ old.journal ++ entry_of caller event ∷ []
    → seen ≡ new.journal → IsExact old event new.sessions → IsOver new.last event new.sessions → IsTimely configs caller event seen
timely caller (Own place moment event) s s2 are same more is exact over = tt
timely {old} {new} caller (Tick t) {configs} {seen} s s2 are same more is exact over =
    let before : old.sessions ≡ runs (events_of old.journal) configs = cc in
    let after : new.sessions ≡ runs (events_of seen) configs =
    cc in
    let last : new.last ≡ last_tick (events_of seen) = cc in
    record {
      before = old.journal;
      last = cc;
      exact = cc;
      none_due = rw (← after) (rw (← last) over);
    }

-- the outputs and the answer of an event are those of its entry, after the entries before it
pub turned_here : {old : Shard} (p q : OfShard) (event : ShardEvent) (between : List Entry)
    (outs : List Out) {outs2 : List Out} {answer : Answer} → IsShard old
    → configs_of old.sessions ≡ configs_in p.base → calls by p.number between ≡ [] → old.journal ≡ p.seen ++ between
    → q.seen ≡ old.journal ++ entry_of p.number event ∷ [] → outs2 ≡ outs ++ (outcome_of old.last event old.sessions).items
    → answer ≡ (outcome_of old.last event old.sessions).answer → old.limit ≡ limit_in p.base → length old.journal < old.limit → HadTurn p q
    → HasTurned p event q outs outs2 answer
turned_here {old} p q event between outs s are others is seen reported answered limit below had = record {
  between = between;
  others = others;
  seen = cc;
  below = omega (arith, ap length is, limit, below);
  had = had;
  reported = cc;
  answered = cc;
}
