use Rattle.std.proofs.Common.{◌≡◌, ◌<◌, ◌≤◌, ◌++◌, All, drop, length, map, string_bytes}
use Rattle.bfdd.specs.Grammar.{leading}
use Rattle.bfdd.proofs.words.grammar.leading.Given as goal

-- the members so far, and those that the words which are left begin with
abbrev pub invariant-loop-word : goal.invariant-loop-word
invariant-loop-word l = record {
  members : leading (map (λ word. string_bytes word) l.words) ≡ l.members.items
      ++ leading (map (λ word. string_bytes word) (drop l.word-index l.words));
  few : length l.members.items ≤ 64;
  count : length l.members.items ≡ l.word-index;
  positive : All (λ member. 0 < member) l.members.items;
}
