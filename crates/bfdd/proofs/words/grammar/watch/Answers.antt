use Rattle.std.proofs.Common.{string_bytes, rules}
use Rattle.bfdd.proofs.Leading.{watch_of-parts}
use Rattle.bfdd.proofs.words.grammar.watch.Goals as goal

pub returns-clause-value : goal.returns-clause-value
returns-clause-value c = watch_of-parts (λ word. string_bytes word) c.args.words.now c.in-len1-up.len_at_least c.need-item.is
    c.deref.ensures
    (search rules) c.in_ok-members.ensures.members c.watch_by.ensures.value
