-- Lock by lock, the pass of the next shard closes it.
use Rattle.bfd_engine.proofs.Common.{◌≡◌, ◌++◌, ◌∷◌, [], ℕ, None, slice_set, length, append_assoc, refl, sym, ap, rules, ◌∙◌}
use Rattle.bfd_engine.proofs.Closing.{grown, none_left, left_whole, none_ended, next_pass, lifted, joined_here, left_more, ended_more}
use Rattle.bfd_engine.proofs.engine.Engine.close.Goals as goal

pub loop-lock-init : goal.loop-lock-init
loop-lock-init g c = record {
  can = tt;
  ends = tt;
  all = search rules;
  long = ap length c.requires.none;
  room = c.requires.room;
  number = refl;
  left = left_whole (length c.args.shards.items) c.args.pass.1;
  ended = none_ended c.args.self c.args.pass c.requires.none;
}

pub lift-own-requires : goal.lift-own-requires
lift-own-requires g c =
    let i = c.loop-lock.invariant in
    let n = next_pass c.args.self c.loop-lock.yielded c.next.new.self.rest.items c.in-Some.lock c.args.pass.1 c.loop-lock.pass.1
    (length c.loop-lock.shards.items)
    (cc (c.in-Some.ensures.steps.0)) i.long c.requires.of c.requires.there i.left in
    (n.pass, cc (c.len.ensures, c.loop-lock.shards.ok.0))

pub close-shard-requires-clause-pass : goal.close-shard-requires-clause-pass
close-shard-requires-clause-pass g c =
    let i = c.loop-lock.invariant in
    let n = next_pass c.args.self c.loop-lock.yielded c.next.new.self.rest.items c.in-Some.lock c.args.pass.1 c.loop-lock.pass.1
    (length c.loop-lock.shards.items)
    (cc (c.in-Some.ensures.steps.0)) i.long c.requires.of c.requires.there i.left in (
      (lifted c.args.self c.args.pass.1 c.loop-lock.pass.1 c.in-Some.lock (length c.loop-lock.shards.items) c.lift-own.result n
          (cc (c.len.ensures, c.loop-lock.shards.ok.0))).2,
      cc,
    )

pub close-shard-requires-clause-joined : goal.close-shard-requires-clause-joined
close-shard-requires-clause-joined g c =
    let i = c.loop-lock.invariant in
    let n = next_pass c.args.self c.loop-lock.yielded c.next.new.self.rest.items c.in-Some.lock c.args.pass.1 c.loop-lock.pass.1
    (length c.loop-lock.shards.items)
    (cc (c.in-Some.ensures.steps.0)) i.long c.requires.of c.requires.there i.left in
    joined_here c.args.self c.args.pass (length c.loop-lock.shards.items) c.lift-own.result
    (lifted c.args.self c.args.pass.1 c.loop-lock.pass.1 c.in-Some.lock (length c.loop-lock.shards.items) c.lift-own.result n
    (cc (c.len.ensures, c.loop-lock.shards.ok.0))).1 n.within_is c.requires.joined

pub loop-lock-preserved : goal.loop-lock-preserved
loop-lock-preserved g c =
    let i = c.loop-lock.invariant in
    let len : c.len.result ≡ length c.loop-lock.shards.items = cc in
    let n = next_pass c.args.self c.loop-lock.yielded c.next.new.self.rest.items c.in-Some.lock c.args.pass.1 c.loop-lock.pass.1
    (length c.loop-lock.shards.items)
    (cc (c.in-Some.ensures.steps.0)) i.long c.requires.of c.requires.there i.left in
    let own = lifted c.args.self c.args.pass.1 c.loop-lock.pass.1 c.in-Some.lock (length c.loop-lock.shards.items) c.lift-own.result n (cc)
    in
    let more = c.push_reserved.ensures.items ∙ ap (λ s. c.loop-lock.shards.items ++ s ∷ []) c.into_inner.ensures in record {
      can = tt;
      ends = tt;
      all = cc (append_assoc c.loop-lock.yielded (c.in-Some.lock ∷ []) c.next.new.self.rest.items, c.in-Some.ensures.steps.0);
      long = cc (grown c.loop-lock.yielded (c.loop-lock.yielded ++ c.in-Some.lock ∷ []) c.in-Some.lock refl);
      room = rw c.push_reserved.ensures.capacity i.room;
      number = ap (λ k. k.0) c.lift-own.ensures.rest ∙ i.number;
      left = rw (ap (λ k. k.1) c.lift-own.ensures.rest ∙ ap (λ (m : ℕ). slice_set c.loop-lock.pass.1 m None) len)
          (left_more (length c.loop-lock.shards.items) (length c.push_reserved.new.self.items) c.args.pass.1 c.loop-lock.pass.1 None
          (grown c.loop-lock.shards.items _ c.close-shard.result.shard.value more) i.left);
      ended = ended_more c.args.self c.args.pass (length c.loop-lock.shards.items) c.lift-own.result c.loop-lock.shards.items
          c.push_reserved.new.self.items c.close-shard.result.shard.value
          own.1 own.3
          (record {
            notes = c.close-shard.ensures.notes;
            base = c.close-shard.ensures.base;
            word = c.close-shard.ensures.word;
            kept = c.close-shard.ensures.kept;
            unmade = c.close-shard.ensures.unmade;
          })
          refl more i.ended;
    }

pub returns : goal.returns
returns g c =
    let i = c.loop-lock.invariant in record {
      closed = record {
        long = i.long ∙ none_left c.loop-lock.yielded c.loop-lock.lock-iterator.rest.items i.all
            (sym c.loop-lock.lock-iterator.rest.ok.0 ∙ c.in-None.ensures.steps.0);
        each = i.ended.each;
      };
    }
