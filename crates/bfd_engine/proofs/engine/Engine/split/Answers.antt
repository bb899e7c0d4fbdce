-- Shard by shard a pass is cut; what was made is one of every shard.
use Rattle.bfd_engine.proofs.Common.{◌≡◌, length, refl, ap, arith, IsOf}
use Rattle.bfd_engine.proofs.Cutting.{new_of, new_there, cut_more, new_left, all_parted}
use Rattle.bfd_engine.proofs.engine.Engine.split.Goals as goal

pub split_at-requires-clause-new : goal.split_at-requires-clause-new
split_at-requires-clause-new g c =
    new_left c.next_number-number.result c.loop-at.at c.args.first.now.1 c.next_number-number.new.self.1 c.loop-at.first.1
    c.loop-at.passes.items
    (cc) c.next_number-number.ensures.new c.loop-at.invariant.cuts

pub loop-at-preserved : goal.loop-at-preserved
loop-at-preserved g c =
    let i = c.loop-at.invariant in record {
      of = c.split_at.ensures.of;
      there = c.split_at.ensures.there;
      number = c.split_at.ensures.number;
      used = cc;
      positive = i.positive;
      is = cc;
      room = omega (arith, i.room, c.push_reserved.ensures.capacity);
      cuts = cut_more c.next_number-number.result c.loop-at.at c.next_number-number.new.self.1 c.loop-at.first.1 c.split_at.new.first.1
          c.loop-at.passes.items
          c.push_reserved.new.self.items c.split_at.result i.cuts c.split_at.ensures.cut c.push_reserved.ensures.items;
    }

pub returns-clause-parted : goal.returns-clause-parted
returns-clause-parted g c =
    let all : length c.args.self.now.locks ≡ c.loop-at.at =
    (let v = ap (λ e. length e.locks) c.self.view_is in omega (arith, c.len-at-end.ensures, c.loop-at-test.false, c.loop-at.auto.at-end)) in
    all_parted c.args.first.now c.loop-at.first (c.next_number-number.result, c.loop-at.passes.items, 0) c.loop-at.at _
    c.next_number-number.new.self.1
    (cc) c.loop-at.invariant.cuts all

pub returns-clause-other : goal.returns-clause-other
returns-clause-other g c =
    let i = c.loop-at.invariant in
    let of : IsOf c.args.self.now c.next_number-number.new.self.1 = rw c.next_number-number.ensures.used c.requires.of in
    let all : length c.args.self.now.locks ≡ c.loop-at.at = (let v = ap (λ e. length e.locks) c.self.view_is in
    omega (arith, c.len-at-end.ensures, c.loop-at-test.false, c.loop-at.auto.at-end)) in (
      c.next_number-number.ensures.number,
      new_of c.args.self.now c.next_number-number.result c.loop-at.at c.next_number-number.new.self.1 c.loop-at.first.1
          c.loop-at.passes.items i.cuts of all,
      new_there c.args.self.now c.next_number-number.result c.loop-at.at c.next_number-number.new.self.1 c.loop-at.first.1
          c.loop-at.passes.items i.cuts of all,
      refl,
    )
