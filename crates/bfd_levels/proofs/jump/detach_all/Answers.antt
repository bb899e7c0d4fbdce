use Rattle.bfd_levels.proofs.Common.{◌≢◌, length, get_or, refl, slice_index, arith, never, ids_first, ids_rest, same_or_gone_on, at_tick}
use Rattle.bfd_levels.proofs.Placing.{linked}
use Rattle.bfd_levels.proofs.Jumps.{paid_gone}
use Rattle.bfd_levels.proofs.jump.detach_all.Goals as goal

pub detach-requires : goal.detach-requires
detach-requires g c =
    let first = ids_first _ _ (get_or c.args.ids.now c.loop-id.id-index 0) c.args.ids.now c.loop-id.dues c.requires.t c.loop-id-test.true
    refl c.loop-id.invariant.ids in
    let there : slice_index c.loop-id.dues (get_or c.args.ids.now c.loop-id.id-index 0) ≢ never = λ e. absurd (omega arith) in
    record {
      linked = linked (length c.args.dues.now) 1026 (get_or c.args.ids.now c.loop-id.id-index 0) (at_tick (length c.args.dues.now)
          c.args.now c.loop-id.dues) c.loop-id.dues c.loop-id.nodes c.loop-id.invariant.paid.placed (omega arith) there;
    }

pub loop-id-preserved : goal.loop-id-preserved
loop-id-preserved g c =
    let first = ids_first _ _ (get_or c.args.ids.now c.loop-id.id-index 0) c.args.ids.now c.loop-id.dues c.requires.t c.loop-id-test.true
    refl c.loop-id.invariant.ids in
    let there : slice_index c.loop-id.dues (get_or c.args.ids.now c.loop-id.id-index 0) ≢ never = λ e. absurd (omega arith) in
    record {
      paid = paid_gone c.args.now c.detach.new.nodes c.loop-id.invariant.paid
          (omega arith) there c.detach.auto.nodes c.detach.ensures.dues c.detach.ensures.links c.tick.ensures;
      ids = ids_rest _ _ _ c.args.ids.now c.loop-id.dues _ c.requires.t c.loop-id-test.true refl c.loop-id.invariant.ids
          c.detach.ensures.dues;
      same_or_gone = same_or_gone_on _ _ c.args.dues.now c.loop-id.dues _ first.0 first.1 c.requires.t c.detach.ensures.dues
          c.loop-id.invariant.same_or_gone;
      counts = omega arith;
    }
