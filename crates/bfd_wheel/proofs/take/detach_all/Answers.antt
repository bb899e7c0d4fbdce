use Rattle.bfd_wheel.proofs.Common.{◌≢◌, length, get_or, refl, slice_index, arith, never}
use Rattle.bfd_wheel.proofs.TakenIds.{ids_first, ids_rest, same_or_gone_on}
use Rattle.bfd_wheel.proofs.Wheels.{linked}
use Rattle.bfd_wheel.proofs.take.detach_all.Goals as goal

pub detach-requires : goal.detach-requires
detach-requires c =
    let first = ids_first _ _ (get_or c.args.ids.now c.loop-id.id-index 0) c.args.ids.now c.loop-id.dues c.requires.t c.loop-id-test.true
    refl c.loop-id.invariant.ids in
    let there : slice_index c.loop-id.dues (get_or c.args.ids.now c.loop-id.id-index 0) ≢ never = λ e. absurd (omega arith) in
    record { linked = linked c.loop-id.invariant.wheel (omega arith) there }

pub loop-id-preserved : goal.loop-id-preserved
loop-id-preserved c =
    let first = ids_first _ _ (get_or c.args.ids.now c.loop-id.id-index 0) c.args.ids.now c.loop-id.dues c.requires.t c.loop-id-test.true
    refl c.loop-id.invariant.ids in
    record {
      wheel = c.detach.ensures.wheel (length c.args.dues.now) c.args.now c.loop-id.invariant.wheel;
      ids = ids_rest _ _ _ c.args.ids.now c.loop-id.dues _ c.requires.t c.loop-id-test.true refl c.loop-id.invariant.ids
          c.detach.ensures.dues;
      same_or_gone = same_or_gone_on _ _ c.args.dues.now c.loop-id.dues _ first.0 first.1 c.requires.t c.detach.ensures.dues
          c.loop-id.invariant.same_or_gone;
    }
