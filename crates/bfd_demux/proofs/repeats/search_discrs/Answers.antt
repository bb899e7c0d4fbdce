use Rattle.bfd_demux.proofs.Common.{arith, ◌∙◌, same_discr}
use Rattle.bfd_demux.proofs.AlikeRows.{repeated_here, repeated_later, discrs_more}
use Rattle.bfd_demux.proofs.repeats.search_discrs.Goals as goal

pub returns-in-Some : goal.returns-in-Some
returns-in-Some c = cc (repeated_here same_discr c.args.rows.now (omega arith) c.index-rows-place.is
    (c.in-Some.ensures.value ∙ c.loop-place.invariant.1 _))

pub loop-place-preserved : goal.loop-place-preserved
loop-place-preserved c = (
  repeated_later same_discr c.args.rows.now (omega arith) c.index-rows-place.is (c.in_default.ensures.value ∙ c.loop-place.invariant.1 _)
      ∙ c.loop-place.invariant.0,
  discrs_more c.args.rows.now (omega arith) c.index-rows-place.is c.loop-place.invariant.1 c.in_ok-insert.ensures.updates.0
      c.in_default.ensures.value,
)
