use Rattle.bfd_demux.proofs.Common.{arith, sym, ◌∙◌, get, same_addresses}
use Rattle.bfd_demux.specs.contracts.row.RowKindOrd.TheImpl as kinds
use Rattle.bfd_demux.proofs.AlikeRows.{repeated_here, repeated_later, kinds_more, kinds_same, unaddressed, position_from-none}
use Rattle.bfd_demux.proofs.repeats.search_addresses.Goals as goal
use Rattle.bfd_demux.proofs.repeats.search_addresses.Goals.{then-has_addresses+in_default+in_ok-insert, else-has_addresses}

pub returns-in-Some : goal.returns-in-Some
returns-in-Some c = cc (repeated_here same_addresses c.args.rows.now (omega arith) c.index-rows-place.is
    (c.in-Some.ensures.value ∙ c.loop-place.invariant.1 _ (cc)))

pub loop-place-preserved : goal.loop-place-preserved
loop-place-preserved c =
    elim c.if-has_addresses.branch [
      | then-has_addresses+in_default+in_ok-insert w ↦
          let with_addresses = sym c.has_addresses.ensures ∙ w.if-has_addresses.true in (
            repeated_later same_addresses c.args.rows.now (omega arith) c.index-rows-place.is
                (w.in_default.ensures.value ∙ c.loop-place.invariant.1 _ with_addresses)
                ∙ c.loop-place.invariant.0,
            kinds_more c.args.rows.now (get kinds.ghosts.cmp c.if-has_addresses.first) (omega arith) c.index-rows-place.is
                with_addresses c.loop-place.invariant.1 (λ q. cc (w.in_ok-insert.ensures.updates.0 q)) w.in_default.ensures.value,
          )
      | else-has_addresses w ↦
          let without = sym c.has_addresses.ensures ∙ w.if-has_addresses.false in (
            repeated_later same_addresses c.args.rows.now (omega arith) c.index-rows-place.is
                (sym (position_from-none (λ other. unaddressed _ other.kind without) 0 _))
                ∙ c.loop-place.invariant.0,
            λ q h. cc (kinds_same c.args.rows.now (omega arith) c.index-rows-place.is without c.loop-place.invariant.1 q h),
          )
    ]
