use Rattle.bfd_demux.proofs.Common.{arith, sym, ap, ◌∙◌, ◌<◌, ◌-◌, length, get_or, get_or_read, is_lt}
use Rattle.bfd_demux.proofs.Ascending.{one_longer}
use Rattle.bfd_demux.proofs.table.is_ascending.Goals as goal

pub returns-then-not-is_lt-clause-reported : goal.returns-then-not-is_lt-clause-reported
returns-then-not-is_lt-clause-reported g c up =
    let within : c.loop-place.place < length c.args.entries.now = omega arith in
    let x = c.index-entries-place.result in
    let y = c.index-entries-place-in-loop-place in
    let is =
    ap is_lt (c.cmp.ensures ∙ ap (λ e. g.K.Ord.cmp (get_or c.args.entries.now (c.loop-place.place - 1) x).0 e.0)
    (sym y.is ∙ get_or_read _ _ _ within y.is x) ∙ (up (c.loop-place.place - 1) c.loop-place.place x (omega arith) within)) in
    cc

pub loop-place-preserved : goal.loop-place-preserved
loop-place-preserved g c =
    let within : c.loop-place.place < length c.args.entries.now = omega arith in
    let earlier : c.loop-place.place - 1 < length c.args.entries.now = omega arith in
    one_longer g.met.K.Ord.total c.args.entries.now (omega arith) within (get_or_read _ _ _ earlier c.index-entries-place.is)
    (get_or_read _ _ _ within c.index-entries-place-in-loop-place.is) (cc)
    c.loop-place.invariant
