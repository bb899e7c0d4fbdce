use Rattle.bfd_demux.proofs.Common.{◌≡◌, ◌+◌, ◌-◌, ◌/◌, ◌<◌, arith, length, get_or_read}
use Rattle.bfd_demux.proofs.Ascending.{lower_up_to, higher_from, place_found, place_missing, halves, few_steps}
use Rattle.bfd_demux.proofs.table.search.Goals as goal

pub loop-low-preserved-in-Less : goal.loop-low-preserved-in-Less
loop-low-preserved-in-Less g c =
    let within : (c.loop-low.low + (c.loop-low.high - c.loop-low.low) / 2) < length c.args.entries.now = omega arith in
    let t = c.loop-low.steps - c.args.steps.now in
    let few = few_steps t c.loop-low.invariant.6 (omega arith) (omega (arith, c.requires.few)) in
    let one_more : c.tick.new.self - c.args.steps.now ≡ t + 1 = omega (arith, c.tick.ensures) in (
      omega arith,
      omega arith,
      lower_up_to g.met.K.Ord.total c.args.entries.now c.requires.ascending within (get_or_read _ _ _ within c.index-entries-middle.is)
          (cc (c.in-Less.is)),
      c.loop-low.invariant.3,
      omega arith,
      omega arith,
      rw one_more (halves t _ c.loop-low.invariant.6 (omega arith)),
    )

pub returns-in-Equal-clause-found : goal.returns-in-Equal-clause-found
returns-in-Equal-clause-found g c =
    let within : (c.loop-low.low + (c.loop-low.high - c.loop-low.low) / 2) < length c.args.entries.now = omega arith in
    place_found g.met.K.Ord.total c.args.entries.now c.requires.ascending within (get_or_read _ _ _ within c.index-entries-middle.is)
    (cc (c.in-Equal.is))

pub returns-in-Equal-clause-cost : goal.returns-in-Equal-clause-cost
returns-in-Equal-clause-cost g c =
    omega (
      arith,
      c.tick.ensures,
      few_steps (c.loop-low.steps - c.args.steps.now) c.loop-low.invariant.6 (omega arith)
          (omega (arith, c.requires.few)),
    )

pub loop-low-preserved : goal.loop-low-preserved
loop-low-preserved g c =
    let within : (c.loop-low.low + (c.loop-low.high - c.loop-low.low) / 2) < length c.args.entries.now = omega arith in
    let t = c.loop-low.steps - c.args.steps.now in
    let few = few_steps t c.loop-low.invariant.6 (omega arith) (omega (arith, c.requires.few)) in
    let one_more : c.tick.new.self - c.args.steps.now ≡ t + 1 = omega (arith, c.tick.ensures) in (
      omega arith,
      omega arith,
      c.loop-low.invariant.2,
      higher_from g.met.K.Ord.total c.args.entries.now c.requires.ascending within (get_or_read _ _ _ within c.index-entries-middle.is)
          (cc (c.in-Greater.is)),
      omega arith,
      omega arith,
      rw one_more (halves t _ c.loop-low.invariant.6 (omega arith)),
    )

pub returns-clause-none : goal.returns-clause-none
returns-clause-none g c = place_missing g.met.K.Ord.total c.args.entries.now c.loop-low.invariant.2
    (λ k d le lt. c.loop-low.invariant.3 k d (omega arith) lt)
