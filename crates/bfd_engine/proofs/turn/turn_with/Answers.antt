-- The room for the outputs, and what the entry shows.
use Rattle.bfd_engine.proofs.Common.{rules, sym, length, ◌<◌, ◌≡◌, ◌∙◌, ◌++◌, ◌∷◌, [], ap, arith, configs_of, configs_in, entry_of}
use Rattle.bfd_engine.proofs.Common.{limit_in}
use Rattle.bfd_engine.proofs.Timing.{had_turn, timely, turned_here}
use Rattle.bfd_engine.proofs.Rooms.{room_by}
use Rattle.bfd_engine.proofs.turn.turn_with.Goals as goal

pub apply-requires-clause-room : goal.apply-requires-clause-room
apply-requires-clause-room g c =
    let same : c.prepare.new.self.sessions ≡ c.in-Ok.turn.2.shard.value.sessions = cc in
    omega (arith, room_by c.args.event same c.in-Ok.ensures.1.base_is, c.requires.room)

pub returns-in-Ok-apply-clause-spare : goal.returns-in-Ok-apply-clause-spare
returns-in-Ok-apply-clause-spare g c =
    let same : c.prepare.new.self.sessions ≡ c.in-Ok.turn.2.shard.value.sessions = cc in
    omega (arith, room_by c.args.event same c.in-Ok.ensures.1.base_is, c.in-Ok-apply.ensures.spare)

pub returns-then-is_err-clause-fault : goal.returns-then-is_err-clause-fault
returns-then-is_err-clause-fault g c =
    let l = c.in-Ok.ensures.1 in
    let seen = ap (λ p. p.1.seen) c.done.ensures in
    let bound = ap (λ p. limit_in p.1.base) c.done.ensures ∙ (ap (λ w. limit_in w.base) l.same ∙ (ap limit_in (sym l.base_is)
    ∙ (ap (λ k. k.shard.value.limit) (sym c.value.ensures.value)
    ∙ (ap (λ s. s.limit) (sym c.deref_mut-shard.ensures.value) ∙ sym c.prepare.ensures.limit)))) in
    let below : length c.prepare.new.self.journal < c.prepare.new.self.limit = search rules in (
      record { between = l.adds.0; others = l.adds.2; seen = cc },
      omega (arith, ap length seen, bound, below),
      had_turn c.in-Ok.turn.1 _ l.same l.later l.odd l.room c.done.ensures,
    )

pub returns-in-Ok-apply-clause-turned : goal.returns-in-Ok-apply-clause-turned
returns-in-Ok-apply-clause-turned g c =
    let l = c.in-Ok.ensures.1 in
    let same : c.prepare.new.self.sessions ≡ c.in-Ok.turn.2.shard.value.sessions = cc in
    let more : c.apply.new.self.journal ≡ c.prepare.new.self.journal ++ entry_of c.args.pass.1.number c.args.event ∷ [] =
    cc (c.in-Ok-apply.ensures.journal) in
    turned_here c.args.pass.1 c.done-in-Ok-apply.result.1 c.args.event l.adds.0 c.args.outs.now.items
    c.in-Ok-apply.ensures.stood (ap configs_of same ∙ ap configs_in l.base_is) l.adds.2 (cc)
    (ap (λ p. p.1.seen) c.done-in-Ok-apply.ensures ∙ more) c.in-Ok-apply.ensures.items c.in-Ok-apply.ensures.answer
    (c.prepare.ensures.limit ∙ (ap (λ s. s.limit) c.deref_mut-shard.ensures.value
    ∙ (ap (λ k. k.shard.value.limit) c.value.ensures.value ∙ ap limit_in l.base_is)))
    c.in-Ok-apply.ensures.below (had_turn c.in-Ok.turn.1 _ l.same l.later l.odd l.room c.done-in-Ok-apply.ensures)

pub returns-in-Ok-apply-clause-timely : goal.returns-in-Ok-apply-clause-timely
returns-in-Ok-apply-clause-timely g c =
    let same : c.prepare.new.self.sessions ≡ c.in-Ok.turn.2.shard.value.sessions = cc in
    timely c.args.pass.1.number c.args.event
    c.in-Ok-apply.ensures.stood c.in-Ok-apply.ensures.kept (ap configs_of same ∙ ap configs_in c.in-Ok.ensures.1.base_is)
    c.in-Ok-apply.ensures.configs (cc (c.in-Ok-apply.ensures.journal)) (ap (λ p. p.1.seen) c.done-in-Ok-apply.ensures)
    c.in-Ok-apply.ensures.exact c.in-Ok-apply.ensures.over
