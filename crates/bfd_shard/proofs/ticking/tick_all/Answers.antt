-- The ids that the timers give are the places of the sessions that are due, and ticking these is ticking all.
use Rattle.bfd_shard.proofs.Common.{◌≡◌, ℕ, ◌<◌, ◌≤◌, ◌++◌, refl, sym, ◌∙◌, ap, [], length, get_or, map, arith, List, Option, length-set}
use Rattle.bfd_shard.proofs.Common.{length-map, flat_map, has_come, HeldIds, places, come, without, ticked, tick_items, due, Running}
use Rattle.bfd_shard.proofs.Ticks.{nobody, Tour, tour, visits_more, visits_done, quiet_first, quiet_more, quiet_all, in_range, no_more}
use Rattle.bfd_shard.proofs.Ticks.{all_sound}
use Rattle.bfd_shard.proofs.ticking.tick_all.Goals as goal
use Rattle.bfd_shard.proofs.ticking.tick_all.Given.{Over}

ids_are : (t : ℕ) (ss : List Running) {ds : List (Option ℕ)} (room : ℕ) {out : HeldIds} (out2 : HeldIds)
    → out ≡ record { items = []; spare = room } → out2.items ≡ out.items ++ come t ds
    → ds ≡ map due ss → out2.items ≡ places (has_come t) 0 (map due ss)
ids_are t ss room out2 empty added timed = cc

-- each of them is a place of the list
placed : (t j : ℕ) (ss : List Running) {ids : List ℕ} → ids ≡ places (has_come t) 0 (map due ss) → j < length ids
    → get_or ids j 0 < length ss
placed t j ss {ids} e h =
    let same : get_or ids j 0 ≡ get_or (places (has_come t) 0 (map due ss)) j 0 = cc in
    omega (arith, length-map ss due, in_range (has_come t) 0 (map due ss) j (rw (← e) h))

counted : (t : ℕ) (ss : List Running) {ids : List ℕ} → ids ≡ places (has_come t) 0 (map due ss) → length ids ≤ length ss
counted t ss e = omega (arith, no_more (has_come t) 0 (map due ss), length-map ss due, ap length e)

pub loop-i-init : goal.loop-i-init
loop-i-init g c =
    record {
      long = refl;
      timed = cc (length-map (g.W.Timers.dues c.args.timers.now) (without c.args.last), length-map c.args.sessions.now.items due);
      whole = λ d. refl;
      quiet = quiet_first c.args.last c.args.sessions.now.items
          (ids_are c.args.last c.args.sessions.now.items _ c.advance.new.out c.clear.ensures c.advance.ensures.items c.requires.dues);
      spare = omega arith;
      room = refl;
    }

pub tick_at-requires-clause-place : goal.tick_at-requires-clause-place
tick_at-requires-clause-place g c =
    let at : get_or c.items.result.now c.loop-i.i 0 ≡ get_or c.advance.new.out.items c.loop-i.i 0 = cc in
    let same : length c.items-i-end.result.now ≡ length c.advance.new.out.items = cc in
    omega (
      arith,
      c.loop-i.invariant.long,
      placed c.args.last c.loop-i.i c.args.sessions.now.items
          (ids_are c.args.last c.args.sessions.now.items _ c.advance.new.out c.clear.ensures c.advance.ensures.items c.requires.dues)
          (omega (arith, c.loop-i-test.true)),
    )

pub tick_at-requires-clause-room : goal.tick_at-requires-clause-room
tick_at-requires-clause-room g c =
    let same : length c.items-i-end.result.now ≡ length c.advance.new.out.items = cc in
    omega (
      arith,
      c.loop-i.invariant.spare,
      c.requires.room,
      c.loop-i-test.true,
      counted c.args.last c.args.sessions.now.items
          (ids_are c.args.last c.args.sessions.now.items _ c.advance.new.out c.clear.ensures c.advance.ensures.items c.requires.dues),
    )

pub loop-i-preserved : goal.loop-i-preserved
loop-i-preserved g c =
    let dues = g.W.Timers.dues in
    let at : get_or c.items.result.now c.loop-i.i 0 ≡ get_or c.advance.new.out.items c.loop-i.i 0 = cc in
    let same : length c.items-i-end.result.now ≡ length c.advance.new.out.items = cc in
    let inside = placed c.args.last c.loop-i.i c.args.sessions.now.items (ids_are c.args.last c.args.sessions.now.items _ c.advance.new.out
    c.clear.ensures c.advance.ensures.items c.requires.dues) (omega (arith, c.loop-i-test.true)) in
    record {
      long = ap length (c.tick_at.ensures.sessions nobody) ∙ (length-set _ _ _ ∙ c.loop-i.invariant.long);
      timed = ap length (c.tick_at.ensures.dues nobody) ∙ (length-set _ _ _ ∙ c.loop-i.invariant.timed);
      whole = λ d. visits_more d c.args.last c.advance.new.out.items c.loop-i.i (get_or c.items.result.now c.loop-i.i 0)
          c.loop-i.sessions.items c.tick_at.new.sessions.items (dues c.loop-i.timers) (dues c.tick_at.new.timers) c.loop-i.outs.items
          c.tick_at.new.outs.items
          (omega (arith, c.loop-i-test.true)) at (c.tick_at.ensures.sessions d) (c.tick_at.ensures.dues d) (c.tick_at.ensures.items d)
          ∙ c.loop-i.invariant.whole d;
      quiet = quiet_more c.args.last _ c.advance.new.out.items c.loop-i.sessions.items _
          _ (ticked c.args.last (get_or c.loop-i.sessions.items (get_or c.items.result.now c.loop-i.i 0) nobody))
          c.loop-i.invariant.quiet (sym at) (omega (arith, c.loop-i.invariant.long)) (c.tick_at.ensures.sessions nobody)
          (c.tick_at.ensures.over nobody);
      spare = omega (arith, c.loop-i.invariant.spare, c.tick_at.ensures.spare);
      room = cc;
    }

-- what the loop leaves
left : (g : Over) (c : goal.After-loop-i g) → tour c.loop-i.sessions.items (g.W.Timers.dues c.loop-i.timers) c.loop-i.outs.items
    ≡ tour (map (ticked c.args.last) c.args.sessions.now.items) (map due (map (ticked c.args.last) c.args.sessions.now.items))
    (c.args.outs.now.items ++ flat_map (tick_items c.args.last) c.args.sessions.now.items)
left g c =
    let same : length c.items-i-end.result.now ≡ length c.advance.new.out.items = cc in
    visits_done (record { session = c.tick_laws.ensures.session; outs = c.tick_laws.ensures.outs }) nobody c.args.last
    c.args.sessions.now.items c.loop-i.sessions.items (g.W.Timers.dues c.loop-i.timers) c.args.outs.now.items c.loop-i.outs.items
    c.requires.sound (omega (arith, c.loop-i-test.false)) (ids_are c.args.last c.args.sessions.now.items _ c.advance.new.out c.clear.ensures
    c.advance.ensures.items c.requires.dues) (cc) (c.loop-i.invariant.whole nobody)

pub returns-clause-sessions : goal.returns-clause-sessions
returns-clause-sessions g c = ap (λ w. w.sessions) (left g c)

pub returns-clause-dues : goal.returns-clause-dues
returns-clause-dues g c = ap (λ w. w.dues) (left g c) ∙ ap (map due) (sym (ap (λ w. w.sessions) (left g c)))

pub returns-clause-items : goal.returns-clause-items
returns-clause-items g c = ap (λ w. w.outs) (left g c)

pub returns-clause-over : goal.returns-clause-over
returns-clause-over g c =
    let same : length c.items-i-end.result.now ≡ length c.advance.new.out.items = cc in
    quiet_all c.args.last c.advance.new.out.items c.loop-i.sessions.items (omega (arith, c.loop-i-test.false)) c.loop-i.invariant.quiet

pub returns-clause-sound : goal.returns-clause-sound
returns-clause-sound g c =
    rw (ap (λ (w : Tour). w.sessions) (left g c)) (all_sound c.args.sessions.now.items c.requires.last c.tick_laws.ensures.moments
    c.tick_laws.ensures.sound c.requires.sound)

pub returns-clause-spare : goal.returns-clause-spare
returns-clause-spare g c =
    let same : length c.items-i-end.result.now ≡ length c.advance.new.out.items = cc in
    omega (
      arith,
      c.loop-i.invariant.spare,
      c.loop-i-test.false,
      c.loop-i.auto.i-end,
      counted c.args.last c.args.sessions.now.items
          (ids_are c.args.last c.args.sessions.now.items _ c.advance.new.out c.clear.ensures c.advance.ensures.items c.requires.dues),
    )
