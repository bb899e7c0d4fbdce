-- The jobs before and after the work, and the passes that are joined.
use Rattle.bfd_serve.proofs.Common.{◌≡◌, ◌++◌, length, map, sym, subst, ap, ap₂, ◌∙◌, All, sum, risen, End, pass_of, link_of, end_of_job}
use Rattle.bfd_serve.proofs.Common.{lost_of, IsOpen, IsOther, IsFresh, HasSplit, ◌∷◌, [], ℕ, List, HasServed, whole_back}
use Rattle.bfd_serve.proofs.Summing.{served, others_after, all_ready}
use Rattle.bfd_serve.proofs.serving.run_all.Goals as goal

pub beside-end-requires-clause-jobs : goal.beside-end-requires-clause-jobs
beside-end-requires-clause-jobs g c = λ κs within. all_ready g.L.Link.observed c.deref_mut.result.now
    (subst (All (IsFresh c.args.engine.now)) (sym (ap (map pass_of) c.deref_mut.ensures.value ∙ c.pair_up-jobs.ensures.passes))
    c.requires.split.each)
    (subst (All (IsOpen g.L.Link.observed)) (sym (ap (map link_of) c.deref_mut.ensures.value ∙ c.pair_up-jobs.ensures.links))
    c.requires.open)

pub join_all-requires-clause-others : goal.join_all-requires-clause-others
join_all-requires-clause-others g c = let before = c.deref_mut.result.now in let e = c.args.engine.now in
    let split : HasSplit e c.args.first.now (map pass_of before) (length c.args.links.items) =
    rw (ap (map pass_of) c.deref_mut.ensures.value ∙ c.pair_up-jobs.ensures.passes) c.requires.split in
    subst (All (IsOther e)) (sym (c.take_apart-done.ensures.passes
    ∙ ap (map pass_of) (whole_back c.beside-end.new.jobs c.pair_up-jobs.result.items _ (cc) c.pair_up-jobs.result.ok.0)))
    (others_after g.L.Link.observed e c.args.first.now c.args.limits.turns before c.beside-end.new.jobs (length c.args.links.items) split
    c.beside-end.ensures.long c.beside-end.ensures.worked)

pub returns-clause-served : goal.returns-clause-served
returns-clause-served g c = let before = c.deref_mut.result.now in let after = c.beside-end.new.jobs in let e = c.args.engine.now in let t =
    g.L.Link.observed in let k = g.T.Ticker.observed in
    let split : HasSplit e c.args.first.now (map pass_of before) (length c.args.links.items) =
    rw (ap (map pass_of) c.deref_mut.ensures.value ∙ c.pair_up-jobs.ensures.passes) c.requires.split in
    let same = whole_back after c.pair_up-jobs.result.items _ (cc) c.pair_up-jobs.result.ok.0 in
    let links : map link_of before ≡ c.args.links.items = cc (c.deref_mut.ensures.value, c.pair_up-jobs.ensures.links) in
    let ends =
    c.take_apart-done.ensures.ends ∙ (ap₂ (λ x y. x ++ map end_of_job y) c.push_reserved.ensures.items same
    ∙ ap (λ x. (x ++ c.beside-end.result.0 ∷ []) ++ map end_of_job after) c.requires.ends.0) in
    let back : c.take_apart-done.result.1.links.items ≡ map link_of after = cc (c.take_apart-done.ensures.links) in
    let lost : c.take_apart-done.result.1.lost ≡ risen c.beside-end.result.1 (sum (map lost_of after)) = cc in
    let all = served t e c.args.first.now c.args.limits.turns before after (length c.args.links.items) split c.beside-end.ensures.long
    c.beside-end.ensures.worked c.beside-end.new.first c.join_all.new.first (t c.args.own.now) (t c.beside-end.new.own)
    (k c.args.ticker.now) (k c.beside-end.new.ticker) c.args.orders.now c.args.limits.ticks c.beside-end.result.0 c.beside-end.result.1
    c.beside-end.ensures.tended
    (λ s h. rw (← c.take_apart-done.ensures.passes ∙ ap (map pass_of) same) (c.join_all.ensures.joined s h)) in
    subst (λ (w : List g.row.L.Denot × List g.row.L.Denot × List End × ℕ). HasServed t e c.join_all.new.first (t c.args.own.now)
    (t c.beside-end.new.own) (k c.args.ticker.now) (k c.beside-end.new.ticker) c.args.orders.now c.args.limits w.0 w.1 w.2 w.3)
    (λ r. (links r, sym back r, sym ends r, sym lost r)) all
