-- What each thread makes.
use Rattle.bfd_engine.proofs.Common.{◌≡◌, ◌∙◌, sym, subst, get_or, Ok, IfOk, arith, share, IsNewState}
use Rattle.std.proofs.lemmas.Result.{IfOk-weaker}
use Rattle.bfd_engine.proofs.States.{all_long, made_at}
use Rattle.bfd_engine.proofs.making.make_shards.Goals as goal

pub each-requires-after_bounds : goal.each-requires-after_bounds
each-requires-after_bounds g c κs within i x h is =
    let n = c.in_ok-numbers.ensures in
    let same : x ≡ i = is ∙ n.each i x (omega (arith, n.long, h)) in
    (record { few = c.requires.few; fit = c.requires.fit }, omega (arith, same, n.long, h), c.requires.shards.1)

pub returns : goal.returns
returns g c =
    let n = c.in_ok-numbers.ensures in let m = c.in_ok-made.ensures in
    IfOk-weaker c.all_there.result _ _ (λ states all. record {
      long = all_long states.items all (m.long ∙ n.long);
      each = λ r d h.
          let one = (m.each r (Ok d) (omega (arith, n.long, h))).1 in
          let place : one.job ≡ r = sym (one.job_is 0) ∙ n.each r 0 h in
          made_at (IsNewState (share c.args.shards r c.args.configs.now)) states.items r d all
          (subst (λ k. IfOk (get_or c.in_ok-made.made.items r (Ok d)) (IsNewState (share c.args.shards k c.args.configs.now))) place
          one.call.met);
    }) c.all_there.ensures
