-- One more lock.
use Rattle.bfd_engine.proofs.Common.{◌≡◌, ◌∷◌, [], map, subst, append-nil, append_assoc, nil_from_length, AllByRecursion}
use Rattle.std.proofs.lemmas.Result.{IfOk-weaker}
use Rattle.bfd_engine.specs.Opening.{MayLock}
use Rattle.bfd_engine.proofs.Opening.{parts_more, opened}
use Rattle.bfd_engine.proofs.States.{of}
use Rattle.bfd_engine.proofs.open.lock_in_turn.Goals as goal

pub lock_shard-requires : goal.lock_shard-requires
lock_shard-requires g c = (subst (λ xs. AllByRecursion (MayLock c.args.limit) xs) c.in-Some.ensures.steps.0 c.loop-state.invariant.may).0

pub loop-state-preserved : goal.loop-state-preserved
loop-state-preserved g c =
    let i = c.loop-state.invariant in
    record {
      can = tt;
      finite = tt;
      all = cc (append_assoc c.loop-state.yielded (c.in-Some.state ∷ []) c.next.new.self.rest.items, c.in-Some.ensures.steps.0);
      may = (subst (λ xs. AllByRecursion (MayLock c.args.limit) xs) c.in-Some.ensures.steps.0 i.may).1;
      made = rw c.in_ok-push.ensures.items (parts_more c.args.limit of c.loop-state.yielded c.loop-state.shards.items c.in-Some.state
          c.in_ok-shard.shard i.made c.in_ok-shard.ensures);
    }

pub returns : goal.returns
returns g c =
    let i = c.loop-state.invariant in
    let all : c.loop-state.yielded ≡ c.args.states.items =
    cc (append-nil c.loop-state.yielded, nil_from_length c.loop-state.state-iterator.rest.items (cc (c.in-None.ensures.steps.0)), i.all) in
    IfOk-weaker c.apart.result _ _ (λ r. opened c.args.limit (map of c.args.states.items) c.loop-state.shards.items (rw (← all) i.made))
    c.apart.ensures
