-- The pass of the turn that is given back is put in its place.
use Rattle.bfd_engine.proofs.Common.{rules, ◌≡◌, ◌∙◌, get_or, length, vec_len, Some, slice_set, sym, ap, ap₂, subst, arith}
use Rattle.bfd_engine.proofs.Common.{get_or_from_slice_get, slice_get_within, having_done, Shards, IsOf}
use Rattle.bfd_engine.proofs.Places.{K}
use Rattle.bfd_engine.proofs.Lending.{of_back, still}
use Rattle.bfd_engine.proofs.engine.Engine.let_go.Goals as goal

pub index-requires : goal.index-requires
index-requires g c =
    let at : c.hold.inside.shard ≡ c.args.hold.0 = cc in
    let v : length c.self.inside.locks.items ≡ length c.args.self.now.locks = cc in
    let n : vec_len c.self.inside.locks ≡ length c.self.inside.locks.items = search rules in
    omega (arith, at, slice_get_within c.args.self.now.locks c.args.hold.0 c.args.hold.1 c.requires.held.lock_is, v, n)

pub done-back-requires-clause-turn : goal.done-back-requires-clause-turn
done-back-requires-clause-turn g c =
    let at : c.hold.inside.shard ≡ c.args.hold.0 = cc in
    ap (λ h. h.1) c.hold.view_is ∙ (sym (get_or_from_slice_get c.args.self.now.locks c.args.hold.0 c.args.hold.1 c.index.result.now
    c.requires.held.lock_is)
    ∙ (ap₂ (λ (e : Shards) n. get_or e.locks n c.index.result.now) (sym c.self.view_is) (sym at) ∙ sym c.index.ensures))

pub put-requires-clause-callers : goal.put-requires-clause-callers
put-requires-clause-callers g c = still c.done-back.result.1
    (ap (λ p. p.1.number) c.done-back.ensures ∙ ap (λ h. h.2.number) c.hold.view_is)
    (ap (λ p. p.1.made) c.done-back.ensures ∙ ap (λ h. h.2.made) c.hold.view_is) c.requires.held.callers

pub put-requires-clause-place : goal.put-requires-clause-place
put-requires-clause-place g c =
    let at : c.hold.inside.shard ≡ c.args.hold.0 = cc in
    omega (arith, at, slice_get_within c.args.self.now.locks c.args.hold.0 c.args.hold.1 c.requires.held.lock_is, c.requires.of.long)

pub returns-clause-pass : goal.returns-clause-pass
returns-clause-pass g c =
    let at : c.hold.inside.shard ≡ c.args.hold.0 = cc in
    let lock : c.index.result.now ≡ c.args.hold.1 =
    c.index.ensures ∙ (ap₂ (λ (e : Shards) n. get_or e.locks n c.index.result.now) c.self.view_is at
    ∙ get_or_from_slice_get c.args.self.now.locks c.args.hold.0 c.args.hold.1 c.index.result.now c.requires.held.lock_is) in
    let back = c.done-back.ensures ∙ (ap₂ (λ i xs. (i, having_done xs c.hold.inside.turn.1)) lock c.hold.invariant.0
    ∙ ap (λ h. (c.args.hold.1, having_done h.2.seen h.2)) c.hold.view_is) in
    c.put.ensures ∙ ap₂ (λ n (x : K). (c.args.pass.now.0, slice_set c.args.pass.now.1 n (Some x), c.args.pass.now.2)) at back

pub returns-clause-of : goal.returns-clause-of
returns-clause-of g c =
    let at : c.hold.inside.shard ≡ c.args.hold.0 = cc in
    let lock : c.index.result.now ≡ c.args.hold.1 =
    c.index.ensures ∙ (ap₂ (λ (e : Shards) n. get_or e.locks n c.index.result.now) c.self.view_is at
    ∙ get_or_from_slice_get c.args.self.now.locks c.args.hold.0 c.args.hold.1 c.index.result.now c.requires.held.lock_is) in
    let is : c.put.new.self ≡ (c.args.pass.now.0, slice_set c.args.pass.now.1 c.args.hold.0 (Some c.done-back.result), c.args.pass.now.2) =
    c.put.ensures ∙ ap (λ n. (c.args.pass.now.0, slice_set c.args.pass.now.1 n (Some c.done-back.result), c.args.pass.now.2)) at in
    subst (IsOf c.args.self.now) (sym (ap (λ k. k.1) is))
    (of_back c.args.self.now c.args.pass.now.1 c.args.hold.0 c.done-back.result c.requires.held.out
    (c.requires.held.lock_is ∙ ap Some (sym (ap (λ p. p.0) c.done-back.ensures ∙ lock)))
    (ap (λ p. p.1.base) c.done-back.ensures ∙ (ap (λ h. h.2.base) c.hold.view_is ∙ c.requires.held.base_is)) c.requires.of)
