-- A pass is taken out.
use Rattle.bfd_engine.proofs.Common.{get_or, ◌≡◌, ◌∙◌, List, ℕ, Some, None, slice_get, slice_set, sym, ap, get_or_from_slice_get, Held}
use Rattle.bfd_engine.proofs.Places.{K}
use Rattle.bfd_engine.proofs.pass.EnginePass.lift.Goals as goal

read_here : (passes : List Held) (at : ℕ) (there pass : K) (held : Held) → slice_get passes at ≡ Some (Some there)
    → held ≡ get_or passes at held → held ≡ Some pass → slice_get passes at ≡ Some (Some pass)
read_here passes at there pass held here read is = cc (get_or_from_slice_get passes at (Some there) held here)

pub returns : goal.returns
returns c =
    let here =
    read_here c.self.inside.passes.items c.args.shard c.requires.0 c.in-Some.pass c.index_mut.result.now
    (ap (λ k. slice_get k.1 c.args.shard) c.self.view_is ∙ c.requires.1)
    c.index_mut.ensures.value (cc (c.in-Some.is)) in
    record {
      pass = ap (λ k. slice_get k.1 c.args.shard) (sym c.self.view_is) ∙ here;
      rest = ap (λ x. (c.self.inside.number, slice_set c.self.inside.passes.items c.args.shard x, c.self.inside.used))
          c.take-held.ensures.after
          ∙ ap (λ k. (k.0, slice_set k.1 c.args.shard None, k.2)) c.self.view_is;
      callers = rw (← c.self.view_is) (c.self.invariant c.args.shard c.in-Some.pass here);
    }
