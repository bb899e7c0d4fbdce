-- One more tick has its events, and at the end all have.
use Rattle.std.proofs.Common.{◌≡◌, ◌+◌, ◌-◌, ◌++◌, ◌∙◌, [], ◌∷◌, ap, append_assoc, arith, rules}
use Rattle.bfd_script.specs.declared.line.entries.Line.TheVariants.{Tick}
use Rattle.bfd_load.specs.Load as load
use Rattle.bfd_load.proofs.Each.{all_of, gathered_more}
use Rattle.bfd_load.proofs.generating.events.Goals as goal

pub loop-t-preserved : goal.loop-t-preserved
loop-t-preserved c =
    let same : c.unwrap.result ≡ c.loop-t.t = search rules in
    gathered_more (load.tick_events c.args.sessions) (c.loop-t.t + 1 - 1) c.loop-t.invariant (c.in_ok-push.ensures.items
    ∙ (ap (λ k. c.hear.new.events.items ++ Tick k ∷ []) same ∙ (ap (λ ls. ls ++ Tick c.loop-t.t ∷ []) c.in_ok-hear.ensures
    ∙ append_assoc c.loop-t.events.items (load.packets c.args.sessions c.loop-t.t) (Tick c.loop-t.t ∷ [])))) (omega arith) (omega arith)

pub returns : goal.returns
returns c = all_of (load.events c.args.sessions) c.args.ticks c.loop-t.invariant (omega arith)
