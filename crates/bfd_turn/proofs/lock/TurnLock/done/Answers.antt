use Rattle.bfd_turn.proofs.Common.{rules, ◌∷◌, ap, ◌∙◌, Some, rest}
use Rattle.bfd_turn.proofs.TakeAndRelease.{gives_at}
use Rattle.bfd_turn.proofs.lock.TurnLock.done.Goals as goal

pub fetch_add-requires : goal.fetch_add-requires
fetch_add-requires g c = let t = c.turn in (
  search rules,
  search rules,
  gives_at g.V.Recorded.noted g.V.Recorded.caller g.V.Recorded.base c.self.inside.table.shared.table_id.slots c.exchange-empty.new.seat.id
      (c.exchange-empty.ensures.3 ∙ ap (λ r. (t.inside.seat.me.0, (0, Some t.inside.value) ∷ r)) (ap rest t.invariant.0)) t.invariant.1
      (ap (λ p. p.1) t.view_is) (cc) c.requires.grows c.requires.base,
)
