-- Passes of a lock, after turns of their own.
use Rattle.std.specs.Prelude.{◌≡◌}
use Rattle.bfd_turn.specs.Passes.{TableId}
use Rattle.bfd_turn.specs.declared.view.Known.{Known}

module _ {N B : Type 0} where
  -- q is the pass p, which has made and joined no other since
  abbrev pub IsAfterTurns : TableId × Known N B → TableId × Known N B → Type 0
  IsAfterTurns p q = (q.0 ≡ p.0) × (q.1.number ≡ p.1.number) × (q.1.made ≡ p.1.made) × (q.1.joined ≡ p.1.joined)
