-- What an answer holds of its text: the bytes, or a script whose report they are.
use Rattle.std.specs.Prelude.{ℕ, List, ⊤}
use Rattle.bfd_instance.specs.World.{replayed}
use Rattle.bfd_script.specs.Sound.{IsScript}
use Rattle.bfdd.specs.declared.job.answer.Text.{Text}
use Rattle.bfdd.specs.declared.job.answer.Text.TheVariants.{Whole, Report}
use Rattle.bfdd.specs.Ranges.{AreHands}

-- the text, also if it is still to be built
abbrev pub held_text : Text → List ℕ
held_text (Whole bytes) = bytes.items
held_text (Report script hands) = replayed script

-- a report that is still to be built has a script that can be replayed, and hands for it
abbrev pub CanBeMade : Text → Type 0
CanBeMade (Whole bytes) = ⊤
CanBeMade (Report script hands) = IsScript script × AreHands hands
