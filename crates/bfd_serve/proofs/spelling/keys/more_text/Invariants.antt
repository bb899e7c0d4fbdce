use Rattle.bfd_serve.proofs.SpellingCommon.{◌≡◌, take, string_bytes, more_text}
use Rattle.bfd_serve.proofs.spelling.keys.more_text.Given as goal

abbrev pub invariant-loop-key : goal.invariant-loop-key
invariant-loop-key l = string_bytes l.text ≡ more_text l.discr (take l.key-index l.keys)
