use Rattle.bfd_serve.proofs.SpellingCommon.{◌≡◌, take, string_bytes, pool_text}
use Rattle.bfd_serve.proofs.spelling.table.pool_text.Given as goal

abbrev pub invariant-loop-reflector : goal.invariant-loop-reflector
invariant-loop-reflector l = string_bytes l.text ≡ pool_text (take l.reflector-index l.pool)
