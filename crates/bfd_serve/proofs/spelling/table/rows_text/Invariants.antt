use Rattle.bfd_serve.proofs.SpellingCommon.{◌≡◌, take, string_bytes, rows_text}
use Rattle.bfd_serve.proofs.spelling.table.rows_text.Given as goal

abbrev pub invariant-loop-config : goal.invariant-loop-config
invariant-loop-config l = string_bytes l.text ≡ rows_text (take l.config-index l.configs)
