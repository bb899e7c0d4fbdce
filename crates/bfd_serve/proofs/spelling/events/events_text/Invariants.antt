use Rattle.bfd_serve.proofs.SpellingCommon.{◌≡◌, take, string_bytes, events_text}
use Rattle.bfd_serve.proofs.spelling.events.events_text.Given as goal

abbrev pub invariant-loop-event : goal.invariant-loop-event
invariant-loop-event l = string_bytes l.text ≡ events_text (take l.event-index l.events)
