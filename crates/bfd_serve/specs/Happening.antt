-- The line of an event of a shard.
use Rattle.std.specs.Prelude.{ℕ, List, [], ◌∷◌, codes}
use Rattle.std.specs.Fmt.{decimal}
use Rattle.bfd_session.specs.declared.event.Event.{Event}
use Rattle.bfd_session.specs.declared.event.Event.TheVariants.{Packet, Returned, Command, Show}
use Rattle.bfd_shard.specs.declared.entry.ShardEvent.{ShardEvent}
use Rattle.bfd_shard.specs.declared.entry.ShardEvent.TheVariants.{Own, Tick}
use Rattle.bfd_script.specs.declared.line.entries.Line.TheVariants as events
use Rattle.bfd_serve.specs.Written.{event_fields}

-- an own event of the session with this discriminator, as in a packet file. An echo packet that came back is
-- `back MOMENT DISCR SEQ`; a packet file has it only as it arrives
abbrev pub own_fields : ℕ → ℕ → Event → List (List ℕ)
own_fields discr moment (Packet arrival) = event_fields (events.Rx moment arrival)
own_fields discr moment (Returned sequence) = codes "back" ∷ decimal moment ∷ decimal discr ∷ decimal sequence ∷ []
own_fields discr moment (Command cmd) = event_fields (events.Cmd moment discr cmd)
own_fields discr moment Show = event_fields (events.Show moment discr)

-- the fields of an event of a shard
abbrev pub happening_fields : ℕ → ShardEvent → List (List ℕ)
happening_fields discr (Own place moment event) = own_fields discr moment event
happening_fields discr (Tick t) = event_fields (events.Tick t)
