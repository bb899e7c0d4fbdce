-- What an arrival resolves to: the session is present, and the reflector's answer is a turn of the world.
use Rattle.bfd_instance.proofs.Common.{◌≡◌, ◌<◌, ◌∷◌, [], ℕ, List, Result, Ok, Err, Running, Event, Reflector, Out, configs_of, length, arith}
use Rattle.bfd_instance.proofs.Common.{slice_get, reflected, turned, world_of}
use Rattle.std.proofs.lemmas.List.{length-map}
use Rattle.std.proofs.lemmas.Option.{slice_get_within}
use Rattle.bfd_packet.specs.declared.arrival.Arrival.{Arrival}
use Rattle.bfd_packet.specs.declared.arrival.Datagram.{Datagram}
use Rattle.bfd_packet.specs.declared.discard.Test.{Test}
use Rattle.bfd_packet.specs.Layout.{fields_of}
use Rattle.bfd_session.specs.declared.event.Answer.TheVariants.{Handled, Dropped}
use Rattle.bfd_session.specs.Reaching.{IsNamed, IsTaken, sent_as}

pub within : (ss : List Running) (place : ℕ) (event : Event) → IsTaken (configs_of ss) place event → place < length ss
within ss place event t = omega (arith, slice_get_within (configs_of ss) place t.config t.there, length-map ss (λ (s : Running). s.config))

pub answered : {pool : List Reflector} {place : ℕ} {arrival : Arrival} (r : Result Datagram Test) {out : Out} → IsNamed pool place arrival
    → Ok out ≡ sent_as (fields_of arrival.payload).your r → (ss : List Running) (last : ℕ)
    → turned ss pool last (out ∷ []) Handled ≡ reflected (slice_get pool place) r (world_of ss pool last)
answered (Ok datagram) n e ss last = rw n.there (cc (n.its, e))
answered (Err test) n e ss last = absurd (cc)

pub refused : {pool : List Reflector} (place : ℕ) (arrival : Arrival) (r : Result Datagram Test) {test : Test}
    → Err test ≡ sent_as (fields_of arrival.payload).your r → (ss : List Running) (last : ℕ)
    → turned ss pool last [] (Dropped test) ≡ reflected (slice_get pool place) r (world_of ss pool last)
refused place arrival (Ok datagram) e ss last = absurd (cc)
refused place arrival (Err test) e ss last = cc
