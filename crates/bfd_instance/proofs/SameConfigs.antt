-- An event changes no configuration.
use Rattle.bfd_instance.proofs.Common.{◌≡◌, ℕ, zero, suc, max, List, [], ◌∷◌, refl, Option, None, Some, Result, Ok, Err, Reflector, Running}
use Rattle.bfd_instance.proofs.Common.{configs_of, Line, stepped, World, own, own_of, ticks, happens, carried_out, reflected, slice_get}
use Rattle.bfd_instance.proofs.Common.{slice_set, Doing, Rests, Reflects, Happens, Passes, doing, Event}
use Rattle.bfd_packet.specs.declared.arrival.Datagram.{Datagram}
use Rattle.bfd_packet.specs.declared.discard.Test.{Test}
use Rattle.bfd_sbfd.specs.Reflect.{reflect}
use Rattle.bfd_session.proofs.Standing.{ticked_configs}

stepped_keeps : (xs : List Running) (k moment last : ℕ) (event : Event) {x : Running} → slice_get xs k ≡ Some x
    → configs_of (slice_set xs k (stepped moment last event x)) ≡ configs_of xs
stepped_keeps [] zero moment last event e = refl
stepped_keeps [] (suc k) moment last event e = refl
stepped_keeps (y ∷ xs) zero moment last event e = cc
stepped_keeps (y ∷ xs) (suc k) moment last event e = cc (stepped_keeps xs k moment last event e)

own_by : (place moment : ℕ) (event : Event) (w : World) (o : Option Running) → slice_get w.sessions place ≡ o
    → configs_of (own_of o place moment event w).world.sessions ≡ configs_of w.sessions
own_by place moment event w None e = refl
own_by place moment event w (Some x) e = stepped_keeps w.sessions place moment w.last event e

own_keeps : (place moment : ℕ) (event : Event) (w : World) → configs_of (own place moment event w).world.sessions ≡ configs_of w.sessions
unfolding own
own_keeps place moment event w = own_by place moment event w (slice_get w.sessions place) refl

ticks_keeps : (t : ℕ) (w : World) → configs_of (ticks t w).world.sessions ≡ configs_of w.sessions
unfolding ticks
ticks_keeps t w = ticked_configs (max w.last t) w.sessions

reflected_keeps : (reflector : Option Reflector) (answer : Result Datagram Test) (w : World)
    → configs_of (reflected reflector answer w).world.sessions ≡ configs_of w.sessions
reflected_keeps reflector (Err test) w = refl
reflected_keeps None (Ok datagram) w = refl
reflected_keeps (Some reflector) (Ok datagram) w = refl

done_keeps : (what : Doing) (w : World) → configs_of (carried_out what w).world.sessions ≡ configs_of w.sessions
done_keeps (Rests answer) w = refl
done_keeps (Reflects place arrival) w = reflected_keeps (slice_get w.pool place) (reflect w.pool arrival) w
done_keeps (Happens place moment event) w = own_keeps place moment event w
done_keeps (Passes t) w = ticks_keeps t w

pub happens_keeps : (line : Line) (w : World) → configs_of (happens line w).world.sessions ≡ configs_of w.sessions
happens_keeps line w = done_keeps (doing (configs_of w.sessions) w.pool line) w
