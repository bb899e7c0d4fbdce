-- What a receive is answered with.
use Rattle.std.proofs.Common.{◌≡◌, ◌≢◌, ◌⊎◌, ℕ, List, Some, Option, Result, Ok, Err, refl, inl, inr, ⊎_elim}
use Rattle.std.specs.IoError.{error_kind}
use Rattle.std.specs.declared.io.Error.{Error}
use Rattle.std.specs.declared.io.ErrorKind.{ErrorKind}
use Rattle.std.specs.declared.io.ErrorKind.TheVariants.{WouldBlock, TimedOut}
use Rattle.std.specs.declared.net.socket_addr.SocketAddr.{SocketAddr}
use Rattle.std.specs.declared.net.socket_addr.SocketAddr.TheVariants as socket
use Rattle.std.specs.declared.time.Instant.{Instant}
use Rattle.bfd_packet.specs.declared.arrival.Port.{Port}
use Rattle.bfd_edge.specs.declared.link.Received.{Received}
use Rattle.bfd_edge.specs.declared.link.Received.TheVariants.{Got, Quiet, Ended, Failed, Memory}
use Rattle.bfd_net.specs.Sockets.{answer_on_error, CameTo, IsHeard}

-- every kind of error but these two is a fault
pub failed_else : (kind : ErrorKind) → kind ≢ WouldBlock → kind ≢ TimedOut → Failed ≡ answer_on_error kind
failed_else WouldBlock a b = absurd (a refl)
failed_else TimedOut a b = absurd (b refl)
failed_else kind a b = refl

no_packet : (kind : ErrorKind) → (answer_on_error kind ≡ Quiet) ⊎ (answer_on_error kind ≡ Failed)
no_packet WouldBlock = inl refl
no_packet TimedOut = inl refl
no_packet kind = inr refl

-- what is heard came to the port and the address, and is no end
pub heard_came : (made : Option Instant) (port : Port) (address : ℕ) (came : Result (ℕ × SocketAddr) Error) (buffer : List ℕ)
    (received : Received)
    → IsHeard made port address came buffer received → CameTo made (Some (port, address)) received × (received ≢ Ended)
heard_came made port address (Ok (count, socket.V4 from)) buffer (Got moment arrival) h =
    (rw h.0 (refl, refl, refl, refl, h.1), λ e. absurd (cc e))
heard_came made port address (Ok (count, socket.V4 from)) buffer Failed h = (tt, λ e. absurd (cc e))
heard_came made port address (Ok (count, socket.V4 from)) buffer Memory h = (tt, λ e. absurd (cc e))
heard_came made port address (Ok (count, socket.V4 from)) buffer Quiet h = absurd h
heard_came made port address (Ok (count, socket.V4 from)) buffer Ended h = absurd h
heard_came made port address (Ok (count, socket.V6 from)) buffer received h = rw h (tt, λ e. absurd (cc e))
heard_came made port address (Err error) buffer received h = ⊎_elim
    (λ (quiet : answer_on_error (error_kind error) ≡ Quiet). rw (h, quiet) (tt, λ e. absurd (cc e)))
    (λ (failed : answer_on_error (error_kind error) ≡ Failed). rw (h, failed) (tt, λ e. absurd (cc e)))
    (no_packet (error_kind error))
