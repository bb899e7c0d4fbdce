-- What happens to a running Echo function (RFC 5880 sections 6.8.5, 6.8.8 and 6.8.9). The limit is the moment by which
-- something is due, and eff the effective moment of the event, both in microseconds.
use Rattle.std.specs.Prelude.{ℕ, ◌+◌, ◌<◌, if◌then◌else◌, None, Some, IfSome}
use Rattle.bfd_num.specs.Numbers.{floor_tick, moment_bound}
use Rattle.bfd_echo.specs.declared.echo.Echo.{Echo}
use Rattle.bfd_echo.specs.declared.echo.EchoResult.{EchoResult}
use Rattle.bfd_echo.specs.declared.echo.EchoResult.TheVariants.{Nothing, Sent, Failed}
use Rattle.bfd_echo.specs.Packet.{echo_text}
use Rattle.bfd_echo.specs.Sequence.{next_sequence, is_outstanding}
use Rattle.bfd_echo.specs.Timing.{has_failed, is_sending}

-- the moments that an echo keeps are moments
pub record HasMoments (e : Echo) : Type 0 where
  pub last_below : e.last < moment_bound
  pub sent_below : IfSome e.sent (λ m. m < moment_bound)

-- the Echo function starts: the first packet is due at the next tick, and nothing is outstanding. Packets have as long
-- to come back as if one had come back now
unfoldable pub echo_begun : ℕ → ℕ → Echo
echo_begun eff next = record { first = floor_tick eff + 1; sent = None; last = eff; back = next; next = next }

-- a packet came back (section 6.8.8): if its number was outstanding, the ones after it are awaited from now on
unfoldable pub returned : ℕ → ℕ → Echo → Echo
returned eff s e = if is_outstanding e s then record e { back = next_sequence s; last = eff } else e

-- a packet was sent
unfoldable pub sent : ℕ → Echo → Echo
sent eff e = record e { sent = Some eff; next = next_sequence e.next }

-- what has come due by the limit is done. Failure (section 6.8.5): the session goes Down, and nothing is sent.
-- Sending (section 6.8.9): a packet with the next number
unfoldable pub settled : ℕ → ℕ → ℕ → ℕ → Echo → Echo
settled limit eff interval mult e =
    if has_failed limit interval mult e then e
    else if is_sending limit interval e then sent eff e
    else e

-- the result of that
unfoldable pub outcome : ℕ → ℕ → ℕ → ℕ → Echo → EchoResult
outcome limit interval mult discr e =
    if has_failed limit interval mult e then Failed
    else if is_sending limit interval e then Sent (echo_text discr e.next)
    else Nothing
