-- The moments that an echo keeps stay below 2 ^ 60.
use Rattle.std.proofs.Common.{◌<◌, Bool, true, false, ℕ, if◌then◌else◌}
use Rattle.bfd_num.specs.Numbers.{moment_bound}
use Rattle.bfd_echo.specs.declared.echo.Echo.{Echo}
use Rattle.bfd_echo.specs.Rules.{HasMoments, echo_begun, returned, sent, settled}
use Rattle.bfd_echo.specs.Sequence.{next_sequence, is_outstanding}
use Rattle.bfd_echo.specs.Timing.{has_failed, is_sending}

pub begun_moments : (eff next : ℕ) → eff < moment_bound → HasMoments (echo_begun eff next)
unfolding echo_begun
begun_moments eff next small = record { last_below = small; sent_below = tt }

returned_by : (b : Bool) {eff : ℕ} (s : ℕ) {e : Echo} → eff < moment_bound → HasMoments e
    → HasMoments (if b then record e { back = next_sequence s; last = eff } else e)
returned_by true s small moments = record { last_below = small; sent_below = moments.sent_below }
returned_by false s small moments = moments

pub returned_moments : (eff s : ℕ) (e : Echo) → eff < moment_bound → HasMoments e → HasMoments (returned eff s e)
unfolding returned
returned_moments eff s e small moments = returned_by (is_outstanding e s) s small moments

sent_moments : {eff : ℕ} {e : Echo} → eff < moment_bound → HasMoments e → HasMoments (sent eff e)
unfolding sent
sent_moments small moments = record { last_below = moments.last_below; sent_below = small }

settled_by : (failed sending : Bool) {eff : ℕ} {e : Echo} → eff < moment_bound → HasMoments e
    → HasMoments (if failed then e else if sending then sent eff e else e)
settled_by true sending small moments = moments
settled_by false true small moments = sent_moments small moments
settled_by false false small moments = moments

pub settled_moments : (limit eff interval mult : ℕ) (e : Echo) → eff < moment_bound → HasMoments e
    → HasMoments (settled limit eff interval mult e)
unfolding settled
settled_moments limit eff interval mult e small moments =
    settled_by (has_failed limit interval mult e) (is_sending limit interval e) small moments
