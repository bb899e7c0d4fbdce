-- The due tick is the least at which settling does something.
use Rattle.std.proofs.Common.{◌≡◌, ◌≢◌, ◌<◌, ◌≤◌, ◌+◌, ◌*◌, ℕ, true, false, refl, Option, None, Some, arith}
use Rattle.std.proofs.lemmas.Bool.Decides.{nat_tests}
use Rattle.bfd_num.specs.Numbers.{ceil_tick, floor_tick}
use Rattle.bfd_echo.specs.declared.echo.Echo.{Echo}
use Rattle.bfd_echo.specs.declared.echo.EchoResult.TheVariants.{Nothing}
use Rattle.bfd_echo.specs.Rules.{outcome, settled}
use Rattle.bfd_echo.specs.Timing.{due, has_failed, is_sending, tick_after}

-- by a tick before the due tick the Echo function hasn't failed
has_failed_rests : (e : Echo) {t : ℕ} (interval mult : ℕ) → t < due e interval mult → has_failed (1000 * t) interval mult e ≡ false
unfolding ceil_tick
has_failed_rests e interval mult h = grind (arith, nat_tests)

-- and no packet is due
is_sending_rests : (e : Echo) {t : ℕ} (interval mult : ℕ) → t < due e interval mult → is_sending (1000 * t) interval e ≡ false
unfolding floor_tick
is_sending_rests e interval mult h = grind (arith, nat_tests)

pub outcome_rests : (e : Echo) (t interval mult discr : ℕ) → t < due e interval mult → outcome (1000 * t) interval mult discr e ≡ Nothing
unfolding outcome
outcome_rests e t interval mult discr h = rw (has_failed_rests e interval mult h, is_sending_rests e interval mult h) refl

pub settled_rests : (e : Echo) (t eff interval mult : ℕ) → t < due e interval mult → settled (1000 * t) eff interval mult e ≡ e
unfolding settled
settled_rests e t eff interval mult h = rw (has_failed_rests e interval mult h, is_sending_rests e interval mult h) refl

-- with a limit from the due tick's moment on, something is done
pub outcome_acts : (e : Echo) (limit interval mult discr : ℕ) → 1000 * due e interval mult ≤ limit
    → outcome limit interval mult discr e ≢ Nothing
unfolding outcome ceil_tick floor_tick
outcome_acts e limit interval mult discr h = grind (arith, nat_tests)

-- a packet is due only when the interval has passed since the last
after_interval : (first : ℕ) {before : ℕ} (limit interval : ℕ) (o : Option ℕ) → o ≡ Some before
    → tick_after first o interval ≤ floor_tick limit → before + interval ≤ limit
unfolding ceil_tick floor_tick
after_interval first limit interval None e h = cc
after_interval first {before} limit interval (Some sent) e h = let same : sent ≡ before = cc in omega arith

pub spaced : (e : Echo) (limit interval before : ℕ) → e.sent ≡ Some before → is_sending limit interval e ≡ true → before + interval ≤ limit
spaced e limit interval before there h = after_interval e.first limit interval _ there (grind (arith, nat_tests))
