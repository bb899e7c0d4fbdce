-- How an event of a head ends: a change that is still to be sent to the tails is sent, and the next due tick is drawn. A
-- tail's event ends with neither: a tail sends nothing.
use Rattle.std.specs.Prelude.{ℕ, true, false, if◌then◌else◌}
use Rattle.bfd_rules.specs.EventFrame.{Course, is_unannounced, based, redrawn}
use Rattle.bfd_mp.specs.declared.config.HeadConfig.{HeadConfig}
use Rattle.bfd_mp.specs.Transmit.{transmits}

-- a changed state or diagnostic is sent immediately in one packet with P clear (RFC 5880 section 6.8.7); it isn't one of those that
-- announce a changed interval
unfoldable pub extra : HeadConfig → ℕ → Course → Course
extra c eff s = if is_unannounced true s.mark s.vars then based eff (transmits c false s) else s

-- and then the due tick is drawn, as the event leaves it
unfoldable pub finish : HeadConfig → ℕ → Course → Course
finish c eff s = redrawn true (extra c eff s)
