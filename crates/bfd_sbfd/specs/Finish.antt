-- How an event ends: a change that is still to be sent to the reflector is sent, and the next due tick is drawn.
use Rattle.std.specs.Prelude.{ℕ, true, if◌then◌else◌}
use Rattle.bfd_rules.specs.EventFrame.{Course, is_unannounced, based, redrawn}
use Rattle.bfd_sbfd.specs.declared.config.InitiatorConfig.{InitiatorConfig}
use Rattle.bfd_sbfd.specs.Transmit.{transmits}

-- a changed state or diagnostic is sent immediately in one packet, unless none may be sent (RFC 5880 section 6.8.7)
unfoldable pub extra : InitiatorConfig → ℕ → Course → Course
extra c eff s = if is_unannounced true s.mark s.vars then based eff (transmits c s) else s

-- and then the due tick is drawn, as the event leaves it
unfoldable pub finish : InitiatorConfig → ℕ → Course → Course
finish c eff s = redrawn true (extra c eff s)
