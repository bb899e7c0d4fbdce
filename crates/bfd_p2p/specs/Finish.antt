-- How an event ends: a change that is still to be sent to the peer is sent, and the next due tick is drawn.
use Rattle.std.specs.Prelude.{ℕ, false, if◌then◌else◌}
use Rattle.bfd_rules.specs.declared.config.Config.{Config}
use Rattle.bfd_rules.specs.EventFrame.{Course, is_unannounced, based, redrawn}
use Rattle.bfd_p2p.specs.Transmit.{transmits}

-- a changed state or diagnostic is sent immediately in one packet with P clear (section 6.8.7). None is sent if a packet with F has
-- carried it or no packet may be sent
unfoldable pub extra : Config → ℕ → Course → Course
extra c eff s = if is_unannounced c.active s.mark s.vars then based eff (transmits c false false s) else s

-- and then the due tick is drawn, as the event leaves it
unfoldable pub finish : Config → ℕ → Course → Course
finish c eff s = redrawn c.active (extra c eff s)
