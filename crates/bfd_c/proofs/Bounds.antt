-- Between events the moment of the last packet, and that of a running poll, are below the bound of moments.
use Rattle.std.proofs.Common.{◌≡◌, ◌<◌}
use Rattle.std.specs.Prelude.{IfSome}
use Rattle.bfd_num.specs.Numbers.{moment_bound}
use Rattle.bfd_rules.specs.Quantities.{poll_started}
use Rattle.bfd_session.specs.declared.event.SessionConfig.{SessionConfig}
use Rattle.bfd_session.specs.declared.event.SessionConfig.TheVariants.{PointToPoint, Initiator, Head, Tail}
use Rattle.bfd_session.specs.Kinds.{Running}
use Rattle.bfd_session.specs.Step.{IsSound, sound_by}
use Rattle.bfd_c.specs.declared.records.kept.Kind.TheVariants as kinds
use Rattle.bfd_c.specs.Records.{session_kind}

pub record HasMoments (s : Running) : Type 0 where
  pub heard : IfSome s.vars.heard (λ m. m < moment_bound)
  pub poll : IfSome (poll_started s.vars.poll) (λ m. m < moment_bound)

pub point_moments : (s : Running) → IsSound s → kinds.PointToPoint ≡ session_kind s.config → HasMoments s
point_moments s sound kind = by s.config sound kind
  where
    by : (c : SessionConfig) → sound_by c s → kinds.PointToPoint ≡ session_kind c → HasMoments s
    by (PointToPoint c) sound kind = record { heard = sound.vars.steady.plain.heard_below; poll = sound.vars.steady.plain.poll_below }
    by (Initiator c) sound kind = absurd (cc)
    by (Head c) sound kind = absurd (cc)
    by (Tail c) sound kind = absurd (cc)

pub initiator_heard : (s : Running) → IsSound s → kinds.Initiator ≡ session_kind s.config → IfSome s.vars.heard (λ m. m < moment_bound)
initiator_heard s sound kind = by s.config sound kind
  where
    by : (c : SessionConfig) → sound_by c s → kinds.Initiator ≡ session_kind c → IfSome s.vars.heard (λ m. m < moment_bound)
    by (PointToPoint c) sound kind = absurd (cc)
    by (Initiator c) sound kind = sound.vars.steady.plain.heard_below
    by (Head c) sound kind = absurd (cc)
    by (Tail c) sound kind = absurd (cc)

pub tail_heard : (s : Running) → IsSound s → kinds.Tail ≡ session_kind s.config → IfSome s.vars.heard (λ m. m < moment_bound)
tail_heard s sound kind = by s.config sound kind
  where
    by : (c : SessionConfig) → sound_by c s → kinds.Tail ≡ session_kind c → IfSome s.vars.heard (λ m. m < moment_bound)
    by (PointToPoint c) sound kind = absurd (cc)
    by (Initiator c) sound kind = absurd (cc)
    by (Head c) sound kind = absurd (cc)
    by (Tail c) sound kind = sound.vars.heard_below
