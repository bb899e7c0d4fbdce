-- A session that forms a table by itself, and the ranges of its fields.
use Rattle.std.specs.Prelude.{◌≤◌, ◌<◌, IsTrue}
use Rattle.bfd_rules.specs.declared.config.Role.{Role}
use Rattle.bfd_rules.specs.Sound.{is_echo_interval}
use Rattle.bfd_session.specs.declared.event.SessionConfig.{SessionConfig}
use Rattle.bfd_session.specs.Step.{IsFit}
use Rattle.bfd_script.specs.Ranges.{IsRow}
use Rattle.bfd_c.specs.declared.fields.Fields.{Fields}

-- its values are in their ranges
abbrev pub IsInRanges : SessionConfig → Type 0
IsInRanges config = IsFit config × IsRow config

-- the discriminator and the interface are in their ranges
pub record HasName (f : Fields) : Type 0 where
  pub discr : 0 < f.discr
  pub iface : f.iface < 65536

-- the interval to send at and the Detect Mult are in their ranges
pub record HasSending (f : Fields) : Type 0 where
  pub tx_least : 10000 ≤ f.tx
  pub tx_most : f.tx ≤ 60000000
  pub some_mult : 0 < f.mult
  pub most_mult : f.mult < 256

-- the fields that only a point-to-point session has are in their ranges
pub record IsPaired (role : Role) (f : Fields) : Type 0 where
  pub rx_least : 10000 ≤ f.rx
  pub rx_most : f.rx ≤ 60000000
  pub echo : IsTrue (is_echo_interval role f.echo)
