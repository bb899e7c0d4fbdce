-- Each law is a lemma.
use Rattle.bfd_mp.proofs.Rest.{tail_settle_rests, tail_announces_nothing, tail_draws_nothing}
use Rattle.bfd_mp.proofs.Soundness.{tail_settle_sound, received_sound, tail_commanded_sound}
use Rattle.bfd_mp.proofs.Expiry.{tail_expires}
use Rattle.bfd_mp.proofs.Naming.{tail_settle_named, received_named, tail_commanded_named}
use Rattle.bfd_mp.proofs.law.tail_laws.Goals as goal

pub returns-clause-rests : goal.returns-clause-rests
returns-clause-rests c = tail_settle_rests

pub returns-clause-tick_sound : goal.returns-clause-tick_sound
returns-clause-tick_sound c = tail_settle_sound

pub returns-clause-packet_sound : goal.returns-clause-packet_sound
returns-clause-packet_sound c = received_sound

pub returns-clause-command_sound : goal.returns-clause-command_sound
returns-clause-command_sound c = tail_commanded_sound

pub returns-clause-expires : goal.returns-clause-expires
returns-clause-expires c = tail_expires

pub returns-clause-settle_named : goal.returns-clause-settle_named
returns-clause-settle_named c = tail_settle_named

pub returns-clause-received_named : goal.returns-clause-received_named
returns-clause-received_named c = received_named

pub returns-clause-commanded_named : goal.returns-clause-commanded_named
returns-clause-commanded_named c = tail_commanded_named

pub returns-clause-announces_nothing : goal.returns-clause-announces_nothing
returns-clause-announces_nothing c = tail_announces_nothing

pub returns-clause-draws_nothing : goal.returns-clause-draws_nothing
returns-clause-draws_nothing c = tail_draws_nothing
