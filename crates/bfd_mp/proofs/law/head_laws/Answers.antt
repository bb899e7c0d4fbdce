-- Each law is a lemma.
use Rattle.bfd_mp.proofs.Rest.{head_rests}
use Rattle.bfd_mp.proofs.Soundness.{head_tick_sound, head_command_sound}
use Rattle.bfd_mp.proofs.Naming.{head_settle_named, head_commanded_named, head_finish_named}
use Rattle.bfd_mp.proofs.law.head_laws.Goals as goal

pub returns-clause-rests : goal.returns-clause-rests
returns-clause-rests c = head_rests

pub returns-clause-tick_sound : goal.returns-clause-tick_sound
returns-clause-tick_sound c = head_tick_sound

pub returns-clause-command_sound : goal.returns-clause-command_sound
returns-clause-command_sound c = head_command_sound

pub returns-clause-settle_named : goal.returns-clause-settle_named
returns-clause-settle_named c = head_settle_named

pub returns-clause-commanded_named : goal.returns-clause-commanded_named
returns-clause-commanded_named c = head_commanded_named

pub returns-clause-finish_named : goal.returns-clause-finish_named
returns-clause-finish_named c = head_finish_named
