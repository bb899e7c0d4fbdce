-- With the sessions that are left, the answer is the same.
use Rattle.std.proofs.Common.{◌≡◌, drop, map}
use Rattle.bfd_session.specs.Rows.{AreFit}
use Rattle.bfd_session.specs.Step.{started}
use Rattle.bfdd.specs.Members.{is_up_in}
use Rattle.bfdd.proofs.watched_text.members.is_up_in.Given as goal

abbrev pub invariant-loop-config : goal.invariant-loop-config
invariant-loop-config l = record {
  fit : AreFit (drop l.config-index l.configs);
  same : is_up_in l.discr (map started (drop l.config-index l.configs)) ≡ is_up_in l.discr (map started l.configs);
}
