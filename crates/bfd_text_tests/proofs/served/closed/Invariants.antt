-- The sessions keep their configurations.
use Rattle.std.proofs.Common.{◌≡◌}
use Rattle.bfd_session.specs.Kinds.{configs_of}
use Rattle.bfd_text_tests.proofs.served.closed.Given as goal

abbrev pub invariant-loop-row : goal.invariant-loop-row
invariant-loop-row g l = configs_of l.shard.sessions ≡ l.fn.configs.items
