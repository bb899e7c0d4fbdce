-- What has come in and the packets from this session on are all packets of the tick.
use Rattle.std.proofs.Common.{◌≡◌, ◌+◌, ◌-◌, ◌%◌, ◌++◌}
use Rattle.bfd_load.specs.Load as load
use Rattle.bfd_load.proofs.Hearing.{packets_from}
use Rattle.bfd_load.proofs.generating.hear.Given as goal

abbrev pub invariant-loop-i : goal.invariant-loop-i
invariant-loop-i l = record {
  place : l.t % 300 ≡ l.i % 300;
  whole : l.events.items ++ packets_from l.sessions l.t l.i ≡ l.initial.events.items ++ load.packets l.sessions l.t;
}

abbrev pub decreases-loop-i : goal.decreases-loop-i
decreases-loop-i l = l.sessions + 1 - l.i
