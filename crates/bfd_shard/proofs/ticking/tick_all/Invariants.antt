-- Visiting the ids that are left gives what visiting all of them gives, and away from them nothing is due.
use Rattle.bfd_shard.proofs.Common.{◌≡◌, ◌+◌, ◌*◌, ◌≤◌, drop, length, Running}
use Rattle.bfd_shard.proofs.Ticks.{tour, visits, QuietFrom}
use Rattle.bfd_shard.proofs.ticking.tick_all.Given as goal

abbrev pub invariant-loop-i : goal.invariant-loop-i
invariant-loop-i g l =
    let dues = g.W.Timers.dues in
    record {
      long : length l.sessions.items ≡ length l.fn.sessions.items;
      timed : length (dues l.timers) ≡ length l.fn.sessions.items;
      whole : (d : Running) → visits d l.last (drop l.i l.ids.items) (tour l.sessions.items (dues l.timers) l.outs.items)
          ≡ visits d l.last l.ids.items (tour l.initial.sessions.items (dues l.initial.timers) l.initial.outs.items);
      quiet : QuietFrom l.last l.i l.ids.items l.sessions.items;
      spare : l.initial.outs.spare ≤ l.outs.spare + 5 * l.i;
      room : l.outs.room ≡ l.initial.outs.room;
    }
