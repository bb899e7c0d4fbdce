-- One more session.
use Rattle.bfd_shard.proofs.Common.{◌≡◌, ◌∷◌, [], rules, append_assoc, subst, AreFit}
use Rattle.bfd_shard.proofs.Setting.{sound_more, start_more}
use Rattle.bfd_shard.proofs.start.sessions_of.Goals as goal

pub loop-config-preserved : goal.loop-config-preserved
loop-config-preserved c =
    let split : c.loop-config.config-iterator.rest.items ≡ c.in-Some.config ∷ c.next.new.self.rest.items = search rules in
    record {
      whole = cc (append_assoc c.loop-config.yielded (c.in-Some.config ∷ []) c.next.new.self.rest.items);
      fit = (subst AreFit split c.loop-config.invariant.fit).1;
      made = start_more c.loop-config.yielded c.loop-config.invariant.made c.in_ok-seat.ensures.session c.in_ok-push.ensures.items;
      sound = sound_more c.loop-config.sessions.items _ c.in_ok-seat.seat c.loop-config.invariant.sound c.in_ok-seat.ensures.sound
          c.in_ok-push.ensures.items;
    }
