-- The event leaves a shard.
use Rattle.bfd_shard.proofs.Common.{◌≡◌, ◌≤◌, ◌≢◌, ℕ, List, ◌++◌, ◌∷◌, [], length, sym, ◌∙◌, ap, subst, arith, rules, AllByRecursion}
use Rattle.bfd_shard.proofs.Common.{greatest_tick, Running, configs_of, IsSound, Entry, later, moved, Shard, shard_of, IsOver, IsShard}
use Rattle.bfd_shard.proofs.Common.{CanHappen}
use Rattle.bfd_shard.proofs.Expiring.{exactly}
use Rattle.bfd_shard.proofs.OnTime.{IsLaw, on_time}
use Rattle.bfd_shard.proofs.Runs.{shard_more, moved_configs}
use Rattle.bfd_shard.proofs.shard.ShardState.apply.Goals as goal

-- what the event and the entry leave
grown : (law : IsLaw) (last last2 limit room room2 : ℕ) (entry : Entry) (ss ss2 : List Running) (j j2 : List Entry)
    → IsShard (shard_of ss last j limit room)
    → last2 ≡ later last entry.event → last2 ≤ greatest_tick → length j ≢ limit → CanHappen (configs_of ss) entry.event
    → ss2 ≡ moved last entry.event ss
    → AllByRecursion IsSound ss2 → j2 ≡ j ++ entry ∷ [] → IsOver last2 entry.event ss2 → IsShard (shard_of ss2 last2 j2 limit room2)
grown law last last2 limit room room2 entry ss ss2 j j2 s at early other can m sound ej over =
    rw (← sym at) (rw ej (shard_more room2 entry s (omega arith) (omega (arith, at, early)) can m sound
    (on_time law entry.event s m (rw (← at) over))))

pub apply-answer-requires-clause-can : goal.apply-answer-requires-clause-can
apply-answer-requires-clause-can g c = rw (ap (λ (s : Shard). s.sessions) c.self.view_is) c.requires.can

pub invariant_of-self : goal.invariant_of-self
invariant_of-self g c =
    let a = c.apply-answer.ensures in
    let group = c.self.inside.group in
    let group2 = c.apply-answer.new.self in
    grown c.expiry_laws.ensures group.last group2.last c.self.inside.limit _ _ (record { caller = c.args.caller; event = c.args.event })
    group.sessions group2.sessions
    c.self.inside.journal.items c.push_reserved.new.self.items c.self.invariant a.last a.early (search rules)
    (rw (ap (λ (s : Shard). s.sessions) c.self.view_is) c.requires.can)
    a.sessions a.sound c.push_reserved.ensures.items a.over

pub returns-clause-configs : goal.returns-clause-configs
returns-clause-configs g c = ap configs_of c.apply-answer.ensures.sessions
    ∙ (moved_configs c.self.inside.group.last c.args.event c.self.inside.group.sessions
    ∙ ap (λ s. configs_of s.sessions) c.self.view_is)

pub returns-clause-exact : goal.returns-clause-exact
returns-clause-exact g c = rw (← c.self.view_is) (exactly c.expiry_laws.ensures c.args.event c.self.invariant
    c.apply-answer.ensures.sessions)

pub returns-clause-kept : goal.returns-clause-kept
returns-clause-kept g c = invariant_of-self g c

pub returns-clause-stood : goal.returns-clause-stood
returns-clause-stood g c = subst IsShard c.self.view_is c.self.invariant
