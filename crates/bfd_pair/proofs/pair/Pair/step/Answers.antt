-- The room that is made first changes no list; the event is then that of the definitions, over what the past made.
use Rattle.bfd_pair.proofs.Common.{◌≡◌, ◌++◌, [], ◌∷◌, ℕ, List, Peer, Both, turn, seen, both_of}
use Rattle.bfd_pair.proofs.Pairs.{pair_more, pairing_more, handshake_more, rises_more}
use Rattle.bfd_pair.proofs.pair.Pair.step.Goals as goal

-- two sides, with these packets sent
abbrev with : Peer → Peer → ℕ → List (List ℕ) → List (List ℕ) → Both
with left right last by_left by_right = record {
  left = record (seen left) { sent = by_left };
  right = record (seen right) { sent = by_right };
  last = last;
}

both : (c : goal.After-push_reserved) → both_of c.happen.new.left c.happen.new.right c.in_ok-last.last
    ≡ (turn c.args.event (both_of c.self.inside.left c.self.inside.right c.self.inside.last)).both
both c = cc (c.in_ok-last.ensures.both, c.in_ok-reserve-2.ensures.items, c.in_ok-reserve-3.ensures.items)

more : (c : goal.After-push_reserved) → c.push_reserved.new.self.items ≡ c.self.inside.past.items ++ c.args.event ∷ []
more c = cc (c.in_ok-reserve.ensures.items)

pub invariant_of-self-2 : goal.invariant_of-self-2
invariant_of-self-2 c = pair_more c.self.inside.left c.self.inside.right c.happen.new.left c.happen.new.right c.self.inside.last
    c.in_ok-last.last
    c.self.inside.past.items c.push_reserved.new.self.items c.args.event c.args.self.now c.self.invariant c.self.view_is (both c) (more c)
    c.in_ok-last.ensures.left c.in_ok-last.ensures.right c.in_ok-last.ensures.last

pub returns-clause-past : goal.returns-clause-past
returns-clause-past c = pairing_more c.self.inside.left c.self.inside.right c.happen.new.left c.happen.new.right c.self.inside.last
    c.in_ok-last.last
    c.self.inside.past.items c.push_reserved.new.self.items c.args.event c.args.self.now c.self.invariant c.self.view_is (both c) (more c)

pub returns-clause-handshake : goal.returns-clause-handshake
returns-clause-handshake c = handshake_more c.self.inside.left c.self.inside.right c.happen.new.left c.happen.new.right c.self.inside.last
    c.in_ok-last.last
    c.self.inside.past.items c.push_reserved.new.self.items c.args.event c.args.self.now c.self.invariant c.self.view_is (both c) (more c)

pub returns-clause-rises : goal.returns-clause-rises
returns-clause-rises c = rises_more c.self.inside.left c.self.inside.right c.happen.new.left c.happen.new.right c.self.inside.last
    c.in_ok-last.last
    c.self.inside.past.items c.push_reserved.new.self.items c.args.event c.args.self.now c.self.invariant c.self.view_is (both c) (more c)
