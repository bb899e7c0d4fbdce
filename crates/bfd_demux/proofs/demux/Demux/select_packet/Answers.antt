use Rattle.bfd_demux.proofs.Common.{◌≡◌, true, false, arith, ap, ◌∙◌, refl, Tail, is_multipoint}
use Rattle.bfd_demux.proofs.Selecting.{ok_then, reflector_failing, reflector_named, tail_failing, tail_named, session_failing}
use Rattle.bfd_demux.proofs.Selecting.{session_named, selector_addressed, tail_by_addresses, session_by_discr}
use Rattle.bfd_demux.proofs.demux.Demux.select_packet.Goals as goal

pub returns-in-Sbfd-clause-tests : goal.returns-in-Sbfd-clause-tests
returns-in-Sbfd-clause-tests g c = rw c.in-Sbfd.is (c.select_reflector.ensures.tests
    ∙ reflector_failing c.args.self.now c.args.arrival.now c.requires.packet)

pub returns-in-Sbfd-clause-target : goal.returns-in-Sbfd-clause-target
returns-in-Sbfd-clause-target g c = rw c.in-Sbfd.is (ok_then c.select_reflector.result
    (λ target h. h.1 ∙ reflector_named c.args.self.now c.args.arrival.now c.requires.packet h.0) c.select_reflector.ensures.target)

pub returns-in-Sbfd-clause-cost : goal.returns-in-Sbfd-clause-cost
returns-in-Sbfd-clause-cost g c = omega (arith, c.select_reflector.ensures.cost)

pub returns-in-Sbfd-clause-one_lookup : goal.returns-in-Sbfd-clause-one_lookup
returns-in-Sbfd-clause-one_lookup g c = λ _. c.select_reflector.ensures.cost

pub select_tail-requires : goal.select_tail-requires
select_tail-requires g c = rw c.tail_of.ensures refl

pub returns-then-is_multipoint : goal.returns-then-is_multipoint
returns-then-is_multipoint g c =
    let multipoint : is_multipoint c.args.arrival.now.port c.args.arrival.now ≡ true =
    cc in
    let tail = c.tail_of.ensures ∙ ap (λ packet. Tail packet.my c.args.arrival.now.iface c.args.arrival.now.dst c.args.arrival.now.src)
    c.requires.packet in
    record {
      tests = c.select_tail.ensures.tests ∙ tail_failing c.args.arrival.now.port c.args.self.now c.args.arrival.now c.requires.packet
          multipoint tail;
      target = ok_then c.select_tail.result (λ target h. h
          ∙ tail_named c.args.arrival.now.port c.args.self.now c.args.arrival.now multipoint tail) c.select_tail.ensures.target;
      cost = c.select_tail.ensures.cost;
      one_lookup = λ other. absurd (tail_by_addresses c.args.arrival.now.port c.args.arrival.now multipoint other);
    }

pub select_session-requires : goal.select_session-requires
select_session-requires g c = record {
  port = c.in_default.not-Sbfd;
  selector = rw c.selector_of.ensures (selector_addressed c.args.arrival.now.port c.args.arrival.now);
}

pub returns-else-is_multipoint : goal.returns-else-is_multipoint
returns-else-is_multipoint g c =
    let single : is_multipoint c.args.arrival.now.port c.args.arrival.now ≡ false =
    cc in
    record {
      tests =
          cc (
            c.select_session.ensures.tests,
            c.selector_of.ensures,
            session_failing _ c.args.self.now c.args.arrival.now c.requires.packet c.requires.port c.in_default.not-Sbfd single,
          );
      target = ok_then c.select_session.result (λ target h.
          cc (session_named _ c.args.self.now c.args.arrival.now c.requires.packet c.requires.port c.in_default.not-Sbfd single))
          c.select_session.ensures.target;
      cost = c.select_session.ensures.cost;
      one_lookup = λ other.
          c.select_session.ensures.one_lookup (session_by_discr _ c.args.arrival.now c.requires.packet c.requires.port c.in_default.not-Sbfd
          other);
    }
