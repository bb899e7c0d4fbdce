use Rattle.bfd_demux.proofs.Common.{◌≡◌, Err, arith, rules, sym, ap, ◌∙◌, refl, read_of}
use Rattle.bfd_demux.proofs.Selecting.{ok_then, ok_always, echo_failing, echo_named, header_passed, read_past, unread}
use Rattle.bfd_demux.proofs.demux.Demux.screen.Goals as goal

pub returns-in-Echo-clause-tests : goal.returns-in-Echo-clause-tests
returns-in-Echo-clause-tests g c =
    rw c.in-Echo.is (cc (c.select_echo.ensures.tests, c.as_slice.ensures.value, echo_failing c.args.self.now c.args.arrival.now))

pub returns-in-Echo-clause-target : goal.returns-in-Echo-clause-target
returns-in-Echo-clause-target g c = rw c.in-Echo.is (ok_then c.select_echo.result
    (λ target h. cc (echo_named c.args.self.now c.args.arrival.now)) c.select_echo.ensures.target)

pub returns-in-Echo-clause-header : goal.returns-in-Echo-clause-header
returns-in-Echo-clause-header g c = rw c.in-Echo.is (ok_always c.select_echo.result refl)

pub returns-in-Echo-clause-cost : goal.returns-in-Echo-clause-cost
returns-in-Echo-clause-cost g c = omega (arith, c.select_echo.ensures.cost)

pub returns-in-Echo-clause-one_lookup : goal.returns-in-Echo-clause-one_lookup
returns-in-Echo-clause-one_lookup g c = λ _. c.select_echo.ensures.cost

pub returns-in_err-packet-in_default : goal.returns-in_err-packet-in_default
returns-in_err-packet-in_default g c =
    let refused : c.from_residual.result ≡ Err c.in_err-packet-in_default.field-0.0 = search rules in
    rw refused (record {
      tests = unread c.args.self.now c.args.arrival.now c.in_default.not-Echo
          (cc (c.read.ensures, c.as_slice-in_default.ensures.value, c.in_err-packet-in_default.was));
      target = tt;
      header = tt;
      cost = omega arith;
      one_lookup = λ _. omega arith;
    })

pub select_packet-requires : goal.select_packet-requires
select_packet-requires g c =
    record {
      port = c.in_default.not-Echo;
      packet = (header_passed _ c.args.arrival.now.payload c.in_default.not-Echo (sym
          (c.read.ensures ∙ ap (read_of c.args.arrival.now.port) c.as_slice-in_default.ensures.value) ∙ c.in_ok-packet-in_default.was)).its;
    }

pub returns-in_ok-packet-in_default : goal.returns-in_ok-packet-in_default
returns-in_ok-packet-in_default g c =
    let was = sym (c.read.ensures ∙ ap (read_of c.args.arrival.now.port) c.as_slice-in_default.ensures.value)
    ∙ c.in_ok-packet-in_default.was in
    record {
      tests = c.select_packet.ensures.tests ∙ read_past c.args.self.now c.args.arrival.now c.in_default.not-Echo was;
      target = c.select_packet.ensures.target;
      header = ok_always c.select_packet.result (header_passed _ c.args.arrival.now.payload c.in_default.not-Echo was).passes;
      cost = c.select_packet.ensures.cost;
      one_lookup = c.select_packet.ensures.one_lookup;
    }
