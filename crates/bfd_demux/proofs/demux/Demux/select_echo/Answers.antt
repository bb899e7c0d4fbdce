use Rattle.bfd_demux.proofs.Common.{arith}
use Rattle.bfd_demux.proofs.Selecting.{echo_read, no_echo_packet, echo_known, echo_unknown, echo_found}
use Rattle.bfd_demux.proofs.demux.Demux.select_echo.Goals as goal

pub returns-in_default : goal.returns-in_default
returns-in_default g c = record {
  tests = no_echo_packet c.args.self.now c.args.payload.now c.in_default.ensures;
  target = tt;
  cost = omega arith;
}

pub returns-in-Some-by_discr : goal.returns-in-Some-by_discr
returns-in-Some-by_discr g c =
    let echo = echo_read c.args.payload.now c.in-Some.ensures in
    record {
      tests = echo_known c.args.self.now echo c.in-Some-by_discr.ensures.known;
      target = echo_found c.args.self.now echo c.in-Some-by_discr.ensures.found;
      cost = c.in-Some-by_discr.ensures.cost;
    }

pub returns-in-None : goal.returns-in-None
returns-in-None g c =
    record {
      tests = echo_unknown c.args.self.now (echo_read c.args.payload.now c.in-Some.ensures) c.in-None.ensures.known;
      target = tt;
      cost = c.in-None.ensures.cost;
    }
