use Rattle.bfd_demux.proofs.Common.{arith, ap, ◌∙◌, if◌then◌else◌, Some, None, YourUnknown, row_has_discr, knows, the_one}
use Rattle.bfd_packet.specs.declared.arrival.Port.TheVariants.{Sbfd as SbfdPort}
use Rattle.bfd_demux.proofs.Selecting.{reflects_none, reflects, to_reflector}
use Rattle.bfd_demux.proofs.demux.Demux.select_reflector.Goals as goal

pub returns-then-your-eq0 : goal.returns-then-your-eq0
returns-then-your-eq0 g c = record {
  tests = reflects_none (knows c.args.self.now SbfdPort c.args.your) c.if-your-eq0.true;
  target = tt;
  cost = omega arith;
}

pub returns-in-Some : goal.returns-in-Some
returns-in-Some g c = record {
  tests = ap (λ b. if b then None else Some YourUnknown) c.in-Some.ensures.known
      ∙ reflects (knows c.args.self.now SbfdPort c.args.your) c.if-your-eq0.false;
  target = (
    c.if-your-eq0.false,
    to_reflector c.args.self.now (the_one (row_has_discr SbfdPort c.args.your) c.args.self.now)
        c.in-Some.ensures.found,
  );
  cost = c.in-Some.ensures.cost;
}

pub returns-in-None : goal.returns-in-None
returns-in-None g c = record {
  tests = ap (λ b. if b then None else Some YourUnknown) c.in-None.ensures.known
      ∙ reflects (knows c.args.self.now SbfdPort c.args.your) c.if-your-eq0.false;
  target = tt;
  cost = c.in-None.ensures.cost;
}
