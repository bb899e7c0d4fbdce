use Rattle.bfd_demux.proofs.Common.{arith, ap, ◌∙◌, if◌then◌else◌, Some, None, list_any, NoTail, row_has_selector, the_one}
use Rattle.bfd_demux.proofs.Selecting.{no_tail, tail_heard, to_session}
use Rattle.bfd_demux.proofs.demux.Demux.select_tail.Goals as goal

pub returns-then-your-ne0 : goal.returns-then-your-ne0
returns-then-your-ne0 g c = record {
  tests = no_tail (list_any (row_has_selector (Some c.args.kind)) c.args.self.now) c.if-your-ne0.true;
  target = tt;
  cost = omega arith;
}

pub by_addresses-requires : goal.by_addresses-requires
by_addresses-requires g c = c.requires

pub returns-in-Some : goal.returns-in-Some
returns-in-Some g c = record {
  tests = ap (λ b. if b then None else Some NoTail) c.in-Some.ensures.known
      ∙ tail_heard (list_any (row_has_selector (Some c.args.kind)) c.args.self.now) c.if-your-ne0.false;
  target = to_session c.args.self.now (the_one (row_has_selector (Some c.args.kind)) c.args.self.now) c.in-Some.ensures.found;
  cost = c.in-Some.ensures.cost;
}

pub returns-in-None : goal.returns-in-None
returns-in-None g c = record {
  tests = ap (λ b. if b then None else Some NoTail) c.in-None.ensures.known
      ∙ tail_heard (list_any (row_has_selector (Some c.args.kind)) c.args.self.now) c.if-your-ne0.false;
  target = tt;
  cost = c.in-None.ensures.cost;
}
