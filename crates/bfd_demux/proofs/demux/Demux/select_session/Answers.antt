use Rattle.bfd_demux.proofs.Common.{arith, sym}
use Rattle.bfd_demux.proofs.Selecting.{your_known, your_unknown, your_named, heard_without_your, no_session, addresses_known}
use Rattle.bfd_demux.proofs.Selecting.{addresses_unknown, addresses_named, addressed_kind}
use Rattle.bfd_demux.proofs.demux.Demux.select_session.Goals as goal

pub returns-in-Some : goal.returns-in-Some
returns-in-Some g c = record {
  tests = your_known c.args.port c.args.packet.now c.args.selector c.args.self.now c.if-packet-ne0.true (sym c.in-Some.ensures.known);
  target = your_named _ c.args.packet.now c.args.selector c.args.self.now c.requires.port c.if-packet-ne0.true c.in-Some.ensures.found;
  cost = omega (arith, c.in-Some.ensures.cost);
  one_lookup = λ some. c.in-Some.ensures.cost;
}

pub returns-in-None : goal.returns-in-None
returns-in-None g c = record {
  tests = your_unknown c.args.port c.args.packet.now c.args.selector c.args.self.now c.if-packet-ne0.true (sym c.in-None.ensures.known);
  target = tt;
  cost = omega (arith, c.in-None.ensures.cost);
  one_lookup = λ some. c.in-None.ensures.cost;
}

pub returns-then-is_init_or_up : goal.returns-then-is_init_or_up
returns-then-is_init_or_up g c = record {
  tests = heard_without_your c.args.port c.args.packet.now c.args.selector c.args.self.now c.if-packet-ne0.false
      (sym c.if-is_init_or_up.ensures);
  target = tt;
  cost = omega arith;
  one_lookup = λ some. absurd (some c.if-packet-ne0.false);
}

pub returns-in_default : goal.returns-in_default
returns-in_default g c = record {
  tests = no_session c.args.port c.args.packet.now c.args.self.now c.if-packet-ne0.false (sym c.if-is_init_or_up.ensures) c.in_default.is;
  target = tt;
  cost = omega arith;
  one_lookup = λ some. absurd (some c.if-packet-ne0.false);
}

pub by_addresses-requires : goal.by_addresses-requires
by_addresses-requires g c = addressed_kind c.in-Some-selector.is c.requires.selector

pub returns-in-Some-by_addresses : goal.returns-in-Some-by_addresses
returns-in-Some-by_addresses g c = record {
  tests = addresses_known c.args.port c.args.packet.now c.args.self.now c.if-packet-ne0.false
      (sym c.if-is_init_or_up.ensures) c.in-Some-selector.is (sym c.in-Some-by_addresses.ensures.known);
  target = addresses_named c.args.port c.args.packet.now c.args.self.now c.if-packet-ne0.false c.in-Some-selector.is
      c.in-Some-by_addresses.ensures.found;
  cost = c.in-Some-by_addresses.ensures.cost;
  one_lookup = λ some. absurd (some c.if-packet-ne0.false);
}

pub returns-in-None-by_addresses : goal.returns-in-None-by_addresses
returns-in-None-by_addresses g c = record {
  tests = addresses_unknown c.args.port c.args.packet.now c.args.self.now c.if-packet-ne0.false
      (sym c.if-is_init_or_up.ensures) c.in-Some-selector.is (sym c.in-None-by_addresses.ensures.known);
  target = tt;
  cost = c.in-None-by_addresses.ensures.cost;
  one_lookup = λ some. absurd (some c.if-packet-ne0.false);
}
