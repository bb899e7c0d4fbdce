use Rattle.bfd_script.proofs.FieldsCommon.{arith, refl, length-take-le}
use Rattle.bfd_script.proofs.Usual.{packet_begins}
use Rattle.bfd_script.proofs.line.usual.packet_at.Goals as goal

pub returns-clause-begins : goal.returns-clause-begins
returns-clause-begins c = rw (c.in_ok-moment-2.ensures.value, c.front.ensures) (packet_begins (omega (arith, c.told-text))
    c.if-text-ne114.false c.if-text-ne120.false c.if-text-ne32.false c.in_ok-moment.ensures.says c.in_ok-port.ensures.says
    c.in_ok-iface.ensures.says c.in_ok-src.ensures.says c.in_ok-dst.ensures.says c.in_ok-ttl.ensures.says c.in_ok-size.ensures.says
    (omega (
      arith,
      c.in_ok-moment.ensures.near,
      c.in_ok-port.ensures.near,
      c.in_ok-iface.ensures.near,
      c.in_ok-src.ensures.near,
      c.in_ok-dst.ensures.near,
      c.in_ok-ttl.ensures.near,
      c.in_ok-size.ensures.near,
    )))

pub returns-clause-sound : goal.returns-clause-sound
returns-clause-sound c = record {
  moment_below = omega (arith, c.in_ok-moment-2.ensures.fits);
  iface = omega (arith, c.in_ok-iface.ensures.range.1);
  src = c.in_ok-src.ensures.range;
  sport = refl;
  dst = c.in_ok-dst.ensures.range;
  ttl = c.in_ok-ttl.ensures.range;
  bytes = rw c.front.ensures c.in_ok-size.ensures.bytes;
  short = rw c.front.ensures (omega (
    arith,
    c.in_ok-size.ensures.few,
    length-take-le c.in_ok-size.size c.payload_at.new.room (omega (arith, c.in_ok-size.ensures.few, c.payload_at.array_long)),
  ));
}
