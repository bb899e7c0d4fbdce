-- The bytes and the sequence state of the seal make the packet that is transmitted.
use Rattle.bfd_rules.specs.declared.variables.Vars.{Vars}
use Rattle.bfd_p2p.proofs.Sending.{sends_sealed}
use Rattle.bfd_p2p.proofs.transmitting.transmits_sealed.Goals as goal

pub returns-clause-course : goal.returns-clause-course
returns-clause-course c = λ m.
    let v : Vars = c.args.vars.now in
    let w : Vars = record v { seq = c.seal-bytes.result.1 } in
    let sent = c.sends.ensures.course w m in
    let whole = sends_sealed c.args.config.now c.args.poll c.args.fin v m c.args.outs.now.items c.args.keys.now c.requires.keys in
    cc (c.seal-bytes.ensures.text, c.seal-bytes.ensures.seq, c.packet_of-packet.ensures, c.datagram_of.ensures)
