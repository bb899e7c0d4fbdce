-- What is kept is as many bytes of the buffer as came.
use Rattle.std.proofs.Common.{◌≡◌, ◌≤◌, ◌∙◌, ap, arith, length, take, take_all, length-take}
use Rattle.bfd_net.specs.Sockets.{arrival_from}
use Rattle.bfd_net.proofs.link.kept.Goals as goal

pub returns-in-Ok : goal.returns-in-Ok
returns-in-Ok g c =
    let first = take c.args.count c.args.buf.now in
    let few : length first ≤ 256 = omega (arith, length-take c.args.count c.args.buf.now) in
    let payload : c.in-Ok.payload ≡ first = c.in-Ok.ensures.kept ∙ take_all 256 first few in
    (c.came.ensures ∙ ap (arrival_from c.args.from.now c.args.port c.args.address) payload, c.in-Some.ensures)
