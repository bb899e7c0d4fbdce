use Rattle.bfd_serve.proofs.Common.{take, datagrams, HasSent, []}
use Rattle.bfd_serve.proofs.sending.send_all.Given as goal

abbrev pub invariant-loop-out : goal.invariant-loop-out
invariant-loop-out g l = HasSent (datagrams (take l.out-index l.outs)) [] (g.L.Link.observed l.initial.link) (g.L.Link.observed l.link)
    l.initial.lost l.lost
