-- One more output, or the outputs up to one for which there was no memory.
use Rattle.bfd_serve.proofs.Common.{rules, ◌≡◌, drop, slice_index_or, subst, sym, arith, LinkObserved, datagrams, HasSent, ℕ}
use Rattle.bfd_serve.proofs.Packets.{sent_none, sent_upto, sent_cut, sent_whole, some_left}
use Rattle.bfd_serve.proofs.sending.send_all.Goals as goal

pub loop-out-init : goal.loop-out-init
loop-out-init g c = sent_none (g.L.Link.observed c.args.link.now) c.args.lost.now

pub returns-clause-sent : goal.returns-clause-sent
returns-clause-sent g c = sent_whole c.args.outs.now (omega arith) c.loop-out.invariant

pub returns-in-Err-clause-refused : goal.returns-in-Err-clause-refused
returns-in-Err-clause-refused g c = let i = c.loop-out.out-index in (
  datagrams (drop i c.args.outs.now),
  subst (λ (y : LinkObserved × ℕ). HasSent (datagrams c.args.outs.now) (datagrams (drop i c.args.outs.now))
      (g.L.Link.observed c.args.link.now) y.0
      c.args.lost.now y.1) (λ j. (sym c.in-Err.ensures.refused.0 j, sym c.in-Err.ensures.refused.1 j))
      (sent_cut c.args.outs.now i c.loop-out.invariant),
  let same : slice_index_or c.args.outs.now c.loop-out.out-index c.out-item.result ≡ c.out-item.result = search rules in
      some_left c.args.outs.now i c.out-item.result c.loop-out-test.true (rw same c.in-Err.ensures.some),
)

pub loop-out-preserved : goal.loop-out-preserved
loop-out-preserved g c = let same : slice_index_or c.args.outs.now c.loop-out.out-index c.out-item.result ≡ c.out-item.result =
    search rules in sent_upto c.args.outs.now c.out-item.result c.loop-out-test.true
    c.loop-out.invariant (rw same c.in_default.ensures.sent)
