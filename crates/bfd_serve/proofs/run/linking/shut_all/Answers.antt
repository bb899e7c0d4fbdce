-- One more link is shut, by its number.
use Rattle.bfd_serve.proofs.RunCommon.{◌++◌, ◌∷◌, [], ap, arith, ◌∙◌, PortsObserved}
use Rattle.std.proofs.Common.{append_assoc, length-append}
use Rattle.bfd_serve.proofs.Theirs.{next_number, shut_more}
use Rattle.bfd_serve.proofs.run.linking.shut_all.Goals as goal

pub shut-requires-in-loop-link-clause-number : goal.shut-requires-in-loop-link-clause-number
shut-requires-in-loop-link-clause-number g c =
    next_number g.P.Link.Link.observed c.loop-link.yielded c.next.new.self.rest.items c.args.links.items c.in-Some.link c.requires.theirs
    (cc (c.in-Some.ensures.steps.0)) c.loop-link.invariant.number

pub loop-link-preserved : goal.loop-link-preserved
loop-link-preserved g c = let i = c.loop-link.invariant in record {
  can = tt;
  finite = tt;
  all = cc (append_assoc c.loop-link.yielded (c.in-Some.link ∷ []) c.next.new.self.rest.items, c.in-Some.ensures.steps.0);
  number = omega (arith, length-append c.loop-link.yielded (c.in-Some.link ∷ []));
  opened = λ n. ap (λ (observed : PortsObserved). observed.opened n) c.shut-in-loop-link.ensures ∙ i.opened n;
  faults = ap (λ (observed : PortsObserved). observed.faults) c.shut-in-loop-link.ensures ∙ i.faults;
  shut = shut_more g.P.Link.Link.observed c.loop-link.yielded c.in-Some.link c.shut-in-loop-link.ensures i.number i.shut;
}
