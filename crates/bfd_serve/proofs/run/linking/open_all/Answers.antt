-- One more link is open, or one can't be.
use Rattle.bfd_serve.proofs.RunCommon.{◌+◌, ◌∙◌, ap, sym, IsUncalled}
use Rattle.std.proofs.Common.{rules}
use Rattle.std.proofs.lemmas.List.Elements.{All-push}
use Rattle.bfd_serve.proofs.Shuts.{next_unopened}
use Rattle.bfd_serve.proofs.Theirs.{theirs_more}
use Rattle.bfd_serve.proofs.run.linking.open_all.Goals as goal

pub returns-in-Err-open-clause-opened : goal.returns-in-Err-open-clause-opened
returns-in-Err-open-clause-opened g c = let i = c.loop-at.invariant in
    next_unopened g.P.Link.Link.observed c.in-Ok.link c.loop-at.links.items c.in-Err-open.fault c.refused_as-in-Err-open.result c.loop-at.at
    (c.loop-at.at + 1)
    (g.P.Ports.observed c.args.ports.now) (g.P.Ports.observed c.loop-at.ports) (g.P.Ports.observed c.open-in-loop-at.new.self)
    (g.P.Ports.observed c.shut_all.new.ports)
    c.refused_as-in-Err-open.ensures i.own i.new i.long i.opened c.in-Err-open.ensures.after c.shut_all.ensures.opened
    c.shut_all.ensures.faults c.shut_all.ensures.shut

pub loop-at-preserved : goal.loop-at-preserved
loop-at-preserved g c = let i = c.loop-at.invariant in record {
  opened = search rules;
  own = i.own;
  new = rw c.push_reserved.ensures.items (All-push (IsUncalled g.P.Link.Link.observed) c.loop-at.links.items c.in-Ok-open.link i.new
      (search rules));
  long = search rules;
  theirs = rw c.push_reserved.ensures.items (theirs_more g.P.Link.Link.observed c.loop-at.links.items c.in-Ok-open.link i.theirs
      (c.in-Ok-open.ensures.number ∙ ap (λ n. n + 1) (sym i.long)));
  room = search rules;
}
