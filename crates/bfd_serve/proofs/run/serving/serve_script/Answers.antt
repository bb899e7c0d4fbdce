-- A whole run, put together.
use Rattle.bfd_serve.proofs.RunCommon.{length, IfOk, Ok, ap, sym, ◌∙◌, subst, All, AreFit, IsUnspent, HadMemory, history_at}
use Rattle.bfd_serve.proofs.RunCommon.{observed_on_link}
use Rattle.bfd_serve.proofs.RunCommon.{HaveRun, AreClosedShards}
use Rattle.bfd_serve.proofs.Dealing.{parts_are, parts_fit}
use Rattle.bfd_serve.proofs.Wholes.{all_shut, still_open, whole_run}
use Rattle.bfd_serve.proofs.run.serving.serve_script.Goals as goal

pub returns-in_default-ran-clause-shut : goal.returns-in_default-ran-clause-shut
returns-in_default-ran-clause-shut g c =
    all_shut g.P.Link.Link.observed c.run_all-links.result.0.items c.in_ok-own.links.items (g.P.Ports.observed c.shut_all.new.ports)
    c.in_ok-own.ensures.opened c.in_ok-own.ensures.long c.run_all-links.ensures.back c.shut_all.ensures.opened c.shut_all.ensures.shut

pub returns-in_default-finish_of-clause-shut : goal.returns-in_default-finish_of-clause-shut
returns-in_default-finish_of-clause-shut g c =
    all_shut g.P.Link.Link.observed c.run_all-links.result.0.items c.in_ok-own.links.items (g.P.Ports.observed c.shut_all.new.ports)
    c.in_ok-own.ensures.opened c.in_ok-own.ensures.long c.run_all-links.ensures.back c.shut_all.ensures.opened c.shut_all.ensures.shut

pub returns-in_default-served-clause-shut : goal.returns-in_default-served-clause-shut
returns-in_default-served-clause-shut g c =
    all_shut g.P.Link.Link.observed c.run_all-links.result.0.items c.in_ok-own.links.items (g.P.Ports.observed c.shut_all.new.ports)
    c.in_ok-own.ensures.opened c.in_ok-own.ensures.long c.run_all-links.ensures.back c.shut_all.ensures.opened c.shut_all.ensures.shut

pub returns-clause-shut : goal.returns-clause-shut
returns-clause-shut g c = all_shut g.P.Link.Link.observed c.run_all-links.result.0.items c.in_ok-own.links.items
    (g.P.Ports.observed c.shut_all.new.ports)
    c.in_ok-own.ensures.opened c.in_ok-own.ensures.long c.run_all-links.ensures.back c.shut_all.ensures.opened c.shut_all.ensures.shut

pub finish_of-requires-clause-unspent : goal.finish_of-requires-clause-unspent
finish_of-requires-clause-unspent g c =
    subst (All IsUnspent) (sym c.deref-4.ensures.value) (subst (λ r. IfOk r (λ closed. All IsUnspent closed.ends.items))
    (c.in-Ok-ran.is ∙ ap Ok c.in-Ok-ran.field-0-is) c.run_all-links.ensures.unspent)

pub served-requires-clause-fit : goal.served-requires-clause-fit
served-requires-clause-fit g c = parts_fit
    (subst AreFit (sym (c.deref.ensures.value ∙ ap (λ s. s.configs) c.script.view_is)) c.requires.script.configs.fit) c.in-Ok.ensures

pub served-requires-clause-made : goal.served-requires-clause-made
served-requires-clause-made g c = cc (parts_are c.in-Ok-opened.ensures.engine.locks (cc (c.in-Ok-opened.ensures.engine.configs))
    c.in-Ok.ensures
    (subst (λ r. IfOk r (λ closed. AreClosedShards c.in-Ok-opened.engine closed.states.items))
    (c.in-Ok-ran.is ∙ ap Ok c.in-Ok-ran.field-0-is) c.run_all-links.ensures.closed))

pub returns-clause-run : goal.returns-clause-run
returns-clause-run g c =
    let observed = g.P.Link.Link.observed in let clock = g.T.Ticker.observed in let e = c.in-Ok-opened.engine in
    let ok = c.in-Ok-ran.is ∙ ap Ok c.in-Ok-ran.field-0-is in
    whole_run observed c.in_ok-own.links.items c.run_all-links.result.0.items (g.P.Ports.observed c.shut_all.new.ports)
    c.in-Ok-opened.ensures.engine (cc) (cc)
    (subst (λ r. IfOk r (λ closed. AreClosedShards e closed.states.items)) ok c.run_all-links.ensures.closed) (cc (c.in-Ok-served.ensures))
    c.in_ok-own.ensures.theirs c.in_ok-own.ensures.own c.in_ok-own.ensures.links c.in_ok-own.ensures.long c.run_all-links.ensures.back
    c.shut_all.ensures.shut
    (subst (λ r. IfOk r (λ closed. HaveRun e (history_at closed.states.items) c.deref-3.result.now (length c.in_ok-own.links.items)
    c.args.limits (observed_on_link observed c.in_ok-own.own c.in_ok-own.links.items)
    (observed_on_link observed c.run_all-links.new.own c.run_all-links.result.0.items) (clock c.args.ticker.now)
    (clock c.run_all-links.new.ticker)
    closed.ends.items closed.lost)) ok c.run_all-links.ensures.run)
    c.requires.turns c.requires.journal (subst (All HadMemory) c.deref-4.ensures.value c.in-Ok-finish_of.ensures.plain)
    (cc (c.in-Ok-finish_of.ensures.value))

pub returns-clause-opened : goal.returns-clause-opened
returns-clause-opened g c = still_open (g.P.Ports.observed c.shut_all.new.ports) c.in_ok-own.ensures.opened c.shut_all.ensures.opened
    c.shut_all.ensures.faults
