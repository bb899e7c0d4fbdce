-- A world begins with the table of its sessions.
use Rattle.bfd_instance.proofs.Common.{◌∙◌, ◌+◌, ◌*◌, length, ap}
use Rattle.bfd_instance.proofs.Stages.{stage_opened}
use Rattle.bfd_instance.proofs.instance.Instance.open.Goals as goal

pub invariant_of-result : goal.invariant_of-result
invariant_of-result g c = stage_opened c.args.configs.items c.args.pool.items c.in_ok-outs.outs c.requires c.in_ok-sessions.ensures.sessions
    c.in_ok-table.ensures
    (ap (λ o. o.room) c.in_ok-outs.ensures ∙ ap (λ cs. 5 * length cs + 5) c.as_slice.ensures.value)
