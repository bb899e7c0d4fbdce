use Rattle.bfd_script.proofs.Common.{sym, ap, ◌∙◌, option_copied_mut, keyed_with}
use Rattle.bfd_script.proofs.Giving.{entries_changed, entries_kept, with_keeps}
use Rattle.bfd_script.proofs.rows.give.Goals as goal

-- no session has the discriminator
pub returns-in_default : goal.returns-in_default
returns-in_default c = rw (c.get_mut.follows.holds-at-none)
    (entries_kept (keyed_with c.args.keys) c.args.discr c.requires
    (sym (ap (λ r. option_copied_mut r) c.in_default.is) ∙ c.get_mut.ensures.value))

-- the session that has it got the keys
pub returns : goal.returns
returns c = entries_changed (with_keeps c.args.keys) c.args.discr c.requires
    (sym (ap (λ r. option_copied_mut r) c.in-Some.is) ∙ c.get_mut.ensures.value) c.set_keys.ensures
    (c.get_mut.follows.holds c.set_keys.new.config).0
