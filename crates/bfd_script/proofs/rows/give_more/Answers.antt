use Rattle.bfd_script.proofs.Common.{sym, ap, ◌∙◌, option_copied_mut, keyed_more}
use Rattle.bfd_script.proofs.Giving.{entries_changed, entries_kept, found_room, more_keeps}
use Rattle.bfd_script.proofs.rows.give_more.Goals as goal

-- no session has the discriminator
pub returns-in_default : goal.returns-in_default
returns-in_default c = rw (c.get_mut.follows.holds-at-none)
    (entries_kept (keyed_more c.args.key) c.args.discr c.requires.entries
    (sym (ap (λ r. option_copied_mut r) c.in_default.is) ∙ c.get_mut.ensures.value))

-- the session that has it got one more key
pub returns : goal.returns
returns c = entries_changed (more_keeps c.args.key) c.args.discr c.requires.entries
    (sym (ap (λ r. option_copied_mut r) c.in-Some.is) ∙ c.get_mut.ensures.value) c.add_key.ensures
    (c.get_mut.follows.holds c.add_key.new.config).0

-- it has room for the key
pub add_key-requires : goal.add_key-requires
add_key-requires c = found_room c.args.discr c.args.key c.requires.entries
    (sym (ap (λ r. option_copied_mut r) c.in-Some.is) ∙ c.get_mut.ensures.value) c.requires.room
