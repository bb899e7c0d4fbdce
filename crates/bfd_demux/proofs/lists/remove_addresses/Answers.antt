use Rattle.bfd_demux.proofs.Common.{arith, ◌==◌, Reflect}
use Rattle.bfd_demux.proofs.Changing.{found_within, found_out, none_out}
use Rattle.bfd_demux.proofs.lists.remove_addresses.Goals as goal

pub remove-requires : goal.remove-requires
remove-requires c =
    let within = found_within (λ entry. entry.1 == c.args.discr) c.args.addresses.now.items c.in-Some.slot (Reflect, 0)
    (rw c.deref.ensures.value at c.in-Some.ensures) in
    omega arith

pub returns-in-Some : goal.returns-in-Some
returns-in-Some c = rw c.remove.ensures.items
    (found_out (λ entry. entry.1 == c.args.discr) c.args.addresses.now.items c.in-Some.slot (Reflect, 0)
    (rw c.deref.ensures.value at c.in-Some.ensures) c.requires)

pub returns-in_default : goal.returns-in_default
returns-in_default c = none_out (λ entry. entry.1 == c.args.discr) c.args.addresses.now.items
    (rw c.deref.ensures.value at c.in_default.ensures)
