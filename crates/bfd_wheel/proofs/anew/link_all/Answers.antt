use Rattle.bfd_wheel.proofs.Linking.{nothing_put}
use Rattle.bfd_wheel.proofs.anew.link_all.Goals as goal

pub put_all-requires : goal.put_all-requires
put_all-requires c = rw c.deref_mut.ensures.value (nothing_put c.args.dues.now c.loops_again.new.nodes.items c.requires.few c.requires.now
    c.loops_again.ensures.size c.loops_again.ensures.next c.loops_again.ensures.prev)
