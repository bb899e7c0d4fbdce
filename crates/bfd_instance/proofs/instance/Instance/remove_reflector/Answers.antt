-- Where no reflector has the discriminator, none leaves.
use Rattle.bfd_instance.proofs.Common.{Reflector, List, ap, world_of}
use Rattle.bfd_instance.specs.Stage.{Stage}
use Rattle.bfd_instance.proofs.Joining.{pool_same}
use Rattle.bfd_instance.proofs.instance.Instance.remove_reflector.Goals as goal

pub returns-clause-same : goal.returns-clause-same
returns-clause-same g c = λ none.
    let e = c.remove_reflector.ensures in
    let stage : List Reflector → Stage = λ pool. record {
      world = world_of c.self.inside.sessions.sessions pool c.self.inside.sessions.last;
      items = c.self.inside.outs.items;
    } in
    rw (← c.self.view_is) (ap stage (pool_same c.self.inside.table c.args.discr e.value e.table none))
