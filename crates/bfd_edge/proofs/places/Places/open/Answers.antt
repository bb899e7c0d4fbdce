use Rattle.std.proofs.Common.{rules, ◌<◌, length}
use Rattle.bfd_edge.specs.declared.places.Place.TheVariants.{Opened}
use Rattle.bfd_edge.proofs.Placing.{on_err, set_place}
use Rattle.bfd_edge.proofs.places.Places.open.Goals as goal

pub returns-in_err-reach-clause-err : goal.returns-in_err-reach-clause-err
returns-in_err-reach-clause-err g c = on_err c.from_residual.result _ (cc)

pub returns-clause-ok : goal.returns-clause-ok
returns-clause-ok g c =
    let inside : c.args.number < length c.reach.new.places.items = search rules in
    cc (set_place c.reach.new.places.items Opened inside)
