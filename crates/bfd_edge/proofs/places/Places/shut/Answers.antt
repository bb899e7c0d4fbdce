use Rattle.std.proofs.Common.{arith}
use Rattle.bfd_edge.specs.declared.places.Place.TheVariants.{Shut}
use Rattle.bfd_edge.proofs.Placing.{opened_inside, set_place}
use Rattle.bfd_edge.proofs.places.Places.shut.Goals as goal

pub index_mut-requires : goal.index_mut-requires
index_mut-requires g c = omega (arith, opened_inside c.self.inside.places.items c.args.number (cc))

pub returns : goal.returns
returns g c = cc (set_place c.self.inside.places.items (Shut c.args.kept) (opened_inside c.self.inside.places.items c.args.number (cc)))
