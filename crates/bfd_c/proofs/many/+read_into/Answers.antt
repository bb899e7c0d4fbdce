-- Without a place all stays.
use Rattle.std.proofs.Common.{rules, ◌≡◌, length}
use Rattle.bfd_c.proofs.Handing.{no_place}
use Rattle.bfd_c.proofs.many.+read_into.Goals as goal

pub returns-in_default-clause-reported : goal.returns-in_default-clause-reported
returns-in_default-clause-reported t c =
    let none : length c.args.places.now ≡ 0 = search rules in
    no_place c.args.engine.now.left c.args.places.now none
