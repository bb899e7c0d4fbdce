-- With a session its record comes, or neither.
use Rattle.std.proofs.Common.{refl}
use Rattle.bfd_session.specs.Changes.{place_for}
use Rattle.bfd_session.specs.Kinds.{configs_of, discr_of}
use Rattle.bfd_c.proofs.Keeping.{one_in}
use Rattle.bfd_c.proofs.Undoing.{undone}
use Rattle.bfd_c.proofs.records.recorded.Recorded.add.Goals as goal

pub invariant_of-self-in-Ok : goal.invariant_of-self-in-Ok
invariant_of-self-in-Ok g c =
    let e = c.in_ok-place.ensures in
    let ss = c.self.inside.instance.world.sessions in
    rw (c.in-Ok.ensures.items, e.world, c.fresh-kept.ensures, e.place)
    (one_in c.self.inside.records.items ss (place_for (discr_of c.args.config) (configs_of ss)) c.args.config c.self.invariant)

pub invariant_of-self-in-Err : goal.invariant_of-self-in-Err
invariant_of-self-in-Err g c =
    let e = c.in_ok-place.ensures in
    rw (
      c.in-Err.ensures.items,
      c.remove.ensures.world,
      e.world,
      c.discr-discr.ensures,
      undone c.args.config c.self.inside.instance.world e.fault,
    )
    c.self.invariant

pub returns-in-Err-clause-same : goal.returns-in-Err-clause-same
returns-in-Err-clause-same g c =
    let e = c.in_ok-place.ensures in
    rw (
      ← c.self.view_is,
      c.in-Err.ensures.items,
      c.remove.ensures.world,
      c.remove.ensures.items,
      e.world,
      e.items,
      c.discr-discr.ensures,
      undone c.args.config c.self.inside.instance.world e.fault,
    )
    refl
