use Rattle.bfd_script.proofs.Common.{◌∙◌, ap, subst, sym, values_of, place_of, Ascends}
use Rattle.bfd_script.proofs.Rising.{look_at, look_past, rising_alone}
use Rattle.bfd_script.proofs.rows.Rows.get.Goals as goal

pub place_of-requires : goal.place_of-requires
place_of-requires c =
    record {
      ascends = subst Ascends (sym c.deref.ensures.value)
          (rising_alone c.self.inside.rising.items (values_of c.self.inside.others.entries) c.self.invariant.ascends);
    }

-- it is among those that rise
pub returns-in-Some : goal.returns-in-Some
returns-in-Some c = cc (look_at c.args.discr c.self.inside.rising.items c.self.inside.others.entries c.index.result.now
    (ap (place_of c.args.discr) (sym c.deref.ensures.value) ∙ sym c.place_of.ensures.value ∙ c.in-Some.is))

-- it is among the others
pub returns-in-None : goal.returns-in-None
returns-in-None c = cc (look_past c.args.discr c.self.inside.rising.items c.self.inside.others.entries (cc (c.in-None.is)))
