use Rattle.bfd_script.proofs.Common.{◌∙◌, ap, refl, subst, sym, values_of, place_of, keyed_with, Ascends}
use Rattle.bfd_script.proofs.Giving.{with_keeps}
use Rattle.bfd_script.proofs.Rising.{changed_at, changed_past_rising, rising_alone}
use Rattle.bfd_script.proofs.rows.Rows.give.Goals as goal

pub place_of-requires : goal.place_of-requires
place_of-requires c =
    record {
      ascends = subst Ascends (sym c.deref.ensures.value)
          (rising_alone c.self.inside.rising.items (values_of c.self.inside.others.entries) c.self.invariant.ascends);
    }

-- one that rose became another
pub invariant_of-self : goal.invariant_of-self
invariant_of-self c = (changed_at (with_keeps c.args.keys) c.args.discr c.index_mut.result.now
    c.self.invariant (ap (place_of c.args.discr) (sym c.deref.ensures.value) ∙ sym c.place_of.ensures.value ∙ c.in-Some.is)
    (c.set_keys.ensures ∙ ap (keyed_with c.args.keys) c.index_mut.ensures.value) refl).rows

pub returns-in-Some : goal.returns-in-Some
returns-in-Some c = cc ((changed_at (with_keeps c.args.keys) c.args.discr c.index_mut.result.now
    c.self.invariant (ap (place_of c.args.discr) (sym c.deref.ensures.value) ∙ sym c.place_of.ensures.value ∙ c.in-Some.is)
    (c.set_keys.ensures ∙ ap (keyed_with c.args.keys) c.index_mut.ensures.value) refl).entries)

-- one of the others did
pub invariant_of-self-in-None : goal.invariant_of-self-in-None
invariant_of-self-in-None c = (changed_past_rising (with_keeps c.args.keys) c.args.discr
    c.self.invariant (ap (place_of c.args.discr) (sym c.deref.ensures.value) ∙ sym c.place_of.ensures.value ∙ c.in-None.is)
    c.give.ensures).rows

pub returns-in-None : goal.returns-in-None
returns-in-None c = cc ((changed_past_rising (with_keeps c.args.keys) c.args.discr
    c.self.invariant (ap (place_of c.args.discr) (sym c.deref.ensures.value) ∙ sym c.place_of.ensures.value ∙ c.in-None.is)
    c.give.ensures).entries)
