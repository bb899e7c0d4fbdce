use Rattle.bfd_script.proofs.Common.{◌∙◌, ◌==◌, ap, refl, subst, sym, Some, values_of, find, discr_of, place_of, SessionConfig, keyed_more}
use Rattle.bfd_script.proofs.Common.{keys_in, Ascends, key_fault}
use Rattle.bfd_script.proofs.Giving.{more_keeps}
use Rattle.bfd_script.proofs.Rising.{changed_at, changed_past_rising, find_at, find_past, rising_alone}
use Rattle.bfd_script.proofs.rows.Rows.give_more.Goals as goal

pub place_of-requires : goal.place_of-requires
place_of-requires c =
    record {
      ascends = subst Ascends (sym c.deref.ensures.value)
          (rising_alone c.self.inside.rising.items (values_of c.self.inside.others.entries) c.self.invariant.ascends);
    }

-- one that rose became another
pub invariant_of-self : goal.invariant_of-self
invariant_of-self c = (changed_at (more_keeps c.args.key) c.args.discr c.index_mut.result.now
    c.self.invariant (ap (place_of c.args.discr) (sym c.deref.ensures.value) ∙ sym c.place_of.ensures.value ∙ c.in-Some.is)
    (c.add_key.ensures ∙ ap (keyed_more c.args.key) c.index_mut.ensures.value) refl).rows

pub returns-in-Some : goal.returns-in-Some
returns-in-Some c = cc ((changed_at (more_keeps c.args.key) c.args.discr c.index_mut.result.now
    c.self.invariant (ap (place_of c.args.discr) (sym c.deref.ensures.value) ∙ sym c.place_of.ensures.value ∙ c.in-Some.is)
    (c.add_key.ensures ∙ ap (keyed_more c.args.key) c.index_mut.ensures.value) refl).entries)

-- one of the others did
pub invariant_of-self-in-None : goal.invariant_of-self-in-None
invariant_of-self-in-None c = (changed_past_rising (more_keeps c.args.key) c.args.discr
    c.self.invariant (ap (place_of c.args.discr) (sym c.deref.ensures.value) ∙ sym c.place_of.ensures.value ∙ c.in-None.is)
    c.give_more.ensures).rows

pub returns-in-None : goal.returns-in-None
returns-in-None c = cc ((changed_past_rising (more_keeps c.args.key) c.args.discr
    c.self.invariant (ap (place_of c.args.discr) (sym c.deref.ensures.value) ∙ sym c.place_of.ensures.value ∙ c.in-None.is)
    c.give_more.ensures).entries)

-- it has room for the key
pub add_key-requires : goal.add_key-requires
add_key-requires c = ap (λ o. key_fault (keys_in o) c.args.key) (ap (λ x. Some x) c.index_mut.ensures.value
    ∙ sym (find_at c.args.discr c.self.inside.rising.items c.self.inside.others.entries c.index_mut.result.now
    (ap (place_of c.args.discr) (sym c.deref.ensures.value) ∙ sym c.place_of.ensures.value ∙ c.in-Some.is))
    ∙ ap (λ es. find (λ (x : SessionConfig). c.args.discr == discr_of x) (values_of es)) c.self.view_is) ∙ c.requires

pub give_more-requires-clause-room : goal.give_more-requires-clause-room
give_more-requires-clause-room c = cc (find_past c.args.discr c.self.inside.rising.items c.self.inside.others.entries (cc (c.in-None.is)))
