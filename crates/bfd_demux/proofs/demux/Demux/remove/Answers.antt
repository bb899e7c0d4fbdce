-- Each list keeps the entries of the other discriminators.
use Rattle.bfd_demux.proofs.Common.{◌∙◌, ap, how_many, names_a_session, Name, Option, Port}
use Rattle.bfd_demux.proofs.Indexing.{addressed_once, index_removed, named_once}
use Rattle.bfd_demux.proofs.demux.Demux.remove.Goals as goal

pub remove_name-requires : goal.remove_name-requires
remove_name-requires c = named_once c.self.invariant c.args.discr

pub remove_addresses-requires : goal.remove_addresses-requires
remove_addresses-requires c = addressed_once c.self.invariant c.args.discr

pub invariant_of-self : goal.invariant_of-self
invariant_of-self c =
    rw (c.removed.ensures, c.remove_name.ensures, c.remove_addresses.ensures)
    (index_removed c.self.invariant c.args.place c.args.discr (rw c.self.view_is c.requires.within)
    (λ d. rw c.self.view_is (c.requires.its d)) c.count_sessions-self-inside.result
    (c.count_sessions-self-inside.ensures ∙ ap (how_many (λ (entry : Name × Option Port). names_a_session entry.0))
    (c.deref.ensures.value ∙ c.remove_name.ensures)))
