-- The discriminator is present under a name of either sort.
use Rattle.bfd_demux.proofs.Common.{◌∙◌, Session, Reflector}
use Rattle.bfd_demux.specs.contracts.name.NameOrd.TheImpl as name_order
use Rattle.bfd_demux.proofs.Indexing.{discr_first, discr_second, known_by}
use Rattle.bfd_demux.proofs.demux.Demux.has_discr.Goals as goal

pub returns-then-has_key : goal.returns-then-has_key
returns-then-has_key c = rw (← c.self.view_is)
    (c.if-has_key.true ∙ discr_first c.self.invariant c.args.discr
    (known_by name_order.ghosts.cmp (Session c.args.discr) c.as_slice-names.ensures.value c.if-has_key.ensures))

pub returns-else-has_key : goal.returns-else-has_key
returns-else-has_key c = rw (← c.self.view_is)
    (discr_second c.self.invariant c.args.discr (known_by name_order.ghosts.cmp (Session c.args.discr) c.as_slice-names.ensures.value
    c.if-has_key.ensures)
    (known_by name_order.ghosts.cmp (Reflector c.args.discr) c.as_slice-names.ensures.value c.has_key-else-has_key.ensures))
