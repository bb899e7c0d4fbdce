-- As many names are sessions' as rows are.
use Rattle.bfd_demux.proofs.Common.{◌∙◌, ap, how_many, names_a_session, Name, Option, Port}
use Rattle.bfd_demux.specs.Index.{AreNames, AreAddresses}
use Rattle.bfd_demux.proofs.Changing.{sessions_named}
use Rattle.bfd_demux.proofs.demux.Demux.of_lists.Goals as goal

pub invariant_of-result : goal.invariant_of-result
invariant_of-result c =
    let names : AreNames c.args.rows.items c.names.inside.list.items = rw c.names.view_is c.requires.names in
    let addresses : AreAddresses c.args.rows.items c.addresses.inside.list.items = rw c.addresses.view_is c.requires.addresses in
    rw c.of.ensures (record {
      sound = c.requires.sound;
      by_name = names;
      by_addresses = addresses;
      counted = c.count_sessions.ensures ∙ ap (how_many (λ (entry : Name × Option Port). names_a_session entry.0)) c.deref-3.ensures.value
          ∙ sessions_named c.args.rows.items c.names.inside.list.items names.named;
    })
