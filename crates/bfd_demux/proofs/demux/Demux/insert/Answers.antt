-- No name is the row's, and none of the addresses, so both lists accept it in their order.
use Rattle.bfd_demux.proofs.Common.{◌∙◌, ap, refl, sym, Name, Option, Port, how_many, names_a_session}
use Rattle.bfd_demux.specs.contracts.name.NameOrd.TheImpl as name_order
use Rattle.bfd_demux.specs.contracts.row.RowKindOrd.TheImpl as kind_order
use Rattle.bfd_demux.proofs.Lookups.{missing_by}
use Rattle.bfd_demux.proofs.Indexing.{addresses_new, index_added, name_new}
use Rattle.bfd_demux.proofs.demux.Demux.insert.Goals as goal

pub insert_by_key-requires-clause-new : goal.insert_by_key-requires-clause-new
insert_by_key-requires-clause-new c =
    missing_by name_order.ghosts.cmp refl (sym c.row_name.ensures)
    (name_new c.self.invariant c.args.row.now (rw c.self.view_is c.requires.sound))

pub insert_addresses-requires-clause-new : goal.insert_addresses-requires-clause-new
insert_addresses-requires-clause-new c = λ with_addresses.
    missing_by kind_order.ghosts.cmp (sym c.in_ok-reserve.ensures.items) refl
    (addresses_new c.self.invariant c.args.row.now (rw c.self.view_is c.requires.sound) with_addresses)

pub invariant_of-self-2 : goal.invariant_of-self-2
invariant_of-self-2 c =
    let index = index_added c.self.invariant c.args.place c.args.row.now (rw c.self.view_is c.requires.place)
    (rw c.self.view_is c.requires.sound)
    c.insert_by_key.new.entries.items (λ test. rw (← c.row_name.ensures, ← c.heard_on.ensures) (c.in_ok-insert_by_key.ensures.same test))
    c.in_ok-insert_by_key.ensures.ascending
    c.insert_addresses.new.addresses.items (λ test. rw (← c.in_ok-reserve.ensures.items) (c.insert_addresses.ensures.same test))
    c.insert_addresses.ensures.ascending
    c.count_sessions-self-inside.result
    (c.count_sessions-self-inside.ensures ∙ ap (how_many (λ (entry : Name × Option Port). names_a_session entry.0)) c.deref.ensures.value)
    in
    rw c.inserted.ensures index
