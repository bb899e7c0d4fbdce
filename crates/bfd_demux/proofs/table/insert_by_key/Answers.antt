-- No entry has the key, so the search gives the place for it.
use Rattle.bfd_demux.proofs.Common.{sym, refl, ◌∙◌, Ok, true}
use Rattle.bfd_demux.proofs.Ascending.{how_many-cons}
use Rattle.bfd_demux.proofs.Changing.{ascending_inserted, how_many-insert, key_there}
use Rattle.bfd_demux.proofs.table.insert_by_key.Goals as goal

pub unreachable-requires : goal.unreachable-requires
unreachable-requires g c =
    let there = key_there g.met.K.Ord.total c.deref.result.now c.args.entry.0 (Ok c.in_default.field-0) true c.in_default.ensures refl in
    let also = rw c.deref.ensures.value at there in
    cc (also, c.requires.new)

pub returns-in-Ok-clause-ascending : goal.returns-in-Ok-clause-ascending
returns-in-Ok-clause-ascending g c = rw c.in-Ok.ensures.items
    (ascending_inserted g.met.K.Ord.total c.args.entries.now.items c.in-Err.place c.args.entry c.requires.ascending
    (rw c.deref.ensures.value at c.in-Err.ensures))

pub returns-in-Ok-clause-same : goal.returns-in-Ok-clause-same
returns-in-Ok-clause-same g c = λ test. rw c.in-Ok.ensures.items
    (how_many-insert test c.args.entries.now.items c.in-Err.place c.args.entry
    ∙ sym (how_many-cons test c.args.entry c.args.entries.now.items))
