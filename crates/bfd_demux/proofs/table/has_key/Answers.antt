use Rattle.bfd_demux.proofs.Changing.{key_there}
use Rattle.bfd_demux.proofs.table.has_key.Goals as goal

pub returns : goal.returns
returns g c = key_there g.met.K.Ord.total c.args.entries.now c.args.key.now c.slot_of.result _ c.slot_of.ensures c.is_ok.ensures.value
