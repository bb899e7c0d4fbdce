use Rattle.bfd_demux.proofs.Ascending.{how_many-IsPermutation}
use Rattle.bfd_demux.proofs.Once.{addresses_once}
use Rattle.bfd_demux.proofs.lists.Addresses.of.Goals as goal

pub returns : goal.returns
returns c = record {
  addressed = rw (← c.in_ok-list.ensures) (λ test. how_many-IsPermutation test c.sort_by_key.ensures.permutation);
  addresses_ascend = c.sort_by_key.ensures.ascending (rw c.in_ok-list.ensures (addresses_once c.args.rows.now c.requires));
}
