use Rattle.bfd_demux.proofs.Ascending.{how_many-IsPermutation}
use Rattle.bfd_demux.proofs.Once.{names_once}
use Rattle.bfd_demux.proofs.lists.Names.of.Goals as goal

pub returns : goal.returns
returns c = record {
  named = rw (← c.in_ok-list.ensures) (λ test. how_many-IsPermutation test c.sort_by_key.ensures.permutation);
  names_ascend = c.sort_by_key.ensures.ascending (rw c.in_ok-list.ensures (names_once c.args.rows.now c.requires));
}
