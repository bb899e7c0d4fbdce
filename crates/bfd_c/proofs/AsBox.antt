-- A box of an engine, in its parts and behind a handle: all three own the same.
use Rattle.bfd_c.proofs.Common.{impl, tnil, dnil, Slot, plain, Bx, []}
use Rattle.std_heap.specs.contracts.Global as Heap
use Rattle.std_heap.specs.contracts.GlobalAllocator.TheImpl.{ghosts, dict}
use Rattle.std_heap.proofs.Global.TheLaws as heap
use Rattle.bfd_c.specs.contracts.engine.Engine as Home
use Rattle.bfd_c.proofs.engine.Engine.TheLaws as home
use Rattle.bfd_c.specs.contracts.apart.Apart
use Rattle.bfd_c.specs.contracts.owned.Owned as Kept

abbrev pub E : Bx
E = record {
  row = Home.the_row;
  laws = home.the_row_laws;
  al = record { row = Heap.the_row; laws = heap.the_row_laws; g = ghosts; d = dict; drops = impl [] tnil dnil };
}

abbrev pub FromApart : Slot 0
FromApart = plain (λ _. Apart.the_row Home.the_row Heap.the_row ghosts)

abbrev pub FromKept : Slot 0
FromKept = plain (λ _. Kept.the_row)
