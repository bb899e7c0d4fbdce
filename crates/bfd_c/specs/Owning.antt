-- What a handle owns: nothing, or the same as a box of an engine.
use Rattle.std.specs.Prelude.{Option, None, Some}
use base.Fml.{Fml, ftrue}
use denote.RawPtr.{Ptr}
use Rattle.std.specs.Box.Ownership.{box_owns}
use Rattle.std.specs.Global.{Global}
use Rattle.std_heap.specs.contracts.GlobalAllocator.TheImpl.{ghosts}
use Rattle.bfd_c.specs.Engines.{Instance}
use Rattle.bfd_c.specs.contracts.engine.Engine.{the_row}

abbrev pub kept_owns : Global → Ptr → Option Instance → Fml
kept_owns alloc p None = ftrue
kept_owns alloc p (Some engine) = box_owns (ghosts.dealloc_token alloc) the_row p engine
