use Rattle.bfd_demux.proofs.Common.{◌≡◌, true, take, drop, get, position_from, RowKind, first_repeat, repeat_after, same_addresses}
use Rattle.bfd_demux.proofs.Common.{same_selector, has_addresses}
use Rattle.bfd_demux.specs.contracts.row.RowKindOrd.TheImpl as kinds
use Rattle.bfd_demux.proofs.repeats.search_addresses.Given as goal

abbrev pub invariant-loop-place : goal.invariant-loop-place
invariant-loop-place l = (repeat_after same_addresses (take l.place l.rows) (drop l.place l.rows) ≡ first_repeat same_addresses l.rows)
    × ((q : RowKind) → has_addresses q ≡ true → get kinds.ghosts.cmp l.first q
    ≡ position_from (λ row. same_selector q row.kind) 0 (take l.place l.rows))
