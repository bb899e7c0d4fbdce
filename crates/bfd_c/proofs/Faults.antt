-- Out of memory is reported only when there is no fault.
use Rattle.bfd_c.proofs.Common.{◌≡◌, Bool, None, Option, Some, false, refl, true}
use Rattle.std.proofs.Common.{List, arith, if◌then◌else◌, inl, inr, length, nat_le, ◌⊎◌}
use Rattle.std.specs.Prelude.{◌==◌}
use Rattle.std.specs.List.{list_any}
use Rattle.bfd_demux.specs.declared.fault.AddFault.{AddFault}
use Rattle.bfd_demux.specs.declared.fault.AddFault.TheVariants.{TooMany, ZeroDiscr, SameDiscr, SameAddresses, Memory}
use Rattle.bfd_demux.specs.declared.row.Row.{Row}
use Rattle.bfd_demux.specs.Rows.{add_fault, same_addresses, same_discr}
use Rattle.bfd_instance.specs.World.{World}
use Rattle.bfd_c.specs.declared.records.kept.Record.{Record}
use Rattle.bfd_c.specs.Engines.{Instance}
use Rattle.bfd_c.specs.Joining.{add_code, unless}

no_memory_by : (many zero d a : Bool) → (if many then Some TooMany else if zero then Some ZeroDiscr else if d then Some SameDiscr else
    if a then Some SameAddresses else None) ≡ Some Memory → ⊥
no_memory_by true zero d a e = cc
no_memory_by false true d a e = cc
no_memory_by false false true a e = cc
no_memory_by false false false true e = cc
no_memory_by false false false false e = cc

-- a row has other faults than memory
pub no_memory : (row : Row) (rows : List Row) → add_fault row rows ≡ Some Memory → ⊥
no_memory row rows e = no_memory_by (nat_le 65536 (length rows)) (row.discr == 0) (list_any (same_discr row) rows)
    (list_any (same_addresses row) rows) e

pub memory_last : (found : Option AddFault) (fault : AddFault) (w : World) (rs : List Record) (e : Instance)
    → ((fault ≡ Memory) × (found ≡ None)) ⊎ (found ≡ Some fault) → (found ≡ Some Memory → ⊥)
    → add_code fault ≡ 2 → (unless found w rs e).1 ≡ 0
memory_last found fault w rs e (inl h) not_memory two = rw h.1 refl
memory_last found TooMany w rs e (inr h) not_memory two = (let other : 9 ≡ 2 = two in absurd (omega (arith, other)))
memory_last found ZeroDiscr w rs e (inr h) not_memory two = (let other : 3 ≡ 2 = two in absurd (omega (arith, other)))
memory_last found SameDiscr w rs e (inr h) not_memory two = (let other : 7 ≡ 2 = two in absurd (omega (arith, other)))
memory_last found SameAddresses w rs e (inr h) not_memory two = (let other : 8 ≡ 2 = two in absurd (omega (arith, other)))
memory_last found Memory w rs e (inr h) not_memory two = absurd (not_memory h)
