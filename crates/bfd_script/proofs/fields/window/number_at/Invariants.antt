use Rattle.bfd_script.proofs.FieldsCommon.{◌≡◌, ◌+◌, ◌-◌, ◌<◌, ◌≤◌, slice_index}
use Rattle.bfd_script.specs.Windows.{HasNumber}
use Rattle.bfd_script.proofs.fields.window.number_at.Given as goal

-- the number so far; a digit that comes next may follow it
abbrev pub invariant-loop-next : goal.invariant-loop-next
invariant-loop-next l = HasNumber l.text l.from l.at l.n × (l.at ≤ l.from + l.most) × (l.from < l.at)
    × (l.next ≤ 9 → (0 < l.n) × (slice_index l.text l.at ≡ 48 + l.next))

abbrev pub decreases-loop-next : goal.decreases-loop-next
decreases-loop-next l = l.from + l.most + 1 - l.at
