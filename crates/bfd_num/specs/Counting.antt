-- The blank that steps are counted from.
use Rattle.std.specs.Prelude.{◌≡◌, ◌<◌, ℕ}

-- a blank of this name and so many parts is the ledger's own, and has at least one part to count with
abbrev pub IsBlankOf : ℕ → ℕ → ℕ → ℕ → Type 0
IsBlankOf ledger ledger_parts name parts = (name ≡ ledger) × (parts ≡ ledger_parts) × (0 < parts)
