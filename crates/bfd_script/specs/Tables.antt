-- What a table of sessions, and a pool of reflectors, keep true of their indices.
use Rattle.std.specs.Prelude.{◌≡◌, ◌≤◌, ◌+◌, ◌++◌, ℕ, Bool, false, List, length}
use Rattle.std.specs.List.{AllByRecursion, list_any}
use Rattle.std.specs.Map.{values_of}
use Rattle.std.specs.Ordering.{is_eq, is_gt}
use Rattle.bfd_sbfd.specs.declared.reflecting.Reflector.{Reflector}
use Rattle.bfd_session.specs.Rows.{Ascends}
use Rattle.bfd_session.specs.declared.event.SessionConfig.{SessionConfig}
use Rattle.bfd_demux.specs.contracts.row.RowKindOrd.TheImpl as order
use Rattle.bfd_demux.specs.declared.row.RowKind.{RowKind}
use Rattle.bfd_script.specs.Rows.{by_discr, has_selector, pool_by_discr}
use Rattle.bfd_script.specs.declared.line.entries.Line.{Line}
use Rattle.bfd_script.specs.Sound.{AreApart, AreConfigs, AreEvents, AreNamed, ArePool}

-- one of these kinds compares equal to this one
abbrev pub among : List RowKind → RowKind → Bool
among kinds q = list_any (λ k. is_eq (order.ghosts.cmp q k)) kinds

-- none of these kinds is above this one
abbrev pub AreUpTo : RowKind → List RowKind → Type 0
AreUpTo greatest kinds = AllByRecursion (λ k. is_gt (order.ghosts.cmp k greatest) ≡ false) kinds

-- the sessions that came in order, and the entries of the others, each above the one before it
pub record AreRows (rising : List SessionConfig) (others : List (ℕ × SessionConfig)) : Type 0 where
  pub keyed : others ≡ by_discr (values_of others)
  pub ascends : Ascends (rising ++ values_of others)
  pub few : length rising + length others ≤ 65536

-- the entries are those of the sessions by discriminator, and the set has exactly their selecting addresses
pub record IsIndexed (entries : List (ℕ × SessionConfig)) (has : RowKind → Bool) : Type 0 where
  pub keyed : entries ≡ by_discr (values_of entries)
  pub places : (q : RowKind) → has q ≡ has_selector q (values_of entries)
  pub configs : AreConfigs (values_of entries)

-- the entries are those of the reflectors by discriminator
pub record IsPool (entries : List (ℕ × Reflector)) : Type 0 where
  pub keyed : entries ≡ pool_by_discr (values_of entries)
  pub reflectors : ArePool (values_of entries)

-- what holds from line to line: all that a script of these requires, except what the sessions and the reflectors each require alone
pub record IsReading (configs : List SessionConfig) (reflectors : List Reflector) (lines : List Line) : Type 0 where
  pub apart : AreApart configs reflectors
  pub few : length configs + length reflectors ≤ 65536
  pub events : AreEvents lines
  pub named : AreNamed configs lines
