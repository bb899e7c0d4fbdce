-- Pieces of a report that are distributed over parts.
use Rattle.std.specs.Prelude.{ℕ, ◌≡◌, ◌⊎◌, ◌<◌, ◌==◌, true, List, [], ◌∷◌, length, map, slice_index_or, sum_by}
use Rattle.std.specs.List.{AllByRecursion, filter, flat_map}
use Rattle.bfd_replay.specs.Pieces.{Piece, precedes}

-- a piece, and the part that has it
pub record Dealt : Type 0 where
  pub part : ℕ
  pub piece : Piece

abbrev pub deal : ℕ → Piece → Dealt
deal part piece = record { part = part; piece = piece }

-- the pieces that this part has, in their order
abbrev pub pieces_in : ℕ → List Dealt → List Piece
pieces_in part dealt = map (λ d. d.piece) (filter (λ d. d.part == part) dealt)

-- of two pieces one is before the other: they are of one part, which has them in their order, or their keys say so
abbrev pub IsBefore : Dealt → Dealt → Type 0
IsBefore d later = (d.part ≡ later.part) ⊎ (precedes d.piece.key later.piece.key ≡ true)

-- each piece is before all later ones
abbrev pub Ordered : List Dealt → Type 0
Ordered [] = Unit {0}
Ordered (d ∷ rest) = AllByRecursion (IsBefore d) rest × Ordered rest

-- the parts have these pieces, which stand in the order of the report
pub record IsSpread (dealt : List Dealt) (parts : List (List Piece)) : Type 0 where
  pub each : (part : ℕ) → part < length parts → slice_index_or parts part [] ≡ pieces_in part dealt
  pub within : AllByRecursion (λ d. d.part < length parts) dealt
  pub ordered : Ordered dealt

-- their text
abbrev pub dealt_text : List Dealt → List ℕ
dealt_text dealt = flat_map (λ d. d.piece.text) dealt

-- the text of the parts' pieces in the order of the report, and how many packets they report as sent and as dropped
abbrev pub Gathers : List (List Piece) → List ℕ → ℕ → ℕ → Type 0
Gathers parts text txs drops = (dealt : List Dealt) → IsSpread dealt parts
    → (text ≡ dealt_text dealt) × (txs ≡ sum_by (λ d. d.piece.txs) dealt) × (drops ≡ sum_by (λ d. d.piece.drops) dealt)

-- taken in the order of the report, the parts' pieces are these
pub record AreGathered (parts : List (List Piece)) (pieces : List Piece) : Type 0 where
  pub dealt : List Dealt
  pub spread : IsSpread dealt parts
  pub pieces_are : map (λ d. d.piece) dealt ≡ pieces
