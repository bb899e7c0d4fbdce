-- What a part keeps, and how the parts' first pieces are looked at.
use Rattle.std.specs.Prelude.{ℕ, ◌≡◌, ◌≢◌, ◌≤◌, ◌<◌, ◌+◌, ◌/◌, ◌%◌, ◌^◌, false, List, [], ◌∷◌, length, take, drop, map, slice_index_or}
use Rattle.std.specs.Prelude.{sum_by, Option, None, Some}
use Rattle.std.specs.List.{AllByRecursion}
use Rattle.bfd_replay.specs.declared.report.key.Key.{Key}
use Rattle.bfd_replay.specs.declared.report.key.Mark.{Mark}
use Rattle.bfd_replay.specs.Pieces.{Piece, key, precedes}

-- the key of a mark, and the mark with this key, of so many bytes of text and so many packets
abbrev pub mark_key : Mark → Key
mark_key m = key m.event m.discr

abbrev pub mark : Key → ℕ → ℕ → ℕ → Mark
mark k long txs drops = record { event = k.event; discr = k.discr; long = long; txs = txs; drops = drops }

-- the pieces of these marks, whose text this is
abbrev pub pieces_at : List Mark → List ℕ → List Piece
pieces_at [] text = []
pieces_at (m ∷ rest) text =
    record { key = mark_key m; text = take m.long text; txs = m.txs; drops = m.drops } ∷ pieces_at rest (drop m.long text)

-- the mark of a piece
abbrev pub mark_of : Piece → Mark
mark_of p = mark p.key (length p.text) p.txs p.drops

-- marks that have all of the text; each packet that one counts has a byte of text
pub record IsPart (marks : List Mark) (text : List ℕ) : Type 0 where
  pub whole : sum_by (λ m. m.long) marks ≡ length text
  pub counts : AllByRecursion (λ m. m.txs + m.drops ≤ m.long) marks

-- the key of the first piece, if there is one
abbrev pub first_key : List Piece → Option Key
first_key [] = None
first_key (p ∷ rest) = Some p.key

abbrev pub first_text : List Piece → List ℕ
first_text [] = []
first_text (p ∷ rest) = p.text

abbrev pub first_txs : List Piece → ℕ
first_txs [] = 0
first_txs (p ∷ rest) = p.txs

abbrev pub first_drops : List Piece → ℕ
first_drops [] = 0
first_drops (p ∷ rest) = p.drops

-- the key whose rank this is: the event's number is in the upper 32 bits, the discriminator in the lower ones
abbrev pub rank_key : ℕ → Key
rank_key rank = key (rank / 2 ^ 32) (rank % 2 ^ 32)

abbrev pub head_key : Option ℕ → Option Key
head_key None = None
head_key (Some rank) = Some (rank_key rank)

-- the first keys of parts, one each, whose ranks these are
abbrev pub keys : List (Option ℕ) → List (Option Key)
keys heads = map head_key heads

-- heads are first keys of parts: the part s begins with a piece that none of the others' first pieces precedes
pub record IsLeast (heads : List (Option Key)) (s : ℕ) : Type 0 where
  pub inside : s < length heads
  pub key : Key
  pub there : slice_index_or heads s None ≡ Some key
  pub least : (r : ℕ) (other : Key) → r < length heads → slice_index_or heads r None ≡ Some other → precedes other key ≡ false

-- no other part than s has a piece
pub record HasAll (heads : List (Option Key)) (s : ℕ) : Type 0 where
  pub inside : s < length heads
  pub others : (r : ℕ) → r < length heads → r ≢ s → slice_index_or heads r None ≡ None
