-- What shards report of their events, in pieces of text.
use Rattle.std.specs.Prelude.{ℕ, ◌&&◌, ◌||◌, ◌==◌, Bool, List, [], ◌∷◌, nat_lt, map}
use Rattle.std.specs.List.{flat_map}
use Rattle.bfd_rules.specs.declared.outputs.Out.{Out}
use Rattle.bfd_session.specs.Alone.{Outcome}
use Rattle.bfd_rules.specs.Names.{named}
use Rattle.bfd_shard.specs.declared.entry.ShardEvent.{ShardEvent}
use Rattle.bfd_shard.specs.declared.entry.ShardEvent.TheVariants.{Own, Tick}
use Rattle.bfd_script.specs.Report.{item_line, event_lines, packets_sent, packets_sent_by, dropped}
use Rattle.bfd_replay.specs.declared.report.key.Key.{Key}

-- a piece of a report: its key, its text, and how many packets it reports as sent and as dropped
pub record Piece : Type 0 where
  pub key : Key
  pub text : List ℕ
  pub txs : ℕ
  pub drops : ℕ

-- the text of pieces, one after another
abbrev pub texts : List Piece → List ℕ
texts pieces = flat_map (λ p. p.text) pieces

-- the key of a piece of the event of this number. Pieces of a tick go by the discriminators that they name; any other event
-- has one piece, and discriminator 0
abbrev pub key : ℕ → ℕ → Key
key event discr = record { event = event; discr = discr }

-- one key stands before another in the report: by event, then by discriminator
abbrev pub precedes : Key → Key → Bool
precedes a b = nat_lt a.event b.event || (a.event == b.event && nat_lt a.discr b.discr)

-- all lines of an event of one session or of none
abbrev pub whole_piece : ℕ → Outcome → Piece
whole_piece number outcome =
    record { key = key number 0; text = event_lines number outcome; txs = packets_sent outcome; drops = dropped outcome }

-- the line of one output of a tick
abbrev pub item_piece : ℕ → Out → Piece
item_piece number out = record { key = key number (named out); text = item_line number out; txs = packets_sent_by out; drops = 0 }

-- the pieces of an event of a shard, which had this outcome
abbrev pub event_pieces : ℕ → ShardEvent → Outcome → List Piece
event_pieces number (Own place moment event) outcome = whole_piece number outcome ∷ []
event_pieces number (Tick t) outcome = map (item_piece number) outcome.items
