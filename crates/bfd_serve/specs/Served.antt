-- The served text: the histories of shards, entry by entry, each with its outcome.
use Rattle.std.specs.Prelude.{ℕ, ◌+◌, List, [], ◌∷◌, ◌++◌, length, slice_get, sum_by, codes, Option, None, Some}
use Rattle.std.specs.Fmt.{decimal}
use Rattle.bfd_session.specs.declared.event.SessionConfig.{SessionConfig}
use Rattle.bfd_session.specs.Alone.{Outcome}
use Rattle.bfd_session.specs.Kinds.{configs_of, discr_of}
use Rattle.bfd_shard.specs.declared.entry.Entry.{Entry}
use Rattle.bfd_shard.specs.declared.entry.ShardEvent.{ShardEvent}
use Rattle.bfd_shard.specs.declared.entry.ShardEvent.TheVariants.{Own, Tick}
use Rattle.bfd_shard.specs.History.{events_of, last_tick, outcome_of, runs}
use Rattle.bfd_shard.specs.Shard.{Shard}
use Rattle.bfd_script.specs.Report.{event_lines, packets_sent}
use Rattle.bfd_script.specs.Spelling.{line, spaced}
use Rattle.bfd_serve.specs.Happening.{happening_fields}

-- what a shard's text is built from: the configurations of its sessions, and its journal
pub record History : Type 0 where
  pub configs : List SessionConfig
  pub journal : List Entry

abbrev pub shard_history : Shard → History
shard_history shard = record { configs = configs_of shard.sessions; journal = shard.journal }

-- the outcome of an entry that comes after these: the outputs and the answer of its event, of the sessions as the entries before
-- it have left them
abbrev pub reply_at : List SessionConfig → List Entry → Entry → Outcome
reply_at configs before entry = outcome_of (last_tick (events_of before)) entry.event (runs (events_of before) configs)

-- the discriminator of a session, or 0 if there is none
abbrev pub discr_at : Option SessionConfig → ℕ
discr_at None = 0
discr_at (Some config) = discr_of config

-- the discriminator of the session whose own event this is; a tick has none
abbrev pub discr_in : List SessionConfig → ShardEvent → ℕ
discr_in configs (Own place moment event) = discr_at (slice_get configs place)
discr_in configs (Tick t) = 0

-- `turn N CALLER `, which the line of the event follows
abbrev pub turn_head : ℕ → ℕ → List ℕ
turn_head number caller = spaced (codes "turn" ∷ decimal number ∷ decimal caller ∷ []) (32 ∷ [])

abbrev pub turn_line : ℕ → ℕ → Entry → List ℕ
turn_line number discr entry = turn_head number entry.caller ++ line (happening_fields discr entry.event)

-- an entry that comes after these, counted from 1: its turn, and the report lines of its outcome
abbrev pub entry_text : List SessionConfig → List Entry → Entry → List ℕ
entry_text configs before entry =
    turn_line (length before + 1) (discr_in configs entry.event) entry ++ event_lines (length before + 1) (reply_at configs before entry)

-- the entries that come after these, one after another
unfoldable pub entries_text : List SessionConfig → List Entry → List Entry → List ℕ
entries_text configs before [] = []
entries_text configs before (entry ∷ entries) =
    entry_text configs before entry ++ entries_text configs (before ++ entry ∷ []) entries

-- how many packets they sent
unfoldable pub entries_sent : List SessionConfig → List Entry → List Entry → ℕ
entries_sent configs before [] = 0
entries_sent configs before (entry ∷ entries) =
    packets_sent (reply_at configs before entry) + entries_sent configs (before ++ entry ∷ []) entries

-- `shard NUMBER`
abbrev pub shard_line : ℕ → List ℕ
shard_line number = line (codes "shard" ∷ decimal number ∷ [])

-- the shard of this number
abbrev pub shard_text : ℕ → History → List ℕ
shard_text number history = shard_line number ++ entries_text history.configs [] history.journal

abbrev pub shard_sent : History → ℕ
shard_sent history = entries_sent history.configs [] history.journal

-- the shards from this number on
unfoldable pub shards_text : ℕ → List History → List ℕ
shards_text number [] = []
shards_text number (history ∷ histories) = shard_text number history ++ shards_text (number + 1) histories

-- `served ENTRIES TXS LOST`
abbrev pub served_line : ℕ → ℕ → ℕ → List ℕ
served_line entries txs lost = line (codes "served" ∷ decimal entries ∷ decimal txs ∷ decimal lost ∷ [])

-- the served text of shards with these histories, when so many sends failed: the entries of all journals are counted, and the
-- packets that they sent
abbrev pub served : List History → ℕ → List ℕ
served histories lost =
    shards_text 0 histories ++ served_line (sum_by (λ history. length history.journal) histories) (sum_by shard_sent histories) lost
