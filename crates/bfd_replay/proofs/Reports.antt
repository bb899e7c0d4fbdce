-- The report of parts is the script's.
use Rattle.bfd_replay.proofs.WorkerCommon.{◌≡◌, ◌∙◌, ap, ℕ, List, length, map, AreParts, Happening, Lists, Piece, Running, happenings}
use Rattle.bfd_replay.proofs.WorkerCommon.{replayed, report, started, world_is}
use Rattle.bfd_replay.specs.Happenings.{happening_outcomes}
use Rattle.bfd_replay.proofs.Gathered.{happenings_long}

module _ (script : Lists) (shards : ℕ) {parts : List (List Piece)} {events : ℕ} (are : AreParts shards 1 0
    (happenings script.configs script.pool script.events) (map started script.configs) parts) (count : length script.events ≡ events) where
  pub texts_held : {text : List ℕ}
      → ((n last : ℕ) (hs : List Happening) (ss : List Running) → length hs ≡ events → AreParts n 1 last hs ss parts
      → text ≡ report (happening_outcomes last hs ss)) → text ≡ replayed script
  texts_held gives =
      gives shards 0 (happenings script.configs script.pool script.events) (map started script.configs)
      (happenings_long script.configs script.pool script.events ∙ count) are
      ∙ ap report (world_is script)
