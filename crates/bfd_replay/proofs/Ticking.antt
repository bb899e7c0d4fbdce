-- What the shards report of a tick is what the whole table gives.
use Rattle.bfd_replay.proofs.ReportCommon.{Option, TookFront, TookUpTo, lines_from, ◌++◌, ◌≡◌, ◌<◌, ◌+◌, ◌∙◌, ℕ, List, [], ◌∷◌}
use Rattle.bfd_replay.proofs.ReportCommon.{length, ap, sym, subst, append-nil, arith, sum_by-cons, Among, AreParts, Piece, event_pieces}
use Rattle.bfd_replay.proofs.ReportCommon.{Dealt, IsSpread, dealt_text, dropped, event_lines, packets_sent, Outcome, Running, last_tick}
use Rattle.bfd_replay.proofs.ReportCommon.{outcome_of, runs, Tick, ShardEvent, sum_by}
use Rattle.std.specs.Prelude.{slice_index_or}
use Rattle.bfd_session.specs.Rows.{Ascends}
use Rattle.bfd_shard.proofs.Runs.{runs_configs}
use Rattle.bfd_engine.specs.Engines.{Knows, Shards}
use Rattle.bfd_replay.specs.Turning.{AllSole, HaveReportedTick, HasSeen}
use Rattle.bfd_replay.specs.PendingLines.{PendingLines, ReportedUpTo}
use Rattle.bfd_replay.proofs.Events.{event_front, event_reported}
use Rattle.bfd_replay.proofs.OneCaller.{given_stands}
use Rattle.bfd_replay.proofs.Dealing.{deal_all}
use Rattle.bfd_replay.proofs.Whole.{all_drops, all_text, all_txs, parts_spread}

module _ (engine : Shards) (number t : ℕ) (k l : Knows) (parts : List (List Piece)) (past : List ShardEvent)
    (some : 0 < length engine.locks) (ascends : Ascends engine.configs) (long : length parts ≡ length engine.locks + 1)
    (reported : HaveReportedTick engine number t (length engine.locks) k l parts)
    (last : slice_index_or parts (length engine.locks) [] ≡ [])
    (sole : AllSole (length engine.locks) l) (stands : HasSeen engine past k) where
  abbrev sessions : List Running
  sessions = runs past engine.configs

  abbrev pub tick_outcome : Outcome
  tick_outcome = outcome_of (last_tick past) (Tick t) (runs past engine.configs)

  abbrev pub tick_dealt : List Dealt
  tick_dealt = deal_all (length engine.locks) number (last_tick past) (Among (Tick t) ∷ []) (runs past engine.configs)

  are : AreParts (length engine.locks) number (last_tick past) (Among (Tick t) ∷ []) sessions parts
  are = record {
    some = some;
    long = long;
    each = λ s inside. reported s inside (sole s inside)
        ∙ (ap (event_pieces number (Tick t)) (given_stands engine k past (Tick t) inside stands) ∙ sym (append-nil _));
    others = last;
    ascends = subst Ascends (sym (runs_configs 0 past engine.configs)) ascends;
  }

  pub tick_spread : IsSpread tick_dealt parts
  tick_spread = parts_spread are

  pub tick_text : dealt_text tick_dealt ≡ event_lines number tick_outcome
  tick_text = all_text (length engine.locks) number (last_tick past) (Among (Tick t) ∷ []) sessions
      ∙ append-nil (event_lines number tick_outcome)

  pub tick_txs : sum_by (λ d. d.piece.txs) tick_dealt ≡ packets_sent tick_outcome
  tick_txs = omega (
    arith,
    all_txs (length engine.locks) number (last_tick past) (Among (Tick t) ∷ []) sessions,
    sum_by-cons packets_sent tick_outcome [],
  )

  pub tick_drops : sum_by (λ d. d.piece.drops) tick_dealt ≡ dropped tick_outcome
  tick_drops = omega (
    arith,
    all_drops (length engine.locks) number (last_tick past) (Among (Tick t) ∷ []) sessions,
    sum_by-cons dropped tick_outcome [],
  )

  pub tick_was_reported : {old new : Option (List ℕ)} (before after : PendingLines) → number ≡ before.events + 1
      → TookUpTo old new (before.text ++ dealt_text tick_dealt) after.text
      → after.events ≡ before.events + 1 → after.txs ≡ before.txs + sum_by (λ d. d.piece.txs) tick_dealt
      → after.drops ≡ before.drops + sum_by (λ d. d.piece.drops) tick_dealt
      → (rest : List Outcome) → ReportedUpTo old new before after (tick_outcome ∷ rest) rest
  tick_was_reported {old} {new} before after first lines events txs drops rest =
      event_reported old new before after tick_outcome events (omega (arith, txs, tick_txs)) (omega (arith, drops, tick_drops))
      (subst (λ t. TookUpTo old new t after.text) (cc (tick_text, first)) lines) rest

  pub tick_front : (old new : Option (List ℕ)) (before : PendingLines) → number ≡ before.events + 1
      → TookFront old new (before.text ++ dealt_text tick_dealt)
      → (rest : List Outcome) → TookFront old new (before.text ++ lines_from (before.events + 1) (tick_outcome ∷ rest))
  tick_front old new before first took rest =
      event_front old new before tick_outcome rest (subst (TookFront old new) (cc (tick_text, first)) took)
