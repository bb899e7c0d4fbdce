-- What a line of a script is to an engine's shards, and what all of them report of it.
use Rattle.bfdd.proofs.WatchedTextCommon.{◌≡◌, ◌<◌, ◌+◌, ◌*◌, ◌%◌, ◌==◌, ◌++◌, ◌∙◌, ◌∷◌, max, ℕ, [], List, length, drop, map, sym, ap, refl}
use Rattle.bfdd.proofs.WatchedTextCommon.{append-nil, mod-lt, eq-eqb, ne_eqb, dite, ℕ_discrete, drop-append_seam, Option, None, Some}
use Rattle.bfdd.proofs.WatchedTextCommon.{Result, Ok, Err, if◌then◌else◌, cons_option, flat_map, Out, Changed, Sent, tick_items, Running}
use Rattle.bfdd.proofs.WatchedTextCommon.{configs_of, Ascends, SessionConfig, Reflector, Entry, ShardEvent, Own, Tick, share, history_of}
use Rattle.bfdd.proofs.WatchedTextCommon.{event_in, events_of, last_tick, runs, outcome_of, entry_of, Among, Apart, Happening, in_shard}
use Rattle.bfdd.proofs.WatchedTextCommon.{happening_by, entries_by, events_entries, Change, changes_in, reported_by, watching, brought}
use Rattle.bfdd.proofs.WatchedTextCommon.{merged_of, news, of_event, outcome_in}
use Rattle.bfd_packet.specs.declared.arrival.Datagram.{Datagram}
use Rattle.bfd_packet.specs.declared.discard.Test.{Test}
use Rattle.bfd_sbfd.specs.Reflect.{reflect}
use Rattle.bfd_session.specs.declared.event.Event.{Event}
use Rattle.bfd_session.proofs.Naming.{tick_named}
use Rattle.bfd_shard.proofs.Dealing.{last_of_shard}
use Rattle.bfd_script.specs.Doing.{Doing, Rests as Resting, Reflects, Happens, Passes}
use Rattle.bfd_replay.proofs.Histories.{runs_share}
use Rattle.bfd_replay.proofs.Sharing.{own_gives}
use Rattle.bfd_replay.specs.Planned.{reflecting}
use Rattle.bfdd.proofs.Shared.{all_of, same_of, none_of, one_of, changes_flat, changes_own}

-- an event that matches no session reports no change

abbrev IsQuiet : Happening → Type 0
IsQuiet (Apart outcome) = (number : ℕ) → changes_in number outcome.items ≡ []
IsQuiet (Among event) = Unit {0}

reflecting_quiet : (reflector : Option Reflector) (r : Result Datagram Test) → IsQuiet (Apart (reflecting reflector r))
reflecting_quiet reflector (Err test) = λ number. refl
reflecting_quiet None (Ok datagram) = λ number. refl
reflecting_quiet (Some reflector) (Ok datagram) = λ number. refl

pub is_quiet : (pool : List Reflector) (what : Doing) → IsQuiet (happening_by pool what)
is_quiet pool (Resting answer) = λ number. refl
is_quiet pool (Reflects place arrival) = reflecting_quiet _ (reflect pool arrival)
is_quiet pool (Happens place moment event) = tt
is_quiet pool (Passes t) = tt

-- what a shard's watch reports of the event that it was given

renumbered : (number a : ℕ) (os : List Out) → map (of_event number) (changes_in a os) ≡ changes_in number os
renumbered number a [] = refl
renumbered number a (Changed discr before after diag ∷ os) = cc (renumbered number a os)
renumbered number a (Sent discr datagram ∷ os) = renumbered number a os

-- the changes of an event of a shard, if there is one
abbrev pub shard_news : ℕ → ℕ → Option ShardEvent → List Running → List Change
shard_news number last None sessions = []
shard_news number last (Some event) sessions = changes_in number (outcome_of last event sessions).items

news_by : (number : ℕ) (cs : List SessionConfig) (before seen : List Entry) (limit : ℕ) (es : List ShardEvent) (o : Option ShardEvent)
    → before ≡ entries_by 0 es → seen ≡ before ++ entries_by 0 (cons_option o [])
    → news number (watching cs before limit) seen ≡ shard_news number (last_tick es) o (runs es cs)
news_by number cs before seen limit es None past now = cc (drop-append_seam before [])
news_by number cs before seen limit es (Some event) past now =
    let entry : Entry = entry_of 0 event in
    let left : drop (length before) seen ≡ entry ∷ [] = cc (drop-append_seam before (entry ∷ [])) in
    let found : events_of before ≡ es = cc (events_entries 0 es) in
    cc (
      append-nil (reported_by (watching cs before limit) entry),
      renumbered number (length before + 1) (outcome_of (last_tick es) event (runs es cs)).items,
    )

-- of the whole table's sessions, after events of the whole table
pub shard_pieces : (n r number : ℕ) (before seen : List Entry) (limit : ℕ) (past : List ShardEvent) (h : Happening)
    (cs : List SessionConfig)
    → r < n
    → before ≡ entries_by 0 (history_of n r past) → seen ≡ before ++ entries_by 0 (brought n h r)
    → news number (watching (share n r cs) before limit) seen
    ≡ shard_news number (last_tick past) (in_shard n r h) (share n r (runs past cs))
shard_pieces n r number before seen limit past h cs inside was now =
    cc (
      news_by number (share n r cs) before seen limit (history_of n r past) (in_shard n r h) was now,
      last_of_shard n r past,
      runs_share n r past cs inside,
    )

-- what all shards report

tick_changes : (number last t : ℕ) (ss : List Running)
    → changes_in number (outcome_of last (Tick t) ss).items ≡ flat_map (λ s. changes_in number (tick_items (max last t) s)) ss
unfolding outcome_of
tick_changes number last t ss = changes_flat number (tick_items (max last t)) ss

own_news : {n : ℕ} (number last k m : ℕ) (event : Event) (ss : List Running) → 0 < n → (r : ℕ)
    → shard_news number last (event_in n r (Own k m event)) (share n r ss)
    ≡ (if k % n == r then changes_in number (outcome_of last (Own k m event) ss).items else [])
own_news {n} number last k m event ss some r = dite (ℕ_discrete (k % n) r)
    (λ e. rw (eq-eqb (k % n) r e) (rw (← e) (ap (λ o. changes_in number o.items) (own_gives n k m last event ss some))))
    (λ e. rw (ne_eqb (k % n) r e) refl)

pub all_report : {n : ℕ} (number last : ℕ) (h : Happening) (ss : List Running) → 0 < n → Ascends (configs_of ss) → IsQuiet h
    → merged_of n (λ r. shard_news number last (in_shard n r h) (share n r ss)) ≡ changes_in number (outcome_in last h ss).items
all_report {n} number last (Apart outcome) ss some up quiet = none_of n ∙ sym (quiet number)
all_report {n} number last (Among (Own k m event)) ss some up quiet =
    same_of n (λ r. shard_news number last (event_in n r (Own k m event)) (share n r ss))
    (λ r. if k % n == r then changes_in number (outcome_of last (Own k m event) ss).items else [])
    (λ r h. own_news number last k m event ss some r)
    ∙ one_of n (k % n) (changes_in number (outcome_of last (Own k m event) ss).items) (mod-lt k some)
all_report {n} number last (Among (Tick t)) ss some up quiet =
    same_of n (λ r. shard_news number last (Some (Tick t)) (share n r ss))
    (λ r. flat_map (λ s. changes_in number (tick_items (max last t) s)) (share n r ss))
    (λ r h. tick_changes number last t (share n r ss))
    ∙ all_of (λ s. changes_in number (tick_items (max last t) s)) (λ s. changes_own number _ (tick_items (max last t) s)
    (tick_named s (1000 * max last t) (max (1000 * max last t) s.vars.at))) n ss some up
    ∙ sym (tick_changes number last t ss)
