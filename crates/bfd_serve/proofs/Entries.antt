-- One more entry.
use Rattle.bfd_serve.proofs.ServedTextCommon.{◌≡◌, ◌≤◌, ◌<◌, ℕ, zero, suc, ◌+◌, List, [], ◌∷◌, ◌++◌, length, take, drop, get_or, ap}
use Rattle.bfd_serve.proofs.ServedTextCommon.{append_assoc, append-nil, length-append, arith, take_more, drop_more, SessionConfig, Entry}
use Rattle.bfd_serve.proofs.ServedTextCommon.{CanHappen, IsHistory, event_lines, packets_sent, discr_in, entry_text, entries_text}
use Rattle.bfd_serve.proofs.ServedTextCommon.{entries_sent, reply_at, turn_line, Outcome, events_of}
use Rattle.bfd_rules.specs.declared.outputs.Out.{Out}
use Rattle.bfd_session.specs.declared.event.Answer.{Answer}
use Rattle.bfd_serve.proofs.Sizes.{entry_some}

one_at : (cs : List SessionConfig) (js : List Entry) (i : ℕ) (d : Entry) → i < length js → IsHistory cs (events_of js)
    → CanHappen cs (get_or js i d).event
one_at cs [] i d h all = absurd (omega arith)
one_at cs (x ∷ js) zero d h all = all.0
one_at cs (x ∷ js) (suc i) d h all = one_at cs js i d (omega arith) all.1

abbrev outcome : List Out → Answer → Outcome
outcome items answer = record { items = items; answer = answer }

-- the text of an entry is its turn and what it gave
pub entry_observed : (cs : List SessionConfig) (before : List Entry) (entry : Entry) {n discr : ℕ} {items : List Out} {answer : Answer}
    (now : List ℕ) {turned new : List ℕ}
    → n ≡ length before + 1 → discr ≡ discr_in cs entry.event → items ≡ (reply_at cs before entry).items
    → answer ≡ (reply_at cs before entry).answer
    → turned ≡ now ++ turn_line n discr entry → new ≡ turned ++ event_lines n (record { items = items; answer = answer })
    → new ≡ now ++ entry_text cs before entry
entry_observed cs before entry {n} {discr} {items} {answer} now n_is discr_is items_are answer_is turn observed =
    cc (append_assoc now (turn_line n discr entry) (event_lines n (outcome items answer)))

-- and is longer than the number of packets that it sent
pub entry_long : (cs : List SessionConfig) (before : List Entry) (entry : Entry) {count : ℕ} (now : List ℕ) {new : List ℕ}
    → new ≡ now ++ entry_text cs before entry → count ≡ packets_sent (reply_at cs before entry) → length now + count + 1 ≤ length new
entry_long cs before entry now observed is = omega (
  arith,
  ap length observed,
  is,
  entry_some cs before entry,
  length-append now (entry_text cs before entry),
)

-- a shard of these sessions took the first i entries of a journal, of which this one is next
pub record IsNext (cs : List SessionConfig) (js : List Entry) (i : ℕ) (own : List SessionConfig) (taken : List Entry)
    (entry : Entry) : Type 0 where
  pub inside : i < length js
  pub configs : own ≡ cs
  pub journal : taken ≡ take i js
  pub is : entry ≡ get_or js i entry

module _ (cs : List SessionConfig) (js : List Entry) (i : ℕ) (own : List SessionConfig) (taken : List Entry) (entry : Entry)
    (n : IsNext cs js i own taken entry) where
  -- the shard may be given it, as an entry of a history
  pub can_next : IsHistory cs (events_of js) → CanHappen own entry.event
  can_next all = rw n.configs (rw n.is (one_at cs js i entry n.inside all))

  left : drop i js ≡ entry ∷ drop (i + 1) js
  left = cc (drop_more js i entry n.inside)

  more : take i js ++ entry ∷ [] ≡ take (i + 1) js
  more = cc (take_more js i entry n.inside)

  -- then it took one more
  pub taken_more : {after : List Entry} → after ≡ taken ++ entry ∷ [] → after ≡ take (i + 1) js
  taken_more added = cc (more)

  text_split : entries_text cs (take i js) (drop i js) ≡ entry_text own taken entry ++ entries_text cs (take (i + 1) js) (drop (i + 1) js)
  unfolding entries_text
  text_split = cc (left, more)

  sent_split : entries_sent cs (take i js) (drop i js)
      ≡ packets_sent (reply_at own taken entry) + entries_sent cs (take (i + 1) js) (drop (i + 1) js)
  unfolding entries_sent
  sent_split = cc (left, more)

  -- with the entries that are left, the text so far is the whole, and so is the count
  pub text_next : (now : List ℕ) {new goal : List ℕ} → now ++ entries_text cs (take i js) (drop i js) ≡ goal
      → new ≡ now ++ entry_text own taken entry
      → new ++ entries_text cs (take (i + 1) js) (drop (i + 1) js) ≡ goal
  text_next now so_far observed = cc (
    append_assoc now (entry_text own taken entry) (entries_text cs (take (i + 1) js) (drop (i + 1) js)),
    text_split,
  )

  pub sent_next : (now : ℕ) {count goal : ℕ} → now + entries_sent cs (take i js) (drop i js) ≡ goal
      → count ≡ packets_sent (reply_at own taken entry)
      → now + count + entries_sent cs (take (i + 1) js) (drop (i + 1) js) ≡ goal
  sent_next now so_far is = omega (arith, so_far, is, sent_split)

-- behind the last entry there is none
pub text_over : (cs : List SessionConfig) (before : List Entry) {js : List Entry} (now : List ℕ) {goal : List ℕ} → js ≡ []
    → now ++ entries_text cs before js ≡ goal → now ≡ goal
unfolding entries_text
text_over cs before now none so_far = cc (append-nil now)

pub sent_over : (cs : List SessionConfig) (before : List Entry) {js : List Entry} (now : ℕ) {goal : ℕ} → js ≡ []
    → now + entries_sent cs before js ≡ goal → now ≡ goal
unfolding entries_sent
sent_over cs before now none so_far = omega (arith, ap (entries_sent cs before) none, so_far)
