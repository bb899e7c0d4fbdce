-- What a caller did, act after act.
use Rattle.bfd_serve.proofs.Common.{◌≡◌, ◌+◌, ◌≤◌, ◌++◌, length, Result, Ok, Err, refl, ap, ap₂, sym, ◌∙◌, subst, append_assoc, append-nil}
use Rattle.bfd_serve.proofs.Common.{length-append, le_refl, arith, Arrival, Datagram, Entry, ShardEvent, Begins, calls, LinkObserved}
use Rattle.bfd_serve.proofs.Common.{more_traffic, by, entry_of, Shards, Knows, Act, Turns, Rests, seen_at, met_word, mine, IsDone, IsCall}
use Rattle.bfd_serve.proofs.Common.{IsFailed, IsCause, End, Full, Spent, Memory, calls_of, entries, until, datagrams, given_by}
use Rattle.bfd_serve.proofs.Common.{sends_of_acts, HasSent, IsSentAfter, Did, Stops, IsAside, IsStopped, IsWhole, AreDone, end_of, ℕ, List}
use Rattle.bfd_serve.proofs.Common.{[], ◌∷◌, Out}
use Rattle.bfd_session.specs.declared.event.Answer.{Answer}
use Rattle.bfd_engine.specs.declared.fault.EngineFault.{EngineFault}
use Rattle.bfd_engine.specs.declared.fault.EngineFault.TheVariants as fault
use Rattle.bfd_serve.proofs.Packets.{traffic_same, traffic_join, risen_same, risen_join, lacks_append}
use Rattle.bfd_serve.proofs.Histories.{until_last, entries_append, calls_of_append, weight, weight_append, sends_append, sends_base}
use Rattle.bfd_serve.proofs.Histories.{sends_grow}
use Rattle.bfd_serve.proofs.Gains.{begins_self, begins_trans, calls_append, mine_call, mine_fault, grows, words, taken_call}

module _ (engine : Shards) where
  -- something was heard, and not handled yet
  pub did_hear : (k : Knows) (t u : LinkObserved) (hs : List (ℕ × Arrival)) (lost : ℕ) → u.traffic ≡ more_traffic hs [] t.traffic
      → u.counts.send_faults ≡ t.counts.send_faults → u.number ≡ t.number → Did engine k k t u hs [] [] [] lost lost
  did_hear k t u hs lost traffic faults same = record {
    same_link = same;
    number = refl;
    used = refl;
    gains = λ s. sym (append-nil (mine k s));
    grows = λ s. begins_self (seen_at k s);
    words = λ s. le_refl (met_word k s);
    taken = λ s. omega arith;
    made = λ s. refl;
    keeps = λ s. refl;
    tried = [];
    kept = [];
    missing = 0;
    sends_are = refl;
    lacks = (refl, refl);
    traffic = traffic;
    send_faults = faults ∙ risen_same t.counts.send_faults;
    lost_is = risen_same lost;
  }

  pub did_none : (k : Knows) (t : LinkObserved) (lost : ℕ) → Did engine k k t t [] [] [] [] lost lost
  did_none k t lost = did_hear k t t [] lost (sym (traffic_same t.traffic)) refl refl

  -- how many calls a caller has on a shard afterwards
  count_of : {k l : Knows} {t u : LinkObserved} {hs : List (ℕ × Arrival)} {xs cut : List Act} {untried : List Datagram} {a b : ℕ}
      → Did engine k l t u hs xs cut untried a b
      → (s : ℕ) → length (mine l s) ≡ length (mine k s) + length (entries k.0 s (calls_of xs))
  count_of {k} {xs} d s = cc (d.gains s, length-append (mine k s) (entries k.0 s (calls_of xs)))

  -- the sends are the same where the histories grow
  pub sends_later : (k l : Knows) (t u : LinkObserved) (hs : List (ℕ × Arrival)) (xs cut : List Act) (untried : List Datagram)
      (a b : ℕ) {h : ℕ → List Entry} → ((s : ℕ) → Begins (seen_at l s) (h s))
      → (d : Did engine k l t u hs xs cut untried a b) → sends_of_acts engine k.0 h (λ i. length (mine k i)) [] xs ≡ d.tried ++ untried
  sends_later k l t u hs xs cut untried a b longer d = sends_grow engine k.0 (seen_at l) (λ i. length (mine k i)) [] xs longer
      (λ i. (let z = ap (λ n. length (calls by n (seen_at l i))) d.number in omega (arith, count_of d i))) ∙ d.sends_are

  pub did_then : {k l m : Knows} {t u v : LinkObserved} {hs hs2 : List (ℕ × Arrival)} {xs ys cut : List Act} {untried : List Datagram} {a b
      c : ℕ}
      → Did engine k l t u hs xs [] [] a b → Did engine l m u v hs2 ys cut untried b c
      → Did engine k m t v (hs ++ hs2) (xs ++ ys) cut untried a c
  did_then {k} {l} {m} {t} {u} {hs} {hs2} {xs} {ys} {cut} {untried} {a} {b} d f =
      let had : ℕ → ℕ = λ i. length (mine k i) in
      let old = sends_later k l t u hs xs [] [] a b f.grows d ∙ append-nil d.tried in
      let new : sends_of_acts engine k.0 (seen_at m) had (calls_of xs) ys ≡ f.tried ++ untried =
      cc (sends_base engine k.0 (seen_at m) had (λ i. length (mine l i)) (calls_of xs) [] ys (λ i. omega (arith, count_of d i))) in
      record {
        number = cc;
        used = cc;
        gains = λ i. cc (
          f.gains i,
          ap₂ (λ x n. x ++ entries n i (calls_of ys)) (d.gains i) d.number,
          append_assoc (mine k i) (entries k.0 i (calls_of xs)) (entries k.0 i (calls_of ys)),
          entries_append k.0 i (calls_of xs) (calls_of ys),
          calls_of_append xs ys,
        );
        grows = λ i. begins_trans (seen_at k i) (d.grows i) (f.grows i);
        words = λ i. (omega (arith, d.words i, f.words i));
        taken = λ i. (let n = ap (λ n. weight n i (ys ++ cut)) d.number in
            omega (
              arith,
              d.taken i,
              f.taken i,
              weight_append k.0 i xs [],
              weight_append k.0 i (xs ++ ys) cut,
              weight_append k.0 i xs ys,
              weight_append k.0 i ys cut,
            ));
        made = λ i. f.made i ∙ d.made i;
        keeps = λ i. f.keeps i ∙ d.keeps i;
        tried = d.tried ++ f.tried;
        kept = d.kept ++ f.kept;
        missing = d.missing + f.missing;
        sends_are = cc (sends_append engine k.0 (seen_at m) had [] xs ys, append_assoc d.tried f.tried untried);
        lacks = lacks_append d.tried d.kept f.tried f.kept d.missing f.missing d.lacks f.lacks;
        same_link = cc;
        traffic = cc (traffic_join hs d.kept hs2 f.kept t.traffic);
        send_faults = cc (risen_join t.counts.send_faults d.missing f.missing);
        lost_is = cc (risen_join a d.missing f.missing);
      }

  -- more is left out
  pub did_less : {k l : Knows} {t u : LinkObserved} {hs : List (ℕ × Arrival)} {xs cut : List Act}
      (more : List Act) {untried : List Datagram} {a
      b : ℕ} → Did engine k l t u hs xs cut untried a b → Did engine k l t u hs xs (cut ++ more) untried a b
  did_less {k} {xs} {cut} more d = record {
    number = d.number;
    used = d.used;
    gains = d.gains;
    grows = d.grows;
    words = d.words;
    made = d.made;
    keeps = d.keeps;
    taken = λ i. (omega (arith, d.taken i, weight_append k.0 i xs cut, weight_append k.0 i xs (cut ++ more), weight_append k.0 i cut more));
    tried = d.tried;
    kept = d.kept;
    missing = d.missing;
    sends_are = d.sends_are;
    lacks = d.lacks;
    same_link = d.same_link;
    traffic = d.traffic;
    send_faults = d.send_faults;
    lost_is = d.lost_is;
  }

  did_call : {l m : Knows} {u v : LinkObserved} {shard : ℕ} {event : ShardEvent} {outs : List Out} {answer : Answer} {untried : List
      Datagram} {a b : ℕ}
      → IsCall engine shard event l m [] outs answer → HasSent (datagrams outs) untried u v a b
      → Did engine l m u v [] (Turns shard event ∷ []) [] untried a b
  did_call {l} {m} {shard} {event} c s =
      let older : calls by l.0 (seen_at l shard ++ c.between) ≡ mine l shard =
      cc (calls_append l.0 (seen_at l shard) c.between, append-nil (mine l shard)) in
      let before : until l.0 (length (mine l shard) + 0) (seen_at m shard) ≡ seen_at l shard ++ c.between =
      cc (until_last l.0 (length (mine l shard) + 0) (seen_at l shard ++ c.between) (entry_of l.0 event) (omega (arith, ap length older))
      refl) in
      let new : List Entry = entry_of l.0 event ∷ [] in
      record {
        number = c.turned.number;
        used = c.turned.used;
        gains = λ i. mine_call l m shard c.between c.turned i;
        grows = λ i. grows l m shard c.between c.turned i;
        words = λ i. words l m shard c.between c.turned i;
        taken = λ i. taken_call l m shard c.between event c.turned i;
        made = c.turned.made;
        keeps = c.turned.kept;
        tried = s.tried;
        kept = s.kept;
        missing = s.missing;
        sends_are = cc (append-nil (datagrams (given_by engine l.0 (seen_at m) (λ i. length (mine l i)) [] (Turns shard event))));
        lacks = s.lacks;
        same_link = ap (λ x. x.number) s.observed;
        traffic = cc;
        send_faults = ap (λ x. x.counts.send_faults) s.observed;
        lost_is = s.lost_is;
      }

  -- an act with no turn
  did_still : (l : Knows) {u v : LinkObserved} {observed outs : List Out} (answer : Answer) {untried : List Datagram} {a b : ℕ}
      → outs ≡ observed
      → HasSent (datagrams outs) untried u v a b → Did engine l l u v [] (Rests observed answer ∷ []) [] untried a b
  did_still l {observed} answer is s = record {
    number = refl;
    used = refl;
    gains = λ i. sym (append-nil (mine l i));
    grows = λ i. begins_self (seen_at l i);
    words = λ i. le_refl (met_word l i);
    taken = λ i. omega arith;
    made = λ i. refl;
    keeps = λ i. refl;
    tried = s.tried;
    kept = s.kept;
    missing = s.missing;
    sends_are = cc (append-nil (datagrams observed));
    lacks = s.lacks;
    same_link = ap (λ x. x.number) s.observed;
    traffic = cc;
    send_faults = ap (λ x. x.counts.send_faults) s.observed;
    lost_is = s.lost_is;
  }

  did_step : (l m : Knows) {u v : LinkObserved} (x : Act) (outs : List Out) (answer : Answer) {untried : List Datagram} {a b : ℕ}
      → IsDone x engine l m [] outs (Ok answer) → HasSent (datagrams outs) untried u v a b → Did engine l m u v [] (x ∷ []) [] untried a b
  did_step l m (Rests observed says) outs answer r s = rw r.1 (did_still l says r.2 s)
  did_step l m (Turns shard event) outs answer r s = did_call r s

  did_refused : {l m : Knows} (u : LinkObserved) {shard : ℕ} (event : ShardEvent) {outs : List Out} {f : EngineFault} (a : ℕ)
      → IsFailed engine shard l m [] outs f → Did engine l m u u [] [] (Turns shard event ∷ []) [] a a
  did_refused {l} {m} u {shard} event a c = record {
    number = c.turned.number;
    used = c.turned.used;
    gains = λ s. mine_fault l m shard c.between c.turned s ∙ sym (append-nil (mine l s));
    grows = λ i. grows l m shard c.between c.turned i;
    words = λ i. words l m shard c.between c.turned i;
    taken = λ i. taken_call l m shard c.between event c.turned i;
    made = c.turned.made;
    keeps = c.turned.kept;
    tried = [];
    kept = [];
    missing = 0;
    sends_are = refl;
    lacks = (refl, refl);
    same_link = refl;
    traffic = sym (traffic_same u.traffic);
    send_faults = risen_same u.counts.send_faults;
    lost_is = risen_same a;
  }

  stops_of : (m : Knows) (shard : ℕ) (event : ShardEvent) (f : EngineFault) → IsCause f engine shard m
      → Stops engine (seen_at m) (met_word m) (Turns shard event ∷ []) [] (end_of f)
  stops_of m shard event fault.Memory i = omega arith
  stops_of m shard event (fault.Full at n) i = (refl, (rw i.0 (omega arith)), (event, [], cc), i.1)
  stops_of m shard event (fault.Spent at word) i = (refl, i.1, (rw i.0 (omega arith)), (event, [], cc))

  pub aside_same : (t : LinkObserved) → IsAside t t
  aside_same t = record { over = refl; receive_faults = refl; gave = refl }

  aside_then : {t u v : LinkObserved} → IsAside t u → IsAside u v → IsAside t v
  aside_then p q = record { over = cc; receive_faults = cc; gave = cc }

  -- sending changes nothing that is observed of receiving
  aside_sent : {packets untried : List Datagram} {u v : LinkObserved} {a b : ℕ} → HasSent packets untried u v a b → IsAside u v
  aside_sent s = record {
    over = ap (λ x. x.counts.over) s.observed;
    receive_faults = ap (λ x. x.counts.receive_faults) s.observed;
    gave = ap (λ x. x.counts.gave) s.observed;
  }

  refused_one : (x : Act) (l m : Knows) (u : LinkObserved) (a : ℕ) (outs : List Out) (f : EngineFault) → IsDone x engine l m [] outs (Err f)
      → IsStopped engine (x ∷ []) l m u u a a (end_of f)
  refused_one (Rests observed answer) l m u a outs f r = absurd (cc (r.0))
  refused_one (Turns shard event) l m u a outs f r =
      record {
        done = [];
        cut = Turns shard event ∷ [];
        untried = [];
        all = refl;
        did = did_refused u event a r;
        aside = aside_same u;
        stops = stops_of m shard event f r.cause;
      }

  -- one call of the engine, and its sends
  pub done_one : (x : Act) (l m : Knows) (u v : LinkObserved) (a b : ℕ) (outs : List Out) (q : Result Answer EngineFault)
      (r : Result (Unit {0}) End)
      → IsDone x engine l m [] outs q → IsSentAfter q outs u v a b r → AreDone engine (x ∷ []) l m u v a b r
  done_one x l m u v a b outs (Err f) r d s = rw s.0 (subst (λ (y : LinkObserved × ℕ). IsStopped engine (x ∷ []) l m u y.0 a y.1 (end_of f))
      (λ i. (sym s.1 i, sym s.2 i)) (refused_one x l m u a outs f d))
  done_one x l m u v a b outs (Ok answer) (Ok z) d s = record { did = did_step l m x outs answer d s; aside = aside_sent s }
  done_one x l m u v a b outs (Ok answer) (Err end) d s = record {
    done = x ∷ [];
    cut = [];
    untried = s.0;
    all = refl;
    did = did_step l m x outs answer d s.1;
    aside = aside_sent s.1;
    stops = rw s.2 (omega (arith, s.3));
  }

  pub whole_none : (k : Knows) (t : LinkObserved) (a : ℕ) → IsWhole engine [] k k t t a a
  whole_none k t a = record { did = did_none k t a; aside = aside_same t }

  pub whole_then : {xs ys : List Act} {k l m : Knows} {t u v : LinkObserved} {a b c : ℕ} → IsWhole engine xs k l t u a b
      → IsWhole engine ys l m u v b c → IsWhole engine (xs ++ ys) k m t v a c
  whole_then p q = record { did = did_then p.did q.did; aside = aside_then p.aside q.aside }

  pub stopped_then : {xs ys : List Act} {k l m : Knows} {t u v : LinkObserved} {a b c : ℕ} {end : End} → IsWhole engine xs k l t u a b
      → IsStopped engine ys l m u v b c end → IsStopped engine (xs ++ ys) k m t v a c end
  stopped_then {xs} p q = record {
    done = xs ++ q.done;
    cut = q.cut;
    untried = q.untried;
    all = cc (append_assoc xs q.done q.cut);
    did = did_then p.did q.did;
    aside = aside_then p.aside q.aside;
    stops = q.stops;
  }

  stops_less : (h : ℕ → List Entry) (w : ℕ → ℕ) (cut more : List Act) (untried : List Datagram) (end : End)
      → Stops engine h w cut untried end → Stops engine h w (cut ++ more) untried end
  stops_less h w cut more untried (Full shard n) s = (s.0, s.1, (s.2.0, s.2.1 ++ more, cc), s.3)
  stops_less h w cut more untried (Spent shard word) s = (s.0, s.1, s.2, (s.3.0, s.3.1 ++ more, cc))
  stops_less h w cut more untried Memory s = omega (arith, s, length-append cut more)
  stops_less h w cut more untried end s = s

  -- the acts that follow are left out too
  pub stopped_less : {xs : List Act} (more : List Act) {k l : Knows} {t u : LinkObserved} {a b : ℕ} {end : End}
      → IsStopped engine xs k l t u a b end → IsStopped engine (xs ++ more) k l t u a b end
  stopped_less more {l} {end} q = record {
    done = q.done;
    cut = q.cut ++ more;
    untried = q.untried;
    all = cc (append_assoc q.done q.cut more);
    did = did_less more q.did;
    aside = q.aside;
    stops = stops_less (seen_at l) (met_word l) q.cut more q.untried end q.stops;
  }

  -- histories and words that grow make no end untrue
  pub stops_grow : (h h2 : ℕ → List Entry) {w w2 : ℕ → ℕ} (cut : List Act) (untried : List Datagram) (end : End) → ((s : ℕ)
      → length (h s) ≤ length (h2 s)) → ((s : ℕ) → w s ≤ w2 s) → Stops engine h w cut untried end → Stops engine h2 w2 cut untried end
  stops_grow h h2 cut untried (Full shard n) longer more s = (s.0, (omega arith), s.2, s.3)
  stops_grow h h2 cut untried (Spent shard word) longer more s = (s.0, s.1, (omega arith), s.3)
  stops_grow h h2 cut untried Memory longer more s = s
  stops_grow h h2 cut untried end longer more s = s

  pub done_then : {xs : List Act} (ys : List Act) {k l : Knows} (m : Knows) {t u : LinkObserved} (v : LinkObserved) {a b : ℕ} (c : ℕ)
      (r : Result
      (Unit {0}) End) → IsWhole engine xs k l t u a b → AreDone engine ys l m u v b c r → AreDone engine (xs ++ ys) k m t v a c r
  done_then ys m v c (Ok x) p q = whole_then p q
  done_then ys m v c (Err end) p q = stopped_then p q
