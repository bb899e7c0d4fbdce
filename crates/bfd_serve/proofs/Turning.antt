-- A worker's turns, one after another.
use Rattle.bfd_serve.proofs.Common.{◌≡◌, ◌⊎◌, ◌+◌, ◌<◌, ◌≤◌, false, ◌++◌, length, Result, Ok, Err, refl, ap, sym, ◌∙◌, subst, inl, inr}
use Rattle.bfd_serve.proofs.Common.{append-nil, length-append, le_refl, arith, Arrival, Datagram, Entry, risen, LinkObserved, after_receive}
use Rattle.bfd_serve.proofs.Common.{Shards, Knows, Act, seen_at, met_word, End, Ended, LinkFault, Full, Spent, Memory, act_at, worker_acts}
use Rattle.bfd_serve.proofs.Common.{Did, Stops, AreDone, IsWorking, HasWorked, IsWorkerEnd, ℕ, List, [], ◌∷◌}
use Rattle.bfd_edge.specs.declared.link.Received.TheVariants as received
use Rattle.bfd_serve.specs.declared.ending.End.TheVariants.{Turns as TurnsMade}
use Rattle.bfd_serve.proofs.Packets.{traffic_same, risen_same, risen_join}
use Rattle.bfd_serve.proofs.Doing.{did_none, did_hear, did_then}

module _ (engine : Shards) where
  pub acts_append : (xs ys : List (ℕ × Arrival)) → worker_acts engine (xs ++ ys) ≡ worker_acts engine xs ++ worker_acts engine ys
  acts_append [] ys = refl
  acts_append (x ∷ xs) ys = cc (acts_append xs ys)

  pub working_start : (k : Knows) (t : LinkObserved) → t.counts.over ≡ false → IsWorking engine k k t t 0 0
  working_start k t over = record {
    done = [];
    did = did_none engine k t 0;
    over = over;
    no_fault = refl;
    gave = risen_same t.counts.gave;
    few = le_refl 0;
  }

  -- the lists that a step leaves, written as they are needed
  did_as : {k l : Knows} {t u : LinkObserved} {hs hs2 : List (ℕ × Arrival)} {xs xs2 cut : List Act} {untried : List Datagram} {a b : ℕ}
      → hs ≡ hs2 → xs ≡ xs2 → Did engine k l t u hs xs cut untried a b → Did engine k l t u hs2 xs2 cut untried a b
  did_as {k} {l} {t} {u} {cut} {untried} {a} {b} p q d =
      subst (λ (y : List (ℕ × Arrival) × List Act). Did engine k l t u y.0 y.1 cut untried a b) (λ i. (p i, q i)) d

  -- more is observed of the link, of receiving alone
  did_observed : {k l : Knows} {t u : LinkObserved} (v : LinkObserved) {hs : List (ℕ × Arrival)} {xs : List Act} {a b : ℕ}
      → v.traffic ≡ u.traffic
      → v.counts.send_faults ≡ u.counts.send_faults → v.number ≡ u.number → Did engine k l t u hs xs [] [] a b
      → Did engine k l t v hs xs [] [] a b
  did_observed {l} {u} v {hs} {xs} {b} traffic faults same d = did_as (append-nil hs) (append-nil xs)
      (did_then engine d (did_hear engine l u v [] b (cc (traffic_same u.traffic)) faults same))

  -- of one act, either nothing was left out or all of it
  one_cut : (xs ys : List Act) {x : Act} → xs ++ ys ≡ x ∷ [] → ((xs ≡ []) × (ys ≡ x ∷ [])) ⊎ ((xs ≡ x ∷ []) × (ys ≡ []))
  one_cut [] ys is = inl (refl, is)
  one_cut (z ∷ []) [] is = inr (is, refl)
  one_cut (z ∷ []) (y ∷ ys) is = absurd (cc is)
  one_cut (z ∷ z2 ∷ xs) ys is = absurd (cc is)

  worked_cut : {k m : Knows} {t w : LinkObserved} (done : List (ℕ × Arrival)) (a : ℕ × Arrival) {xs ys : List Act} {untried : List
      Datagram} {lost turns : ℕ} (end : End) → ((xs ≡ []) × (ys ≡ act_at engine a ∷ [])) ⊎ ((xs ≡ act_at engine a ∷ []) × (ys ≡ []))
      → Did engine k m t w (done ++ a ∷ []) (worker_acts engine done ++ xs) ys untried 0 lost → (n : ℕ)
      → IsWorkerEnd engine (seen_at m) (met_word m) t w n turns ys untried end → w.counts.gave ≡ risen t.counts.gave n
      → length (done ++ a ∷ []) ≤ n → n ≤ turns → HasWorked engine k m t w turns end lost
  worked_cut {k} {m} {t} {w} done a {untried} {lost} end (inl (p, q)) d n i gave each few = record {
    done = done;
    cut = a ∷ [];
    untried = untried;
    turned = n;
    gave = gave;
    each = each;
    few = few;
    did = subst (λ (y : List Act × List Act). Did engine k m t w (done ++ a ∷ []) y.0 y.1 untried 0 lost)
        (λ j. ((ap (λ z. worker_acts engine done ++ z) p ∙ append-nil (worker_acts engine done)) j, q j)) d;
    ends = rw (← q) i;
  }
  worked_cut {k} {m} {t} {w} done a {untried} {lost} end (inr (p, q)) d n i gave each few = record {
    done = done ++ a ∷ [];
    cut = [];
    untried = untried;
    turned = n;
    gave = gave;
    each = omega (arith, ap length (append-nil (done ++ a ∷ [])));
    few = few;
    did = subst (λ (y : List (ℕ × Arrival) × List Act × List Act). Did engine k m t w y.0 y.1 y.2 untried 0 lost)
        (λ j. (sym (append-nil (done ++ a ∷ [])) j, (ap (λ z. worker_acts engine done ++ z) p ∙ sym (acts_append done (a ∷ []))) j, q j)) d;
    ends = rw (← q) i;
  }

  worker_end : (h : ℕ → List Entry) (w : ℕ → ℕ) (t u : LinkObserved) (turned turns : ℕ) (cut : List Act) (untried : List Datagram)
      (end : End)
      → Stops engine h w cut untried end → u.counts.over ≡ false → u.counts.receive_faults ≡ t.counts.receive_faults
      → IsWorkerEnd engine h w t u turned turns cut untried end
  worker_end h w t u turned turns cut untried (Full shard n) s over none = (over, none, s)
  worker_end h w t u turned turns cut untried (Spent shard word) s over none = (over, none, s)
  worker_end h w t u turned turns cut untried Memory s over none = (over, none, inl s)
  worker_end h w t u turned turns cut untried end s over none = absurd s

  pub working_quiet : {k l : Knows} {t u v : LinkObserved} {n lost : ℕ} → IsWorking engine k l t u n lost
      → v ≡ after_receive received.Quiet u
      → IsWorking engine k l t v (n + 1) lost
  working_quiet {t} {u} {v} {n} g is = record {
    done = g.done;
    over = ap (λ x. x.counts.over) is ∙ g.over;
    no_fault = ap (λ x. x.counts.receive_faults) is ∙ g.no_fault;
    did = did_observed v (cc (traffic_same u.traffic)) (ap (λ x. x.counts.send_faults) is) (ap (λ x. x.number) is) g.did;
    gave = ap (λ x. x.counts.gave) is ∙ (ap (λ x. risen x 1) g.gave ∙ risen_join t.counts.gave n 1);
    few = omega arith;
  }

  pub working_got : (k l m : Knows) (t u v w : LinkObserved) (n moment : ℕ) (arrival : Arrival) (lost after : ℕ) (r : Result (Unit {0}) End)
      → IsWorking engine k l t u n lost → v ≡ after_receive (received.Got moment arrival) u
      → AreDone engine (act_at engine (moment, arrival) ∷ []) l m v w lost after r → ((x : Unit {0}) → r ≡ Ok x → IsWorking engine k m t w
      (n + 1) after) × ((turns : ℕ) (end : End) → n < turns → r ≡ Err end → HasWorked engine k m t w turns end after)
  working_got k l m t u v w n moment arrival lost after (Ok x) g is made =
      let a : ℕ × Arrival = (moment, arrival) in
      let heard = did_then engine g.did (did_hear engine l u v (a ∷ []) lost (cc) (ap (λ x. x.counts.send_faults) is)
      (ap (λ x. x.number) is)) in (
        λ y same. record {
          done = g.done ++ a ∷ [];
          did = did_as (append-nil (g.done ++ a ∷ [])) (cc (append-nil (worker_acts engine g.done), acts_append g.done (a ∷ [])))
              (did_then engine heard made.did);
          over = made.aside.over ∙ (ap (λ x. x.counts.over) is ∙ g.over);
          no_fault = made.aside.receive_faults ∙ (ap (λ x. x.counts.receive_faults) is ∙ g.no_fault);
          gave = made.aside.gave ∙ (ap (λ x. x.counts.gave) is ∙ (ap (λ x. risen x 1) g.gave ∙ risen_join t.counts.gave n 1));
          few = omega (arith, length-append g.done (a ∷ []));
        },
        λ turns end less same. absurd (cc same),
      )
  working_got k l m t u v w n moment arrival lost after (Err end) g is made =
      let a : ℕ × Arrival = (moment, arrival) in
      let heard = did_then engine g.did (did_hear engine l u v (a ∷ []) lost (cc) (ap (λ x. x.counts.send_faults) is)
      (ap (λ x. x.number) is)) in (
        λ y same. absurd (cc same),
        λ turns end2 less same. let ends : end ≡ end2 = cc same in
            rw (← ends) (worked_cut g.done a end (one_cut made.done made.cut made.all)
            (did_as (append-nil (g.done ++ a ∷ [])) (cc (append-nil (worker_acts engine g.done))) (did_then engine heard made.did)) (n + 1)
            (worker_end (seen_at m) (met_word m) t w (n + 1) turns made.cut made.untried end made.stops (made.aside.over
            ∙ (ap (λ x. x.counts.over) is ∙ g.over)) (made.aside.receive_faults ∙ (ap (λ x. x.counts.receive_faults) is ∙ g.no_fault)))
            (made.aside.gave ∙ (ap (λ x. x.counts.gave) is ∙ (ap (λ x. risen x 1) g.gave ∙ risen_join t.counts.gave n 1)))
            (omega (arith, length-append g.done (a ∷ []))) (omega arith)),
      )

  pub worked_without : (k : Knows) (t : LinkObserved) (turns : ℕ) → t.counts.over ≡ false → 0 < turns
      → HasWorked engine k k t t turns Memory 0
  worked_without k t turns over some = record {
    done = [];
    cut = [];
    untried = [];
    did = did_none engine k t 0;
    ends = (over, refl, inr some);
    turned = 0;
    gave = risen_same t.counts.gave;
    each = le_refl 0;
    few = omega arith;
  }

  -- nothing was left out
  working_end : {k l : Knows} {t u : LinkObserved} (v : LinkObserved) {n lost turns : ℕ} (end : End) → IsWorking engine k l t u n lost
      → n ≤ turns
      → v.traffic ≡ u.traffic → v.counts.send_faults ≡ u.counts.send_faults → v.number ≡ u.number → v.counts.gave ≡ u.counts.gave
      → IsWorkerEnd engine (seen_at l) (met_word l) t v n turns [] [] end → HasWorked engine k l t v turns end lost
  working_end v {n} end g few traffic faults same gave i = record {
    done = g.done;
    cut = [];
    untried = [];
    ends = i;
    turned = n;
    gave = gave ∙ g.gave;
    each = omega (arith, g.few, ap length (append-nil g.done));
    few = few;
    did = did_as (sym (append-nil g.done)) refl (did_observed v traffic faults same g.did);
  }

  pub working_over : {k l : Knows} {t u v : LinkObserved} {n lost turns : ℕ} → IsWorking engine k l t u n lost → n ≤ turns
      → v ≡ after_receive received.Ended u → HasWorked engine k l t v turns Ended lost
  working_over {u} {v} g few is = working_end v Ended g few (cc (traffic_same u.traffic)) (ap (λ x. x.counts.send_faults) is)
      (ap (λ x. x.number) is) (ap (λ x. x.counts.gave) is)
      (refl, refl, ap (λ x. x.counts.over) is, ap (λ x. x.counts.receive_faults) is ∙ g.no_fault)

  pub working_fault : {k l : Knows} {t u v : LinkObserved} {n lost turns : ℕ} → IsWorking engine k l t u n lost → n ≤ turns
      → v ≡ after_receive received.Failed u → HasWorked engine k l t v turns LinkFault lost
  working_fault {u} {v} g few is = working_end v LinkFault g few (cc (traffic_same u.traffic)) (ap (λ x. x.counts.send_faults) is)
      (ap (λ x. x.number) is) (ap (λ x. x.counts.gave) is)
      (refl, refl, ap (λ x. x.counts.over) is ∙ g.over, ap (λ x. x.counts.receive_faults) is ∙ ap (λ x. risen x 1) g.no_fault)

  pub working_memory : {k l : Knows} {t u v : LinkObserved} {n lost turns : ℕ} → IsWorking engine k l t u n lost → n < turns
      → v ≡ after_receive received.Memory u → HasWorked engine k l t v turns Memory lost
  working_memory {u} {v} g few is = working_end v Memory g (omega arith) (cc (traffic_same u.traffic)) (cc) (cc) (cc) (cc, cc, inr few)

  pub working_turns : {k l : Knows} {t u : LinkObserved} {n lost turns : ℕ} → IsWorking engine k l t u n lost → n ≡ turns
      → HasWorked engine k l t u turns (TurnsMade turns) lost
  working_turns {u} {turns} g is = working_end u (TurnsMade turns) g (omega arith) refl refl refl refl
      (refl, refl, g.over, g.no_fault, refl, cc)
