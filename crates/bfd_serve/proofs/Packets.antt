-- What is observed of a link after several sends.
use Rattle.bfd_serve.proofs.Common.{◌≡◌, zero, suc, length-append, ◌+◌, ◌<◌, ◌≤◌, ◌++◌, take, take_all, drop, length, slice_index_or}
use Rattle.bfd_serve.proofs.Common.{Option, Some, None, Ok, Err, refl, ap, ap₂, sym, ◌∙◌, subst, inl, inr, append_assoc, append-nil, arith}
use Rattle.bfd_serve.proofs.Common.{take_more, take-append-drop, filter_map-append, Arrival, Datagram, risen, Traffic, LinkObserved}
use Rattle.bfd_serve.proofs.Common.{more_traffic, after_send, datagram_in, datagrams, Lacks, HasSent, ℕ, List, [], ◌∷◌, Out}
use Rattle.bfd_edge.specs.declared.fault.Fault.TheVariants as fault

pub traffic_same : (x : Option Traffic) → more_traffic [] [] x ≡ x
traffic_same None = refl
traffic_same (Some l) = ap₂ (λ a b. Some (record { received = a; sent = b })) (append-nil l.received) (append-nil l.sent)

pub traffic_join : (hs : List (ℕ × Arrival)) (ss : List Datagram) (hs2 : List (ℕ × Arrival)) (ss2 : List Datagram) (x : Option Traffic)
    → more_traffic hs2 ss2 (more_traffic hs ss x) ≡ more_traffic (hs ++ hs2) (ss ++ ss2) x
traffic_join hs ss hs2 ss2 None = refl
traffic_join hs ss hs2 ss2 (Some l) = ap₂ (λ a b. Some (record { received = a; sent = b })) (append_assoc l.received hs hs2)
    (append_assoc l.sent ss ss2)

pub risen_same : (a : ℕ) → a ≡ risen a 0
risen_same a = omega arith

pub risen_join : (a j k : ℕ) → risen (risen a j) k ≡ risen a (j + k)
risen_join a j k = omega arith

pub lacks_append : (xs ys xs2 ys2 : List Datagram) (m m2 : ℕ) → Lacks xs ys m → Lacks xs2 ys2 m2 → Lacks (xs ++ xs2) (ys ++ ys2) (m + m2)
lacks_append [] ys xs2 ys2 m m2 (a, b) l = subst (λ (t : List Datagram × ℕ). Lacks xs2 t.0 t.1)
    (λ k. (sym (ap (λ w. w ++ ys2) a) k, (let e : m2 ≡ m + m2 = omega (arith, b) in e) k)) l
lacks_append (x ∷ xs) ys xs2 ys2 m m2 (inl (rest, e, l)) l2 = inl (rest ++ ys2, cc, lacks_append xs rest xs2 ys2 m m2 l l2)
lacks_append (x ∷ xs) ys xs2 ys2 m m2 (inr (j, e, l)) l2 = inr (j + m2, omega (arith, e), lacks_append xs ys xs2 ys2 j m2 l l2)

-- nothing to send
pub sent_none : (t : LinkObserved) (lost : ℕ) → HasSent [] [] t t lost lost
sent_none t lost = record {
  tried = [];
  kept = [];
  missing = 0;
  parts = refl;
  lacks = (refl, refl);
  observed = ap₂ (λ a b. record t { traffic = a; counts = record t.counts { send_faults = b } }) (sym (traffic_same t.traffic))
      (risen_same t.counts.send_faults);
  lost_is = risen_same lost;
}

-- one packet was sent
pub sent_ok : (d : Datagram) (t u : LinkObserved) (lost : ℕ) → u ≡ after_send d (Ok tt) t → HasSent (d ∷ []) [] t u lost lost
sent_ok d t u lost is = record {
  tried = d ∷ [];
  kept = d ∷ [];
  missing = 0;
  parts = refl;
  lacks = inl ([], refl, (refl, refl));
  lost_is = risen_same lost;
  observed = is ∙ ap (λ b. record t { traffic = more_traffic [] (d ∷ []) t.traffic; counts = record t.counts { send_faults = b } })
      (risen_same t.counts.send_faults);
}

-- one packet failed
pub sent_failed : (d : Datagram) (t u : LinkObserved) (lost after : ℕ) → u ≡ after_send d (Err fault.Failed) t → after ≡ risen lost 1
    → HasSent (d ∷ []) [] t u lost after
sent_failed d t u lost after is up = record {
  tried = d ∷ [];
  kept = [];
  missing = 1;
  parts = refl;
  lacks = inr (0, refl, (refl, refl));
  observed = is;
  lost_is = up;
}

-- running out of memory leaves what is observed of a link
pub unsent : (d : Datagram) (t u : LinkObserved) → u ≡ after_send d (Err fault.Memory) t → u ≡ t
unsent d t u is = is ∙ ap (λ a. record t { traffic = a }) (traffic_same t.traffic)

-- packets that were sent after others
sent_then : {xs ys : List Datagram} {t u v : LinkObserved} {a b c : ℕ} → HasSent xs [] t u a b → HasSent ys [] u v b c
    → HasSent (xs ++ ys) [] t v a c
sent_then {t} {a} {b} p q = record {
  tried = p.tried ++ q.tried;
  kept = p.kept ++ q.kept;
  missing = p.missing + q.missing;
  parts = ap₂ ◌++◌ (p.parts ∙ append-nil p.tried) (q.parts ∙ append-nil q.tried) ∙ sym (append-nil (p.tried ++ q.tried));
  lacks = lacks_append p.tried p.kept q.tried q.kept p.missing q.missing p.lacks q.lacks;
  observed = q.observed ∙ (ap (λ (x : LinkObserved). record x {
    traffic = more_traffic [] q.kept x.traffic;
    counts = record x.counts { send_faults = risen x.counts.send_faults q.missing };
  }) p.observed
      ∙ ap₂ (λ a b. record t { traffic = a; counts = record t.counts { send_faults = b } }) (traffic_join [] p.kept [] q.kept t.traffic)
      (risen_join t.counts.send_faults p.missing q.missing));
  lost_is = cc (risen_join a p.missing q.missing);
}

-- some packets more weren't tried
sent_stopped : {xs : List Datagram} (rest : List Datagram) {t u : LinkObserved} {lost after : ℕ} → HasSent xs [] t u lost after
    → HasSent (xs ++ rest) rest t u lost after
sent_stopped rest s = record {
  tried = s.tried;
  kept = s.kept;
  missing = s.missing;
  parts = cc (append-nil s.tried);
  lacks = s.lacks;
  observed = s.observed;
  lost_is = s.lost_is;
}

-- after one more output
pub sent_upto : (outs : List Out) {i : ℕ} (d : Out) {t u v : LinkObserved} {a b c : ℕ} → i < length outs
    → HasSent (datagrams (take i outs)) [] t u a b → HasSent (datagrams (slice_index_or outs i d ∷ [])) [] u v b c
    → HasSent (datagrams (take (i + 1) outs)) [] t v a c
sent_upto outs {i} d h p q = rw (ap datagrams (take_more outs i d h)
    ∙ filter_map-append datagram_in (take i outs) (slice_index_or outs i d ∷ [])) (sent_then p q)

-- before the outputs that are left
pub sent_cut : (outs : List Out) (i : ℕ) {t u : LinkObserved} {lost after : ℕ} → HasSent (datagrams (take i outs)) [] t u lost after
    → HasSent (datagrams outs) (datagrams (drop i outs)) t u lost after
sent_cut outs i s = rw (← sym (filter_map-append datagram_in (take i outs) (drop i outs)) ∙ ap datagrams (take-append-drop i outs))
    (sent_stopped (datagrams (drop i outs)) s)

pub sent_whole : (outs : List Out) {i : ℕ} {t u : LinkObserved} {lost after : ℕ} → length outs ≤ i
    → HasSent (datagrams (take i outs)) [] t u lost after → HasSent (datagrams outs) [] t u lost after
sent_whole outs {i} h s = rw (← take_all i outs h) s

-- from an output with a packet on there are packets
pub some_left : (outs : List Out) (i : ℕ) (d : Out) → i < length outs → 0 < length (datagrams (slice_index_or outs i d ∷ []))
    → 0 < length (datagrams (drop i outs))
some_left [] i d h p = absurd (omega (arith, h))
some_left (x ∷ outs) zero d h p = omega (
  arith,
  p,
  ap length (filter_map-append datagram_in (x ∷ []) outs),
  length-append (datagrams (x ∷ [])) (datagrams outs),
)
some_left (x ∷ outs) (suc i) d h p = some_left outs i d (omega (arith, h)) p
