-- A side in Init or Up, and each packet in Init or Up that it has sent, come after it handled a packet of the other side.
use Rattle.bfd_pair.proofs.Common.{◌≡◌, ◌⊎◌, inl, inr, ◌++◌, ◌==◌, ◌-◌, ◌<◌, ◌≤◌, ℕ, Bool, true, false, List, [], ◌∷◌, length}
use Rattle.bfd_pair.proofs.Common.{length-append, refl, sym, ap, ◌∙◌, arith, append_assoc, append-nil, Some, slice_get, both_ways}
use Rattle.bfd_pair.proofs.Common.{fields_of, is_init_or_up, SessionConfig, PointToPoint, started, Side, Left, Right, PairEvent, Give, End}
use Rattle.bfd_pair.proofs.Common.{Both}
use Rattle.bfd_pair.proofs.Common.{side_of, packet_at, both_after, pair_run, turn, Heard, sent_by_then, drawn_state, nat_tests}
use Rattle.bfd_p2p.specs.Machine.{made as pair_made}
use Rattle.bfd_pair.proofs.Points.{IsPoint, run_point}
use Rattle.bfd_pair.proofs.Packets.{each_at, Later, first_or_later}
use Rattle.bfd_pair.proofs.Cold.{IsCold}
use Rattle.bfd_pair.proofs.Sides.{Grows, Quiet, Hears, hears_or_quiet}

-- one more event

after-append : (w : Both) (xs ys : List PairEvent) → both_after (xs ++ ys) w ≡ both_after ys (both_after xs w)
after-append w [] ys = refl
after-append w (x ∷ xs) ys = after-append (turn x w).both xs ys

pub run_more : (left right : SessionConfig) (past : List PairEvent) (event : PairEvent)
    → pair_run left right (past ++ event ∷ []) ≡ (turn event (pair_run left right past)).both
unfolding pair_run
run_more left right past event = after-append _ past (event ∷ [])

-- the side had heard the other when it had sent at most n packets
pub record HeardBy (left right : SessionConfig) (side : Side) (past : List PairEvent) (n : ℕ) : Type 0 where
  pub heard : Heard left right side past
  pub by : sent_by_then left right side past heard ≤ n

heard_still : {left right : SessionConfig} {side : Side} {past : List PairEvent} (event : PairEvent) {m n : ℕ} → m ≤ n
    → HeardBy left right side past m → HeardBy left right side (past ++ event ∷ []) n
heard_still {left} {right} {side} event {m} le h = record {
  heard = record {
    before = h.heard.before;
    later = h.heard.later ++ event ∷ [];
    moment = h.heard.moment;
    number = h.heard.number;
    split = cc (append_assoc h.heard.before (Give side h.heard.moment h.heard.number ∷ h.heard.later) (event ∷ []));
    bytes = h.heard.bytes;
    sent = h.heard.sent;
    handled = h.heard.handled;
  };
  by = omega arith;
}

heard_now : (left right : SessionConfig) {side : Side} (past : List PairEvent) {event : PairEvent} {n : ℕ} {e e2 : End}
    → length (side_of side (pair_run left right past)).sent ≤ n → Hears (pair_run left right past) event side e e2
    → HeardBy left right side (past ++ event ∷ []) n
heard_now left right past le h = record {
  heard = record {
    before = past;
    later = [];
    moment = h.moment;
    number = h.number;
    split = cc;
    bytes = h.bytes;
    sent = h.sent;
    handled = h.handled;
  };
  by = le;
}

-- the invariant
pub record Reported (left right : SessionConfig) (side : Side) (past : List PairEvent) (e : End) : Type 0 where
  pub state : is_init_or_up e.session.vars.state ≡ true → HeardBy left right side past (length e.sent)
  pub packets : (k : ℕ) (bytes : List ℕ) → slice_get e.sent k ≡ Some bytes → is_init_or_up (fields_of bytes).state ≡ true
      → HeardBy left right side past k

either : (b : Bool) → (b ≡ false) ⊎ (b ≡ true)
either true = inr refl
either false = inl refl

more_sent : {e e2 : End} (g : Grows e e2) → length e.sent ≤ length e2.sent
more_sent {e} g =
    let same = ap (λ ps. length ps) g.appended in
    omega (arith, length-append e.sent g.more)

-- a packet that was sent before the event, or in it
packet_then : {left right : SessionConfig} {side : Side} {past : List PairEvent} (event : PairEvent) {e e2 : End}
    → Reported left right side past e → (g : Grows e e2)
    → ((k : ℕ) (bytes : List ℕ) → Later e.sent g.more k bytes → is_init_or_up (fields_of bytes).state ≡ true
    → HeardBy left right side (past ++ event ∷ []) k)
    → (k : ℕ) (bytes : List ℕ) → slice_get e2.sent k ≡ Some bytes → is_init_or_up (fields_of bytes).state ≡ true
    → HeardBy left right side (past ++ event ∷ []) k
packet_then event {e} t g now k bytes there warm =
    elim (first_or_later e.sent g.more k (ap (λ (ps : List (List ℕ)). slice_get ps k) (sym g.appended) ∙ there)) [
      | inl first ↦ heard_still event (omega arith) (t.packets k bytes first warm)
      | inr later ↦ now k bytes later warm
    ]

-- a side that had heard the other has heard it
reported_warm : {left right : SessionConfig} {side : Side} {past : List PairEvent} (event : PairEvent) {e e2 : End}
    → Reported left right side past e → Grows e e2 → ((n : ℕ) → length e.sent ≤ n → HeardBy left right side (past ++ event ∷ []) n)
    → Reported left right side (past ++ event ∷ []) e2
reported_warm event {e2} t g heard = record {
  state = λ warm. heard (length e2.sent) (more_sent g);
  packets = packet_then event t g (λ k bytes later warm. heard k later.after);
}

reported_quiet : {left right : SessionConfig} {side : Side} {past : List PairEvent} (event : PairEvent) {e e2 : End}
    → Reported left right side past e → Quiet e e2 → Reported left right side (past ++ event ∷ []) e2
reported_quiet event {e} t q = elim (either (is_init_or_up e.session.vars.state)) [
  | inl low ↦ record {
    state = λ warm. absurd (both_ways _ (q.state low) warm);
    packets = packet_then event t q.grows
        (λ k bytes later warm. absurd (both_ways _ (each_at IsCold q.grows.more later.place (q.packets low) later.there) warm));
  }
  | inr warm ↦ reported_warm event t q.grows (λ n le. heard_still event le (t.state warm))
]

reported_step : (left right : SessionConfig) (side : Side) (past : List PairEvent) (event : PairEvent)
    → IsPoint (side_of side (pair_run left right past)).session.config
    → Reported left right side past (side_of side (pair_run left right past))
    → Reported left right side (past ++ event ∷ []) (side_of side (turn event (pair_run left right past)).both)
reported_step left right side past event p t = elim (hears_or_quiet (pair_run left right past) event side p) [
  | inl quiet ↦ reported_quiet event t quiet
  | inr hears ↦ reported_warm event t hears.grows (λ n le. heard_now left right past le hears)
]

started_cold : (config : SessionConfig) → IsPoint config → is_init_or_up (started config).vars.state ≡ false
unfolding pair_made
started_cold (PointToPoint c) p = ap is_init_or_up (drawn_state c.active _ _)
started_cold config p = absurd p

module _ (left right : SessionConfig) (l : IsPoint left) (r : IsPoint right) where
  reported_start : (side : Side) → Reported left right side [] (side_of side (pair_run left right []))
  unfolding pair_run
  reported_start Left = record { state = λ warm. absurd (both_ways _ (started_cold left l) warm); packets = λ k bytes there warm. cc }
  reported_start Right = record { state = λ warm. absurd (both_ways _ (started_cold right r) warm); packets = λ k bytes there warm. cc }

  reported_on : (side : Side) (past events : List PairEvent) → Reported left right side past (side_of side (pair_run left right past))
      → Reported left right side (past ++ events) (side_of side (pair_run left right (past ++ events)))
  reported_on side past [] t = rw (append-nil past) t
  reported_on side past (event ∷ events) t = rw (← append_assoc past (event ∷ []) events) (reported_on side (past ++ event ∷ []) events
      (rw (run_more left right past event) (reported_step left right side past event (run_point left right l r past side) t)))

  reported : (side : Side) (past : List PairEvent) → Reported left right side past (side_of side (pair_run left right past))
  reported side past = reported_on side [] past (reported_start side)

-- where the packet of a number stands
pub record At (number : ℕ) (sent : List (List ℕ)) (bytes : List ℕ) : Type 0 where
  pub place : ℕ
  pub below : place < number
  pub there : slice_get sent place ≡ Some bytes

place_by : (number : ℕ) (sent : List (List ℕ)) {bytes : List ℕ} (zero : Bool) → (number == 0) ≡ zero → packet_at number sent ≡ Some bytes
    → At number sent bytes
place_by number sent true is found = absurd (cc)
place_by number sent false is found = record {
  place = number - 1;
  below = grind (arith, nat_tests);
  there = cc;
}

-- a packet in Init or Up was sent after its sender had heard the other side
pub packet_heard : (left right : SessionConfig) → IsPoint left → IsPoint right
    → (side : Side) (past : List PairEvent) (number : ℕ) {bytes : List ℕ}
    → packet_at number (side_of side (pair_run left right past)).sent ≡ Some bytes → is_init_or_up (fields_of bytes).state ≡ true
    → (heard : Heard left right side past) × (sent_by_then left right side past heard < number)
packet_heard left right l r side past number {bytes} found warm =
    let at = place_by number _ _ refl found in
    let h = (reported left right l r side past).packets at.place bytes at.there warm in
    (h.heard, (omega arith))
