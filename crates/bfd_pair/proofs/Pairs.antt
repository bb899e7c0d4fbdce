-- An event leaves a pair of what the past, with it, makes.
use Rattle.bfd_pair.proofs.Common.{◌≡◌, ◌≤◌, ◌++◌, ℕ, true, false, List, [], ◌∷◌, sym, ap, ◌∙◌, arith, greatest_tick, SessionConfig, Side}
use Rattle.bfd_pair.proofs.Common.{Left, Right, PairEvent, Peer, items_of, opened_side, pair_run, turn, IsHandshake, reports_up}
use Rattle.bfd_pair.proofs.Common.{is_up_after}
use Rattle.bfd_pair.proofs.Common.{seen, both_of, Pairing, pairing_of, IsPeer, IsPair}
use Rattle.bfd_pair.proofs.Points.{IsPoint, way_point, turn_config}
use Rattle.bfd_pair.proofs.Hearing.{run_more}
use Rattle.bfd_pair.proofs.Handshakes.{handshakes, comes_up}

-- a side's session is point-to-point
peer_point : {p : Peer} → IsPeer p → IsPoint p.session.config
peer_point {p} peer = way_point p.session.config [] (peer.way [])

module _ (l r l2 r2 : Peer) (last last2 : ℕ) (past past2 : List PairEvent) (event : PairEvent) (p : Pairing)
    (pair : IsPair l r last past) (view : pairing_of l r past ≡ p)
    (both : both_of l2 r2 last2 ≡ (turn event (both_of l r last)).both) (more : past2 ≡ past ++ event ∷ []) where
  left_same : l2.session.config ≡ l.session.config
  left_same = cc (turn_config event (both_of l r last) Left)

  right_same : r2.session.config ≡ r.session.config
  right_same = cc (turn_config event (both_of l r last) Right)

  run_now : both_of l2 r2 last2 ≡ pair_run l2.session.config r2.session.config past2
  run_now = cc (run_more l.session.config r.session.config past event, left_same, right_same)

  pub pair_more : IsPeer l2 → IsPeer r2 → last2 ≤ greatest_tick → IsPair l2 r2 last2 past2
  pair_more left right within = record { left_peer = left; right_peer = right; within = within; run = run_now }

  pub pairing_more : pairing_of l2 r2 past2 ≡ record p { past = p.past ++ event ∷ [] }
  pairing_more = cc (left_same, right_same)

  left_point : IsPoint p.left
  left_point = rw (← view) (peer_point pair.left_peer)

  right_point : IsPoint p.right
  right_point = rw (← view) (peer_point pair.right_peer)

  pub handshake_more : (side : Side) → reports_up (items_of side (turn event (pair_run p.left p.right p.past))) ≡ true
      → IsHandshake p.left p.right side event p.past
  handshake_more side up = handshakes p.left p.right left_point right_point p.past event side up

  pub rises_more : (side : Side) → is_up_after p.left p.right side p.past ≡ false
      → is_up_after l2.session.config r2.session.config side past2 ≡ true → IsHandshake p.left p.right side event p.past
  rises_more side low up = comes_up p.left p.right left_point right_point p.past event side low
      (ap (λ x. is_up_after x.left x.right side x.past) (sym pairing_more) ∙ up)

-- two sides at the start
pub pair_start : {l r : Peer} {left right : SessionConfig} {past : List PairEvent} → IsPeer l → IsPeer r
    → seen l ≡ opened_side left → seen r ≡ opened_side right → past ≡ [] → IsPair l r 0 past
unfolding pair_run
pair_start {l} {r} {left} {right} hl hr el er none = record {
  left_peer = hl;
  right_peer = hr;
  within = omega arith;
  run = ap (λ e. record { left = e; right = seen r; last = 0 }) el ∙ (ap (λ e. record { left = opened_side left; right = e; last = 0 }) er
      ∙ (ap (λ c. pair_run c right []) (sym (ap (λ e. e.session.config) el))
      ∙ (ap (λ c. pair_run l.session.config c []) (sym (ap (λ e. e.session.config) er))
      ∙ ap (λ es. pair_run l.session.config r.session.config es) (sym none))));
}
