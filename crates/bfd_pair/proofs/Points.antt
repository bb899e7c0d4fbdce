-- The sessions of a pair are point-to-point ones, and stay so: no event changes a configuration.
use Rattle.bfd_pair.proofs.Common.{◌≡◌, ℕ, List, [], ◌∷◌, refl, sym, ◌∙◌, subst, length, Option, None, Some, Arrival, Test, SessionConfig}
use Rattle.bfd_pair.proofs.Common.{PointToPoint, Side, Left, Right, PairEvent, Tick, Give, Order, End, Both, side_of, packet_at, arrival_to}
use Rattle.bfd_pair.proofs.Common.{screened, judged_move, comes, given_packet, opened_side, both_after, pair_run, turn}

-- a point-to-point session's configuration
abbrev pub IsPoint : SessionConfig → Type 0
IsPoint (PointToPoint c) = Unit {0}
IsPoint _ = ⊥

-- only to such a session a packet is on its way
pub way_point : (config : SessionConfig) (bytes : List ℕ) {arrival : Arrival} → arrival_to config bytes ≡ Some arrival → IsPoint config
way_point (PointToPoint c) bytes is = tt
way_point config bytes is = cc

-- no event changes a configuration

judged_config : (failing : Option Test) (moment last : ℕ) (arrival : Arrival) (e : End)
    → (judged_move failing moment last arrival e).end.session.config ≡ e.session.config
judged_config (Some test) moment last arrival e = refl
judged_config None moment last arrival e = refl

comes_config : (arrival : Option Arrival) (moment last : ℕ) (e : End) → (comes arrival moment last e).end.session.config ≡ e.session.config
comes_config None moment last e = refl
comes_config (Some arrival) moment last e = judged_config (screened e.session.config arrival) moment last arrival e

given_config : (found : Option (List ℕ)) (count moment last : ℕ) (e : End)
    → (given_packet found count moment last e).end.session.config ≡ e.session.config
given_config None count moment last e = refl
given_config (Some bytes) count moment last e = comes_config (arrival_to e.session.config bytes) moment last e

pub turn_config : (event : PairEvent) (w : Both) (side : Side)
    → (side_of side (turn event w).both).session.config ≡ (side_of side w).session.config
turn_config (Tick t) w Left = refl
turn_config (Give Left moment number) w Left = given_config (packet_at number w.right.sent) (length w.right.sent) moment w.last w.left
turn_config (Give Right moment number) w Right = given_config (packet_at number w.left.sent) (length w.left.sent) moment w.last w.right
turn_config (Order Left moment cmd) w Left = refl
turn_config (Order Right moment cmd) w Left = refl
turn_config (Order Left moment cmd) w Right = refl
turn_config event w side = refl

after_config : (events : List PairEvent) (w : Both) (side : Side)
    → (side_of side (both_after events w)).session.config ≡ (side_of side w).session.config
after_config [] w side = refl
after_config (event ∷ events) w side = after_config events (turn event w).both side ∙ turn_config event w side

pub run_point : (left right : SessionConfig) → IsPoint left → IsPoint right → (past : List PairEvent) (side : Side)
    → IsPoint (side_of side (pair_run left right past)).session.config
unfolding pair_run
run_point left right l r past Left =
    subst IsPoint (sym (after_config past (record { left = opened_side left; right = opened_side right; last = 0 }) Left)) l
run_point left right l r past Right =
    subst IsPoint (sym (after_config past (record { left = opened_side left; right = opened_side right; last = 0 }) Right)) r
