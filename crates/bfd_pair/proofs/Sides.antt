-- What an event makes of one side: it handles a packet, or stays as cold as it was.
use Rattle.bfd_pair.proofs.Common.{◌≡◌, ◌⊎◌, inl, inr, ◌++◌, ◌*◌, max, ℕ, Bool, true, false, List, [], refl, sym, ap, append-nil, length}
use Rattle.bfd_pair.proofs.Common.{Option, None, Some, Arrival, Test, is_init_or_up, Cmd, Packet, Command, Side, Left, Right, PairEvent}
use Rattle.bfd_pair.proofs.Common.{Tick, Give, Order, End, Both, Move, other, side_of, packets_among, packet_at, arrival_to, screened}
use Rattle.bfd_pair.proofs.Common.{own_move, judged_move, comes, given_packet, ticking, side_moves, turn, Answer, Handled, effective}
use Rattle.bfd_pair.proofs.Common.{step_outcome, tick_items}
use Rattle.bfd_pair.specs.declared.event.PairAnswer.TheVariants.{Did}
use Rattle.bfd_pair.proofs.Points.{IsPoint}
use Rattle.bfd_pair.proofs.Packets.{Each}
use Rattle.bfd_pair.proofs.Cold.{IsCold, is_handled, tick_state, tick_packets, order_state, order_packets, packet_state, packet_packets}

-- packets were sent besides
pub record Grows (e e2 : End) : Type 0 where
  pub more : List (List ℕ)
  pub appended : e2.sent ≡ e.sent ++ more

-- and a side outside Init and Up stays there, and sent none in Init or Up
pub record Quiet (e e2 : End) : Type 0 where
  pub grows : Grows e e2
  pub state : is_init_or_up e.session.vars.state ≡ false → is_init_or_up e2.session.vars.state ≡ false
  pub packets : is_init_or_up e.session.vars.state ≡ false → Each IsCold grows.more

abbrev rests_quiet : (e : End) → Quiet e e
rests_quiet e = record {
  grows = record { more = []; appended = sym (append-nil e.sent) };
  state = λ h. h;
  packets = λ h. tt;
}

ticking_quiet : (last : ℕ) (e : End) → IsPoint e.session.config → Quiet e (ticking last e)
ticking_quiet last e p = record {
  grows = record { more = packets_among (tick_items last e.session); appended = refl };
  state = λ h. tick_state e.session (1000 * last) (max (1000 * last) e.session.vars.at) p h;
  packets = λ h. tick_packets e.session (1000 * last) (max (1000 * last) e.session.vars.at) p h;
}

order_quiet : (moment last : ℕ) (cmd : Cmd) (e : End) → IsPoint e.session.config → Quiet e (own_move moment last (Command cmd) e).end
order_quiet moment last cmd e p = record {
  grows = record { more = packets_among (step_outcome moment last (Command cmd) e.session).items; appended = refl };
  state = λ h. order_state e.session (effective moment last e.session) cmd p h;
  packets = λ h. order_packets e.session (effective moment last e.session) cmd p h;
}

packet_grows : (moment last : ℕ) (arrival : Arrival) (e : End) → Grows e (own_move moment last (Packet arrival) e).end
packet_grows moment last arrival e = record {
  more = packets_among (step_outcome moment last (Packet arrival) e.session).items;
  appended = refl;
}

packet_quiet : (moment last : ℕ) (arrival : Arrival) (e : End) → IsPoint e.session.config
    → is_handled (step_outcome moment last (Packet arrival) e.session).answer ≡ false
    → Quiet e (own_move moment last (Packet arrival) e).end
unfolding packet_grows
packet_quiet moment last arrival e p refused = record {
  grows = packet_grows moment last arrival e;
  state = λ h. packet_state e.session (effective moment last e.session) arrival p refused h;
  packets = λ h. packet_packets e.session (effective moment last e.session) arrival p refused h;
}

-- the side is given a packet of the other side, and handles it
pub record Hears (w : Both) (event : PairEvent) (side : Side) (e e2 : End) : Type 0 where
  pub moment : ℕ
  pub number : ℕ
  pub gives : event ≡ Give side moment number
  pub bytes : List ℕ
  pub sent : packet_at number (side_of (other side) w).sent ≡ Some bytes
  pub handled : (turn (Give side moment number) w).answer ≡ Did Handled
  pub grows : Grows e e2

moves_answer : (side : Side) (m : Move) (w : Both) → (side_moves side m w).answer ≡ m.answer
moves_answer Left m w = refl
moves_answer Right m w = refl

is_answer : (a : Answer) → is_handled a ≡ true → a ≡ Handled
is_answer Handled h = refl
is_answer a h = cc

by_answer : (moment last : ℕ) (arrival : Arrival) (e : End) (b : Bool) → IsPoint e.session.config
    → is_handled (step_outcome moment last (Packet arrival) e.session).answer ≡ b → Quiet e (own_move moment last (Packet arrival) e).end
    ⊎ (((own_move moment last (Packet arrival) e).answer ≡ Did Handled) × Grows e (own_move moment last (Packet arrival) e).end)
by_answer moment last arrival e true p is = inr (ap Did (is_answer _ is), packet_grows moment last arrival e)
by_answer moment last arrival e false p is = inl (packet_quiet moment last arrival e p is)

by_test : (failing : Option Test) (moment last : ℕ) (arrival : Arrival) (e : End) → IsPoint e.session.config
    → Quiet e (judged_move failing moment last arrival e).end
    ⊎ (((judged_move failing moment last arrival e).answer ≡ Did Handled) × Grows e (judged_move failing moment last arrival e).end)
by_test (Some test) moment last arrival e p = inl (rests_quiet e)
by_test None moment last arrival e p = by_answer moment last arrival e _ p refl

by_arrival : (arrival : Option Arrival) (moment last : ℕ) (e : End) → IsPoint e.session.config → Quiet e (comes arrival moment last e).end
    ⊎ (((comes arrival moment last e).answer ≡ Did Handled) × Grows e (comes arrival moment last e).end)
by_arrival None moment last e p = inl (rests_quiet e)
by_arrival (Some arrival) moment last e p = by_test (screened e.session.config arrival) moment last arrival e p

by_packet : (w : Both) (side : Side) (moment number : ℕ) (found : Option (List ℕ)) → IsPoint (side_of side w).session.config
    → packet_at number (side_of (other side) w).sent ≡ found
    → Quiet (side_of side w) (given_packet found (length (side_of (other side) w).sent) moment w.last (side_of side w)).end
    ⊎ Hears w (Give side moment number) side (side_of side w)
    (given_packet found (length (side_of (other side) w).sent) moment w.last (side_of side w)).end
by_packet w side moment number None p is = inl (rests_quiet (side_of side w))
by_packet w side moment number (Some bytes) p is =
    elim (by_arrival (arrival_to (side_of side w).session.config bytes) moment w.last (side_of side w) p) [
      | inl quiet ↦ inl quiet
      | inr heard ↦ inr (record {
        moment = moment;
        number = number;
        gives = refl;
        bytes = bytes;
        sent = is;
        handled = cc (moves_answer side _ w);
        grows = heard.1;
      })
    ]

pub hears_or_quiet : (w : Both) (event : PairEvent) (side : Side) → IsPoint (side_of side w).session.config
    → Quiet (side_of side w) (side_of side (turn event w).both) ⊎ Hears w event side (side_of side w) (side_of side (turn event w).both)
hears_or_quiet w (Tick t) Left p = inl (ticking_quiet (max w.last t) w.left p)
hears_or_quiet w (Tick t) Right p = inl (ticking_quiet (max w.last t) w.right p)
hears_or_quiet w (Give Left moment number) Left p = by_packet w Left moment number _ p refl
hears_or_quiet w (Give Left moment number) Right p = inl (rests_quiet w.right)
hears_or_quiet w (Give Right moment number) Right p = by_packet w Right moment number _ p refl
hears_or_quiet w (Order Left moment cmd) Left p = inl (order_quiet moment w.last cmd w.left p)
hears_or_quiet w (Order Left moment cmd) Right p = inl (rests_quiet w.right)
hears_or_quiet w (Order Right moment cmd) Right p = inl (order_quiet moment w.last cmd w.right p)
hears_or_quiet w event Left p = inl (rests_quiet w.left)
