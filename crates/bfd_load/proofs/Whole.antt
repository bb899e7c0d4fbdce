-- The script is one that the grammar gives.
use Rattle.std.proofs.Common.{◌≡◌, ◌<◌, ◌≤◌, ◌+◌, ◌*◌, ◌%◌, ◌==◌, ◌&&◌, ℕ, zero, suc, Bool, true, false, cond, List, [], ◌∷◌, length, map}
use Rattle.std.proofs.Common.{refl, sym, subst, arith, length-append, not}
use Rattle.std.proofs.lemmas.List.{length-map}
use Rattle.std.proofs.Math.Nat.{mod-lt}
use Rattle.std.proofs.lemmas.Bool.Decides.{nat_tests}
use Rattle.std.proofs.lemmas.List.FromFn.{length-map-range_with_len}
use Rattle.std.specs.List.{AllByRecursion, filter, flat_map, range_with_len}
use Rattle.bfd_session.specs.declared.event.SessionConfig.{SessionConfig}
use Rattle.bfd_session.specs.Kinds.{discr_of}
use Rattle.bfd_session.specs.Rows.{Ascends, Differs, same_selector}
use Rattle.bfd_sbfd.specs.declared.reflecting.Reflector.{Reflector}
use Rattle.bfd_session.specs.Step.{IsFit}
use Rattle.bfd_script.specs.declared.line.entries.Line.{Line}
use Rattle.bfd_script.specs.declared.line.entries.Line.TheVariants.{Tick}
use Rattle.bfd_script.specs.Reading.{Lists, is_named}
use Rattle.bfd_script.specs.Ranges.{IsEvent, IsRow}
use Rattle.bfd_script.specs.Sound.{AreConfigs, AreEvents, ArePool, IsScript}
use Rattle.bfd_load.specs.Load.{config, earlier, events, hears, is_silent, packet, packets, script, tick_events}
use Rattle.bfd_load.proofs.Bytes.{are_bytes, long}
use Rattle.bfd_load.proofs.Counting.{gap}
use Rattle.bfd_script.proofs.Elements.{each_more}
use Rattle.bfd_load.proofs.Each.{all_gathered, all_map, all_picked}

-- ---- the sessions

ascends : (seed a n : ℕ) → Ascends (map (config seed) (range_with_len a n))
ascends seed a zero = tt
ascends seed a (suc n) = (all_map (λ later. a < discr_of later) (config seed) (a + 1) n (λ i low high. omega arith), ascends seed (a + 1) n)

other_peer : {a i : ℕ} → a < i → (167837696 + a == 167837696 + i) ≡ false
other_peer less = grind (arith, nat_tests)

other_selector : (seed a i : ℕ) → a < i → same_selector (config seed a) (config seed i) ≡ false
other_selector seed a i less = cc (other_peer less)

differs : (seed a n : ℕ) → Differs (map (config seed) (range_with_len a n))
differs seed a zero = tt
differs seed a (suc n) = (
  all_map (λ later. same_selector (config seed a) later ≡ false) (config seed) (a + 1) n
      (λ i low high. other_selector seed a i (omega arith)),
  differs seed (a + 1) n,
)

is_fit : (seed i : ℕ) → 0 < i → IsFit (config seed i)
is_fit seed i some = record {
  discr = some;
  iface = omega arith;
  tx_least = omega arith;
  tx_most = omega arith;
  rx_least = omega arith;
  rx_most = omega arith;
  some_mult = omega arith;
  most_mult = omega arith;
  echo_range = refl;
}

is_row : (seed i : ℕ) → i ≤ 5000 → IsRow (config seed i)
is_row seed i within = record {
  discr = omega arith;
  local = omega arith;
  remote = omega arith;
  mult = omega arith;
  seed = mod-lt (seed + i) (omega arith);
  keys = tt;
}

are_configs : (seed : ℕ) {n : ℕ} → n ≤ 5000 → AreConfigs (map (config seed) (range_with_len 1 n))
are_configs seed {n} within = record {
  ascends = ascends seed 1 n;
  differs = differs seed 1 n;
  fit = all_map IsFit (config seed) 1 n (λ i low high. is_fit seed i (omega arith));
  rows = all_map IsRow (config seed) 1 n (λ i low high. is_row seed i (omega arith));
  few = omega (arith, length-map-range_with_len (config seed) 1 n);
}

-- ---- the events

is_packet : (t i : ℕ) → t ≤ 6000 → i ≤ 5000 → IsEvent (packet t i)
is_packet t i tick session = record {
  moment_below = omega arith;
  iface = omega arith;
  src = omega arith;
  sport = refl;
  dst = omega arith;
  ttl = omega arith;
  bytes = are_bytes i (earlier t);
  short = omega (arith, long i (earlier t));
}

-- what is true of each packet and of each tick is true of each event
each_event : (P : Line → Type 0) (n k : ℕ) → ((t i : ℕ) → t ≤ k → i ≤ n → P (packet t i)) → ((t : ℕ) → t ≤ k → P (Tick t))
    → AllByRecursion P (events n k)
each_event P n k each tick = all_gathered P (tick_events n) 1 k (λ t low high. each_more P (packets n t) (Tick t ∷ [])
    (all_picked P (packet t) (hears t) 1 n (λ i from to. each t i (omega arith) (omega arith))) (tick t (omega arith), tt))

-- of 300 sessions at most one hears a packet
one_more : (place live : Bool) (t a n : ℕ) (us : List ℕ) → (t % 300 == a % 300) ≡ place → 300 * length us + gap (t % 300) (a + 1) ≤ n + 299
    → 300 * length (cond (place && live) (a ∷ us) us) + gap (t % 300) a ≤ suc n + 299
one_more true true t a n us is rest = let same : t % 300 ≡ a % 300 = grind (arith, nat_tests) in omega (arith, rest)
one_more true false t a n us is rest = omega (arith, rest)
one_more false live t a n us is rest = let other : t % 300 ≡ a % 300 → ⊥ = grind (arith, nat_tests) in omega (arith, rest, other)

few_hear : (t a n : ℕ) → 300 * length (filter (hears t) (range_with_len a n)) + gap (t % 300) a ≤ n + 299
few_hear t a zero = omega arith
few_hear t a (suc n) = one_more (t % 300 == a % 300) (not (is_silent a (earlier t))) t a n (filter (hears t) (range_with_len (a + 1) n))
    refl
    (few_hear t (a + 1) n)

few_packets : {n : ℕ} (t : ℕ) → n ≤ 5000 → length (packets n t) ≤ 17
few_packets {n} t within = omega (arith, few_hear t 1 n, length-map (filter (hears t) (range_with_len 1 n)) (packet t))

few_events : {n : ℕ} (a k : ℕ) → n ≤ 5000 → length (flat_map (tick_events n) (range_with_len a k)) ≤ 18 * k
few_events a zero within = omega arith
few_events {n} a (suc k) within = omega (
  arith,
  few_packets a within,
  few_events (a + 1) k within,
  length-append (packets n a) (Tick a ∷ []),
  length-append (tick_events n a) (flat_map (tick_events n) (range_with_len (a + 1) k)),
)

-- there is no reflector
no_pool : ArePool []
no_pool = record { ascends = tt; rows = tt }

are_events : {n k : ℕ} → n ≤ 5000 → k ≤ 6000 → AreEvents (events n k)
are_events {n} {k} sessions ticks = record {
  lines = each_event IsEvent n k (λ t i tick session. is_packet t i (omega arith) (omega arith)) (λ t tick. omega arith);
  few = omega (arith, few_events 1 k sessions);
}

is_script : {n k : ℕ} (seed : ℕ) → n ≤ 5000 → k ≤ 6000 → IsScript (script n k seed)
is_script {n} {k} seed sessions ticks = record {
  configs = are_configs seed sessions;
  pool = no_pool;
  apart = tt;
  few = omega (arith, length-map-range_with_len (config seed) 1 n);
  events = are_events sessions ticks;
  named = each_event (λ e. is_named e (script n k seed).configs ≡ true) n k (λ t i tick session. refl) (λ t tick. refl);
}

abbrev pub script_of : List SessionConfig → List Reflector → List Line → Lists
script_of configs pool lines = record { configs = configs; pool = pool; events = lines }

pub made : {n k : ℕ} (seed : ℕ) {configs : List SessionConfig} (pool : List Reflector) {lines : List Line} → n ≤ 5000 → k ≤ 6000
    → configs ≡ map (config seed) (range_with_len 1 n) → pool ≡ [] → lines ≡ events n k → IsScript (script_of configs pool lines)
made {n} {k} seed {configs} pool {lines} sessions ticks sessions_are none lines_are =
    let same : script_of configs pool lines ≡ script n k seed =
    cc in
    subst IsScript (sym same) (is_script seed sessions ticks)
