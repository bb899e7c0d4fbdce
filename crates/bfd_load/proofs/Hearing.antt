-- The sessions that hear a packet at a tick are a period apart.
use Rattle.std.proofs.Common.{◌≡◌, ◌<◌, ◌≤◌, ◌+◌, ◌-◌, ◌%◌, ◌++◌, ◌∙◌, ℕ, zero, suc, false, not, List, [], ◌∷◌, map, sym, ap, arith}
use Rattle.std.proofs.Common.{append_assoc}
use Rattle.std.proofs.lemmas.List.{map-append}
use Rattle.std.proofs.lemmas.List.Elements.{filter-append}
use Rattle.std.specs.List.{filter, range_with_len}
use Rattle.std.proofs.lemmas.Bool.{eq-eqb, ne_eqb}
use Rattle.bfd_script.specs.declared.line.entries.Line.{Line}
use Rattle.bfd_load.specs.Load.{earlier, hears, is_silent, packet, packets}

-- with the remainder of the tick a session hears a packet unless it is silent
pub hears_there : (t i : ℕ) → t % 300 ≡ i % 300 → hears t i ≡ not (is_silent i (earlier t))
hears_there t i same = cc (eq-eqb (t % 300) (i % 300) same)

-- with another it hears none
deaf : (t i : ℕ) → (t % 300 ≡ i % 300 → ⊥) → hears t i ≡ false
deaf t i other = cc (ne_eqb (t % 300) (i % 300) other)

nothing : (b n : ℕ) → n ≡ 0 → range_with_len b n ≡ []
nothing b n none = cc

same_range : (a b m n : ℕ) → a ≡ b → m ≡ n → range_with_len a m ≡ range_with_len b n
same_range a b m n start long = cc

-- d sessions that hear none are passed over
passed_over : (t a m d : ℕ) → ((k : ℕ) → a ≤ k → k < a + d → t % 300 ≡ k % 300 → ⊥)
    → filter (hears t) (range_with_len a m) ≡ filter (hears t) (range_with_len (a + d) (m - d))
passed_over t a m zero h = cc (same_range a (a + 0) m (m - 0) (omega arith) (omega arith))
passed_over t a zero (suc d) h = cc (nothing (a + suc d) (0 - suc d) (omega arith))
passed_over t a (suc m) (suc d) h =
    cc (
      deaf t a (h a (omega arith) (omega arith)),
      passed_over t (a + 1) m d (λ k low high. h k (omega arith) (omega arith)),
      same_range (a + 1 + d) (a + suc d) (m - d) (suc m - suc d) (omega arith) (omega arith),
    )

-- the packets of the sessions from this one on, up to the last
abbrev pub packets_from : ℕ → ℕ → ℕ → List Line
packets_from sessions t i = map (packet t) (filter (hears t) (range_with_len i (sessions + 1 - i)))

-- the first session is the one of the tick's place in the period
pub first : (sessions : ℕ) {t : ℕ} → 0 < t → packets_from sessions t ((t - 1) % 300 + 1) ≡ packets sessions t
first sessions {t} some =
    sym (cc (
      passed_over t 1 sessions ((t - 1) % 300) (λ k low high. λ same. absurd (omega arith)),
      same_range (1 + (t - 1) % 300) ((t - 1) % 300 + 1) (sessions - (t - 1) % 300) (sessions + 1 - ((t - 1) % 300 + 1)) (omega arith)
          (omega arith),
    ))

split : {sessions : ℕ} (t : ℕ) {i : ℕ} → i ≤ sessions → t % 300 ≡ i % 300
    → packets_from sessions t i ≡ map (packet t) (filter (hears t) (i ∷ [])) ++ packets_from sessions t (i + 300)
split {sessions} t {i} within place =
    ap (λ us. map (packet t) (filter (hears t) us))
    (ap (range_with_len i) (let long : sessions + 1 - i ≡ suc (sessions - i) = omega arith in long))
    ∙ (ap (map (packet t)) (filter-append (hears t) (i ∷ []) (range_with_len (i + 1) (sessions - i)))
    ∙ (map-append (packet t) (filter (hears t) (i ∷ [])) (filter (hears t) (range_with_len (i + 1) (sessions - i)))
    ∙ ap (λ us. map (packet t) (filter (hears t) (i ∷ [])) ++ map (packet t) us)
    (passed_over t (i + 1) (sessions - i) 299 (λ k low high. λ same. absurd (omega arith))
    ∙ ap (filter (hears t)) (same_range (i + 1 + 299) (i + 300) (sessions - i - 299) (sessions + 1 - (i + 300)) (omega arith)
    (omega arith)))))

-- one more session has heard its packet
pub heard_one : {sessions : ℕ} (t : ℕ) {i : ℕ} (before : List Line) {now whole : List Line} → i ≤ sessions → t % 300 ≡ i % 300
    → before ++ packets_from sessions t i ≡ whole → now ≡ before ++ map (packet t) (filter (hears t) (i ∷ []))
    → now ++ packets_from sessions t (i + 300) ≡ whole
heard_one {sessions} t {i} before within place so_far added =
    cc (append_assoc before (map (packet t) (filter (hears t) (i ∷ []))) (packets_from sessions t (i + 300)), split t within place)
