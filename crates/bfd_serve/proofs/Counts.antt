-- A history has as many entries as its callers have calls, and the calls of all callers are added up.
use Rattle.bfd_serve.proofs.RunCommon.{◌≡◌, ◌≢◌, ℕ, zero, suc, ◌+◌, ◌<◌, ◌≤◌, ◌==◌, true, false, cond, List, [], ◌∷◌, ◌++◌, length, get_or}
use Rattle.bfd_serve.proofs.RunCommon.{refl, ap, sym, subst, length-append, arith, nat_tests, get_or_append_left, dite, ℕ_discrete, dec_lt}
use Rattle.bfd_serve.proofs.RunCommon.{calls, Entry, by, Act, calls_on, all_on}
use Rattle.bfd_serve.proofs.Shuts.{get_last}

-- the calls of the callers 0 to n
abbrev pub total : ℕ → List Entry → ℕ
total zero h = length (calls by 0 h)
total (suc n) h = total n h + length (calls by (suc n) h)

one_of_it : (n : ℕ) (x : Entry) (h : List Entry) → x.caller ≡ n → length (calls by n (x ∷ h)) ≡ length (calls by n h) + 1
one_of_it n x h is = let b : (x.caller == n) ≡ true = grind (arith, nat_tests, is) in rw b (omega arith)

none_of_it : (n : ℕ) (x : Entry) (h : List Entry) → x.caller ≢ n → calls by n (x ∷ h) ≡ calls by n h
none_of_it n x h other = let b : (x.caller == n) ≡ false = grind (arith, nat_tests, other) in rw b refl

total_beyond : (n : ℕ) (x : Entry) (h : List Entry) → n < x.caller → total n (x ∷ h) ≡ total n h
total_beyond zero x h far = ap length (none_of_it 0 x h (λ e. absurd (omega (arith, e, far))))
total_beyond (suc n) x h far = let b = ap length (none_of_it (suc n) x h (λ e. absurd (omega (arith, e, far)))) in
    omega (arith, total_beyond n x h (omega arith))

total_within : (n : ℕ) (x : Entry) (h : List Entry) → x.caller ≤ n → total n (x ∷ h) ≡ total n h + 1
total_within zero x h near = one_of_it 0 x h (omega arith)
total_within (suc n) x h near = dite (ℕ_discrete x.caller (suc n))
    (λ is. omega (arith, total_beyond n x h (omega arith), one_of_it _ x h is))
    (λ other. omega (arith, total_within n x h (omega (arith, other)), ap length (none_of_it _ x h other)))

none_in : (n : ℕ) → total n [] ≡ 0
none_in zero = refl
none_in (suc n) = omega (arith, none_in n)

none_behind : (m : ℕ) (x : Entry) (h : List Entry) → calls by m (x ∷ h) ≡ [] → calls by m h ≡ []
none_behind m x h none = dite (ℕ_discrete x.caller m) (λ is. let a = one_of_it m x h is in let b = ap length none in absurd (omega arith))
    (λ other. cc (none_of_it m x h other))

-- where no caller beyond n has a call
pub all_counted : (n : ℕ) (h : List Entry) → ((m : ℕ) → n < m → calls by m h ≡ []) → length h ≡ total n h
all_counted n [] none = sym (none_in n)
all_counted n (x ∷ h) none = dite (dec_lt n x.caller)
    (λ far. let a = one_of_it x.caller x h refl in let b = ap length (none x.caller far) in absurd (omega arith))
    (λ near. let b = all_counted n h (λ m far. none_behind m x h (none m far)) in omega (arith, total_within n x h (omega (arith, near))))

-- 1 at the caller that is to blame
abbrev pub bonus : ℕ → ℕ → ℕ
bonus at n = cond (n == at) 1 0

abbrev pub bonuses : ℕ → ℕ → ℕ
bonuses at zero = 0
bonuses at (suc n) = bonuses at n + bonus at (suc n)

bonus_here : (at n : ℕ) → n ≡ at → bonus at n ≡ 1
bonus_here at n is = let b : (n == at) ≡ true = grind (arith, nat_tests, is) in rw b refl

pub bonus_some : (at n : ℕ) → at ≤ n → 1 ≤ bonus at 0 + bonuses at n
bonus_some at zero h = omega (arith, bonus_here at 0 (omega arith))
bonus_some at (suc n) h = dite (ℕ_discrete (suc n) at) (λ is. omega (arith, bonus_here at (suc n) is))
    (λ other. omega (arith, bonus_some at n (omega (arith, other))))

all_snoc : (s i : ℕ) (acts : List (List Act)) (a : List Act)
    → all_on s i (acts ++ a ∷ []) ≡ all_on s i acts + calls_on (i + length acts) s a
all_snoc s i [] a = let e : i ≡ i + 0 = omega arith in (let z = ap (λ n. calls_on n s a) e in omega arith)
all_snoc s i (x ∷ acts) a = let r = all_snoc s (i + 1) acts a in let e : i + 1 + length acts ≡ i + length (x ∷ acts) = omega arith in
    (let z = ap (λ n. calls_on n s a) e in omega arith)

pub gather : (s : ℕ) (h : List Entry) (at : ℕ) (Q : ℕ → List Act → Type 0) (n : ℕ)
    → ((i : ℕ) → i < n → (a : List Act) × (length (calls by (i + 1) h) + bonus at (suc i) ≤ calls_on (i + 1) s a) × Q i a)
    → (acts : List (List Act)) × (length acts ≡ n) × ((i : ℕ) (d : List Act) → i < n → Q i (get_or acts i d))
    × (total n h + bonuses at n ≤ length (calls by 0 h) + all_on s 1 acts)
gather s h at Q zero f = ([], refl, (λ i d less. absurd (omega arith)), omega arith)
gather s h at Q (suc n) f =
    let g = gather s h at Q n (λ i less. f i (omega arith)) in
    let x = f n (omega arith) in
    let e : 1 + length g.0 ≡ n + 1 = omega (arith, g.1) in
    let e' : n + 1 ≡ suc n = omega arith in (
      g.0 ++ x.0 ∷ [],
      (omega (arith, length-append g.0 (x.0 ∷ []), g.1)),
      (λ i d less. dite (ℕ_discrete i n) (λ is. subst (λ j. Q j (get_or (g.0 ++ x.0 ∷ []) i d)) (sym is)
          (subst (Q n) (sym (get_last g.0 x.0 i d (cc))) x.2))
          (λ other. subst (Q i) (sym (get_or_append_left g.0 (x.0 ∷ []) d i (omega (arith, g.1)))) (g.2 i d (omega (arith, other))))),
      (let b = ap (λ m. calls_on m s x.0) e in let c = ap (λ m. length (calls by m h)) e' in omega (arith, all_snoc s 1 g.0 x.0, x.1, g.3)),
    )
