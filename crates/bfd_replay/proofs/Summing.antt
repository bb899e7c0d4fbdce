-- Sessions that are Up, counted by shards.
use Rattle.bfd_replay.proofs.WorkerCommon.{◌≡◌, ◌<◌, ◌+◌, ◌-◌, ◌∙◌, Bool, true, false, ℕ, zero, suc, List, [], ◌∷◌, length, get_or, refl}
use Rattle.bfd_replay.proofs.WorkerCommon.{ap, subst, arith, sum_by, if◌then◌else◌, dite, ℕ_discrete, Shard, IsShard, one_up, sum_to, ups}
use Rattle.bfd_replay.proofs.WorkerCommon.{Running}
use Rattle.std.proofs.lemmas.List.Sums.{sum_by-cons}
use Rattle.bfd_rules.specs.Quantities.{is_up}
use Rattle.bfd_shard.specs.Dealing.{share}

one_more : (b : Bool) (s : Running) (ss : List Running) → is_up s.vars.state ≡ b → ups (s ∷ ss) ≡ (if b then 1 else 0) + ups ss
one_more true s ss is = rw is (omega arith)
one_more false s ss is = rw is (omega arith)

ups_more : (s : Running) (ss : List Running) → ups (s ∷ ss) ≡ one_up s + ups ss
ups_more s ss = one_more (is_up s.vars.state) s ss refl

pub ups_are : (ss : List Running) → sum_by one_up ss ≡ ups ss
ups_are [] = refl
ups_are (s ∷ ss) = omega (arith, sum_by-cons one_up s ss, ups_are ss, ups_more s ss)

sum_first : (f : ℕ → ℕ) (n : ℕ) → sum_to f (suc n) ≡ f 0 + sum_to (λ k. f (suc k)) n
sum_first f zero = omega arith
sum_first f (suc n) = omega (arith, sum_first f n)

pub sum_step : (f : ℕ → ℕ) (k : ℕ) → sum_to f (k + 1) ≡ sum_to f k + f k
sum_step f k = let e : k + 1 ≡ suc k = omega arith in cc

pub sum_same : (f g : ℕ → ℕ) (n : ℕ) → ((k : ℕ) → k < n → f k ≡ g k) → sum_to f n ≡ sum_to g n
sum_same f g zero same = refl
sum_same f g (suc n) same = let a = sum_same f g n (λ k h. same k (omega (arith, h))) in omega (arith, a, same n (omega arith))

sum_zero : (f : ℕ → ℕ) (n : ℕ) → ((k : ℕ) → f k ≡ 0) → sum_to f n ≡ 0
sum_zero f zero none = refl
sum_zero f (suc n) none = omega (arith, sum_zero f n none, none n)

empty_share : (n k : ℕ) → ups (share n k []) ≡ 0
unfolding share
empty_share n zero = refl
empty_share n (suc k) = refl

first_share : (n : ℕ) (s : Running) (ss : List Running) → ups (share n 0 (s ∷ ss)) ≡ one_up s + ups (share n (n - 1) ss)
unfolding share
first_share n s ss = ups_more s (share n (n - 1) ss)

next_share : (n k : ℕ) (s : Running) (ss : List Running) → ups (share n (suc k) (s ∷ ss)) ≡ ups (share n k ss)
unfolding share
next_share n k s ss = refl

one_less : (n : ℕ) → suc n - 1 ≡ n
one_less n = omega arith

-- the counts of the shards add up to the count of the table
pub ups_shared : (n : ℕ) (ss : List Running) → sum_to (λ k. ups (share (suc n) k ss)) (suc n) ≡ ups ss
ups_shared n [] = sum_zero (λ k. ups (share (suc n) k [])) (suc n) (λ k. empty_share (suc n) k)
ups_shared n (s ∷ ss) =
    let a = sum_first (λ k. ups (share (suc n) k (s ∷ ss))) n in
    let c = sum_same (λ k. ups (share (suc n) (suc k) (s ∷ ss))) (λ k. ups (share (suc n) k ss)) n (λ k h. next_share (suc n) k s ss) in
    let h = ap (λ j. ups (share (suc n) j ss)) (one_less n) in
    omega (arith, a, first_share (suc n) s ss, c, ups_shared n ss, ups_more s ss, h)

pub any : (xs : List Shard) (k : ℕ) (d e : Shard) → k < length xs → get_or xs k d ≡ get_or xs k e
any [] k d e h = absurd (omega (arith, h))
any (x ∷ xs) zero d e h = refl
any (x ∷ xs) (suc k) d e h = any xs k d e (omega (arith, h))

-- one more shard is what its journal makes of it
pub kept_more : (xs : List Shard) (at : ℕ) (x : Shard) → at < length xs → x ≡ get_or xs at x → IsShard x
    → ((k : ℕ) (d : Shard) → k < at → IsShard (get_or xs k d)) → (k : ℕ) (d : Shard) → k < at + 1 → IsShard (get_or xs k d)
kept_more xs at x inside is one kept k d h = dite (ℕ_discrete k at) (λ same. rw same (subst IsShard (is ∙ any xs at x d inside) one))
    (λ other. kept k d (omega (arith, h, other)))
