-- What one turn of a shard leaves of a caller's passes.
use Rattle.bfd_engine.proofs.Common.{◌≡◌, ◌≢◌, ℕ, List, [], ◌∷◌, ◌++◌, length, set, sym, Option, Some, Result, Ok, Err, IfOk, IfErr, OnErr}
use Rattle.bfd_engine.proofs.Common.{slice_get, refl, ap, ◌∙◌, subst, append-nil, arith, slice_get_within, dite, ℕ_discrete, Out, Answer}
use Rattle.bfd_engine.proofs.Common.{Entry, ShardEvent, calls, TurnFault, by, entry_of, configs_in, limit_in, given_after, IsSame}
use Rattle.bfd_engine.proofs.Common.{HasTurned, HasLooked, IsTurnCause, Shards, Held, Knows, base_at, configs_at, seen_of, seen_at}
use Rattle.bfd_engine.proofs.Common.{met_word_of, taken_of, made_of, kept_of, Turned, IsCause, fault_of, TookTurn, HasUsed, HadTurn}
use Rattle.bfd_engine.proofs.Common.{WasUsed, IsCall, IsFailed, Memory, Full, Spent, EngineFault}
use Rattle.bfd_rules.specs.EventFrame.{Outputs}
use Rattle.bfd_engine.proofs.Places.{K, set_here, set_else}

pub at_place : (k : Knows) {l : Knows} (s : ℕ) {p : K} (q : K) → slice_get k.1 s ≡ Some (Some p) → l ≡ (k.0, set k.1 s (Some q), k.2)
    → slice_get l.1 s ≡ Some (Some q)
at_place k s {p} q here is = cc (set_here k.1 s (Some q) (slice_get_within k.1 s (Some p) here))

pub elsewhere : (k : Knows) {l : Knows} {s : ℕ} (q : K) {r : ℕ} → l ≡ (k.0, set k.1 s (Some q), k.2) → r ≢ s
    → slice_get l.1 r ≡ slice_get k.1 r
elsewhere k {s} q {r} is other = cc (set_else k.1 s r (Some q) other)

pub same_at : {X : Type 0} (f : Option Held → X) (k : Knows) {l : Knows} (s : ℕ) {p q : K} → slice_get k.1 s ≡ Some (Some p)
    → l ≡ (k.0, set k.1 s (Some q), k.2) → f (Some (Some q)) ≡ f (Some (Some p))
    → (r : ℕ) → f (slice_get l.1 r) ≡ f (slice_get k.1 r)
same_at f k s {q} here is same r = dite (ℕ_discrete r s) (λ at. rw at (cc (at_place k s q here is)))
    (λ other. ap f (elsewhere k q is other))

pub turned : (k : Knows) {l : Knows} (s : ℕ) {p : K} (q : K) (between new : List Entry) → slice_get k.1 s ≡ Some (Some p)
    → l ≡ (k.0, set k.1 s (Some q), k.2) → p.1.number ≡ k.0 → IsSame p.1 q.1
    → q.1.seen ≡ (p.1.seen ++ between) ++ new → calls by p.1.number between ≡ [] → Turned k l s between new
turned k s q between new here is num same seen others =
    let at_l = at_place k s q here is in record {
      number = cc;
      used = cc;
      others = rw (← num) others;
      here = cc;
      word = omega (arith, ap met_word_of at_l, ap met_word_of here, same.word);
      taken = omega (arith, ap taken_of at_l, ap taken_of here, same.taken);
      seen_elsewhere = λ r other. ap seen_of (elsewhere k q is other);
      word_elsewhere = λ r other. ap met_word_of (elsewhere k q is other);
      taken_elsewhere = λ r other. ap taken_of (elsewhere k q is other);
      made = same_at made_of k s here is same.made;
      kept = same_at kept_of k s here is same.joined;
    }

pub took : (k : Knows) {l : Knows} (s : ℕ) {p : K} (q : K) → slice_get k.1 s ≡ Some (Some p) → l ≡ (k.0, set k.1 s (Some q), k.2)
    → HadTurn p.1 q.1 → TookTurn k l s
took k s q here is had =
    let at_l = at_place k s q here is in record {
      counted = omega (arith, ap taken_of at_l, ap taken_of here, had.counted);
      later = omega (arith, ap met_word_of at_l, ap met_word_of here, had.later);
      left = omega (arith, ap met_word_of at_l, had.left);
    }

has_used : (k : Knows) {l : Knows} (s : ℕ) {p : K} (q : K) (fault : TurnFault) → slice_get k.1 s ≡ Some (Some p)
    → l ≡ (k.0, set k.1 s (Some q), k.2) → WasUsed fault p.1 q.1 → HasUsed (fault_of s fault) k l s
has_used k s q Memory here is used = took k s q here is used
has_used k s q (Full n) here is used = took k s q here is used
has_used k s q (Spent word) here is used =
    let at_l = at_place k s q here is in (
      ap taken_of at_l ∙ (used.0 ∙ sym (ap taken_of here)),
      ap seen_of at_l ∙ (used.1 ∙ sym (ap seen_of here)),
    )

given_is : (engine : Shards) (k : Knows) (s : ℕ) {p : K} (between : List Entry) (event : ShardEvent) → slice_get k.1 s ≡ Some (Some p)
    → p.1.base ≡ Some (base_at engine s)
    → given_after (configs_in p.1.base) (p.1.seen ++ between) event ≡ given_after (configs_at engine s) (seen_at k s ++ between) event
given_is engine k s between event here base = cc

limit_is : (engine : Shards) (s : ℕ) (p q : K) → p.1.base ≡ Some (base_at engine s) → IsSame p.1 q.1 → limit_in q.1.base ≡ engine.limit
limit_is engine s p q base same = cc

failed : (engine : Shards) (k : Knows) {l : Knows} (s : ℕ) {p : K} (q : K) {outs outs2 : List Out} (fault : EngineFault)
    → slice_get k.1 s ≡ Some (Some p) → l ≡ (k.0, set k.1 s (Some q), k.2) → p.1.number ≡ k.0 → IsSame p.1 q.1
    → HasLooked p.1 q.1 → outs2 ≡ outs → IsCause fault engine s l → HasUsed fault k l s → IsFailed engine s k l outs outs2 fault
failed engine k s {p} q fault here is num same looked reported cause used = record {
  between = looked.between;
  turned = turned k s q looked.between [] here is num same (cc (append-nil (p.1.seen ++ looked.between))) looked.others;
  reported = reported;
  cause = cause;
  used = used;
}

fault_by : (engine : Shards) (k : Knows) {l : Knows} (s : ℕ) {p : K} (q : K) {outs outs2 : List Out} (fault : TurnFault)
    → slice_get k.1 s ≡ Some (Some p) → p.1.base ≡ Some (base_at engine s)
    → l ≡ (k.0, set k.1 s (Some q), k.2) → p.1.number ≡ k.0 → IsSame p.1 q.1 → HasLooked p.1 q.1 × IsTurnCause fault q.1
    × WasUsed fault p.1 q.1 → outs2 ≡ outs
    → IsFailed engine s k l outs outs2 (fault_of s fault)
fault_by engine k s {p} q Memory here base is num same why reported =
    failed engine k s q (fault_of s Memory) here is num same why.0 reported
    (let a = ap (λ h. length (seen_of h)) (at_place k s q here is) in omega (arith, a, limit_is engine s p q base same, why.1))
    (has_used k s q Memory here is why.2)
fault_by engine k s {p} q (Full n) here base is num same why reported =
    failed engine k s q (fault_of s (Full n)) here is num same why.0 reported
    (refl, why.1.1 ∙ limit_is engine s p q base same, ap (λ h. length (seen_of h)) (at_place k s q here is) ∙ why.1.0)
    (has_used k s q (Full n) here is why.2)
fault_by engine k s q (Spent word) here base is num same why reported =
    failed engine k s q (fault_of s (Spent word)) here is num same why.0 reported
    (refl, why.1.0, ap met_word_of (at_place k s q here is) ∙ why.1.1) (has_used k s q (Spent word) here is why.2)

-- a turn that added no entry
pub fault_done : (engine : Shards) (k : Knows) {l : Knows} (s : ℕ) {p : K} (q : K)
    (outs outs2 : Outputs) {r : Result Answer TurnFault} {fault : TurnFault} {reported : EngineFault} → slice_get k.1 s ≡ Some (Some p)
    → p.1.base ≡ Some (base_at engine s) → l ≡ (k.0, set k.1 s (Some q), k.2) → p.1.number ≡ k.0 → IsSame p.1 q.1
    → r ≡ Err fault → IfErr r (λ f. HasLooked p.1 q.1 × IsTurnCause f q.1 × WasUsed f p.1 q.1) → OnErr r (outs2 ≡ outs)
    → reported ≡ fault_of s fault → IsFailed engine s k l outs.items outs2.items reported
fault_done engine k s {p} q outs outs2 {fault} here base is num same e looked unreported is_reported =
    let why = subst (λ x. IfErr x (λ f. HasLooked p.1 q.1 × IsTurnCause f q.1 × WasUsed f p.1 q.1)) e looked in
    let u = subst (λ x. OnErr x (outs2 ≡ outs)) e unreported in
    rw is_reported (fault_by engine k s q fault here base is num same why (cc))

-- a turn with its entry
pub call_done : (engine : Shards) (k : Knows) {l : Knows} (s : ℕ) (event : ShardEvent) {p : K} (q : K)
    (outs outs2 : List Out) {r : Result Answer TurnFault} {answer : Answer} → slice_get k.1 s ≡ Some (Some p)
    → p.1.base ≡ Some (base_at engine s) → l ≡ (k.0, set k.1 s (Some q), k.2) → p.1.number ≡ k.0 → IsSame p.1 q.1
    → r ≡ Ok answer → IfOk r (λ a. HasTurned p.1 event q.1 outs outs2 a) → IsCall engine s event k l outs outs2 answer
call_done engine k s event {p} q outs outs2 {answer} here base is num same e all =
    let ok = subst (λ x. IfOk x (λ a. HasTurned p.1 event q.1 outs outs2 a)) e all in record {
      between = ok.between;
      turned = turned k s q ok.between (entry_of k.0 event ∷ []) here is num same (rw (← num) ok.seen) ok.others;
      took = took k s q here is ok.had;
      below = omega (arith, ap (λ h. length (seen_of h ++ ok.between)) here, ap limit_in base, ok.below);
      reported = cc (given_is engine k s ok.between event here base);
      answered = cc (given_is engine k s ok.between event here base);
    }
