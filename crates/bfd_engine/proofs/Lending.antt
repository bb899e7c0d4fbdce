-- A turn that is held, and one that isn't given.
use Rattle.bfd_engine.proofs.Common.{◌≡◌, ◌<◌, ℕ, List, set, length-set, Some, None, slice_get, refl, ap, sym, ◌∙◌, subst, arith}
use Rattle.bfd_engine.proofs.Common.{slice_get_within, dite, ℕ_discrete, TableId, IsBack, WasBusy, WasSpent, having_met, Base, Entry, by}
use Rattle.bfd_engine.proofs.Common.{OfShard, Shards, Held, Knows, IsOf, IsCallers, base_at, seen_of, met_word_of, taken_of, made_of}
use Rattle.bfd_engine.proofs.Common.{kept_of, Adds, HasTaken, HasMet, IsKept}
use Rattle.bfd_turn.specs.Refusals.{IsRefused}
use Rattle.bfd_turn.specs.declared.fault.TryFault.{TryFault}
use Rattle.bfd_turn.specs.declared.fault.TryFault.TheVariants.{Busy as TryBusy, Spent as TrySpent}
use Rattle.bfd_engine.specs.declared.holding.HoldFault.TheVariants.{Busy, Spent}
use Rattle.bfd_engine.proofs.Places.{K, set_here, set_else}
use Rattle.bfd_engine.proofs.Turning.{at_place, elsewhere, same_at}

pub has_taken : {engine : Shards} (shard : ℕ) {k l : Knows} {p : K} {id : TableId} {w : OfShard} {notes : List Entry} → IsOf engine k.1
    → slice_get k.1 shard ≡ Some (Some p) → IsCallers k.0 k.2 p.1 → l ≡ (k.0, set k.1 shard None, k.2) → id ≡ p.0
    → w ≡ record p.1 { seen = notes; word = w.word; looks = w.looks } → p.1.word < w.word → Adds by p.1.number p.1.seen notes
    → HasTaken engine shard k l (shard, id, w)
has_taken shard {k} {p} of here callers is lock same later adds = record {
  between = adds.0;
  shard_is = refl;
  held = record {
    lock_is = cc (of.lock shard p here);
    base_is = cc (of.base_is shard p here);
    callers = rw is (record {
      number_is = cc;
      used_up = rw (← ap (λ (v : OfShard). v.made) (sym same)) callers.used_up;
    });
    out = cc (set_here k.1 _ None (slice_get_within k.1 shard (Some p) here));
  };
  rest = is;
  others = rw (← callers.number_is) adds.2;
  seen = cc;
  word = omega (arith, ap met_word_of here, later);
  taken = cc;
  made = cc;
  kept = cc;
}

has_met : (k : Knows) {l : Knows} (shard : ℕ) {word : ℕ} {looks : List ℕ} {p : K} (q : K) → slice_get k.1 shard ≡ Some (Some p)
    → l ≡ (k.0, set k.1 shard (Some q), k.2) → q.1 ≡ having_met word looks p.1
    → HasMet word shard k l
has_met k shard q here is met = record {
  number = cc;
  used = cc;
  here = cc (at_place k shard q here is);
  seen = same_at seen_of k shard here is (cc);
  taken = same_at taken_of k shard here is (cc);
  made = same_at made_of k shard here is (cc);
  kept = same_at kept_of k shard here is (cc);
  word_elsewhere = λ r other. ap met_word_of (elsewhere k q is other);
}

pub was_busy : (k : Knows) {l : Knows} (shard : ℕ) {read found : ℕ} {p : K} (q : K) → slice_get k.1 shard ≡ Some (Some p)
    → l ≡ (k.0, set k.1 shard (Some q), k.2)
    → q.1 ≡ having_met found q.1.looks p.1 → WasBusy p.1 read found → IsKept (Busy read found) shard k l
was_busy k shard {p} q here is met busy = (has_met k shard q here is met, (p, here, busy))

pub was_spent : (k : Knows) {l : Knows} (shard : ℕ) {word : ℕ} {p : K} (q : K) → slice_get k.1 shard ≡ Some (Some p)
    → l ≡ (k.0, set k.1 shard (Some q), k.2)
    → q.1 ≡ having_met word q.1.looks p.1 → WasSpent p.1 word → IsKept (Spent word) shard k l
was_spent k shard {p} q here is met spent = (has_met k shard q here is met, (p, here, spent))

-- what a refusal says, given its fault
pub busy_is : (id : TableId) (v : OfShard) {f : TryFault Entry Base} {pass : K} {read found : ℕ} → f ≡ TryBusy pass read found
    → IsRefused id v f
    → IsBack id v found pass × WasBusy v read found
busy_is id v {f} {pass} {read} {found} is h = let w : IsRefused id v (TryBusy pass read found) = subst (IsRefused id v) is h in (w.0, w.1)

pub spent_is : (id : TableId) (v : OfShard) {f : TryFault Entry Base} {pass : K} {word : ℕ} → f ≡ TrySpent pass word → IsRefused id v f
    → IsBack id v word pass × WasSpent v word
spent_is id v {f} {pass} {word} is h = let w : IsRefused id v (TrySpent pass word) = subst (IsRefused id v) is h in (w.0, w.1)

-- a pass of its lock and base is put back where a turn was held
pub of_back : (engine : Shards) (ps : List Held) (at : ℕ) (q : K) → slice_get ps at ≡ Some None → slice_get engine.locks at ≡ Some q.0
    → q.1.base ≡ Some (base_at engine at) → IsOf engine ps → IsOf engine (set ps at (Some q))
of_back engine ps at q out lock base of =
    let here = set_here ps at (Some q) (slice_get_within ps at None out) in record {
      long = length-set ps at (Some q) ∙ of.long;
      lock = λ k r e. dite (ℕ_discrete k at) (λ is. (
          cc)) (λ other. of.lock k r (cc (set_else ps at k (Some q) other)));
      base_is = λ k r e. dite (ℕ_discrete k at) (λ is. (
          cc)) (λ other. of.base_is k r (cc (set_else ps at k (Some q) other)));
    }

-- a pass that gave its turn back is the caller's still
pub still : {number used : ℕ} {p : OfShard} (q : OfShard) → q.number ≡ p.number → q.made ≡ p.made → IsCallers number used p
    → IsCallers number used q
still q same made c = record {
  number_is = cc;
  used_up = rw made c.used_up;
}
