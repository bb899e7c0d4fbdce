-- Passes that are joined, shard by shard.
use Rattle.bfd_engine.proofs.Common.{◌≡◌, ◌<◌, ◌≤◌, ◌+◌, ℕ, List, length, set, Option, Some, None, slice_get, refl, ap, ap₂, sym, ◌∙◌}
use Rattle.bfd_engine.proofs.Common.{subst, arith, slice_get_within, dite, ℕ_discrete, Begins, longer, calls, TableId, having_joined, Entry}
use Rattle.bfd_engine.proofs.Common.{by, Held, Knows, AllThere, met_word_of, taken_of, seen_at, Joined, IsGlued, AreGlued, GluesAt}
use Rattle.bfd_engine.proofs.Places.{K, set_here, set_else}

-- what a shard's lock says of a join
pub record IsJoin (id : TableId) (p q r : K) : Type 0 where
  pub first_lock : p.0 ≡ id
  pub result_is : r ≡ (id, having_joined by r.1.word p.1 q.1)
  pub later : p.1.word ≤ r.1.word
  pub later_theirs : q.1.word ≤ r.1.word
  pub begins : Begins p.1.seen r.1.seen
  pub begins_theirs : Begins q.1.seen r.1.seen
  pub own : calls by 0 r.1.seen ≡ calls by 0 p.1.seen

-- one shard is joined
pub glue_here : (number at : ℕ) (ps qs : List Held) (id : TableId) (p q r : K) → slice_get ps at ≡ Some (Some p)
    → slice_get qs at ≡ Some (Some q) → q.1.number ≡ number
    → IsJoin id p q r → GluesAt number at ps qs (set ps at (Some r)) (set qs at None)
glue_here number at ps qs id p q r here theirs is j =
    let seen = ap (λ x. x.1.seen) j.result_is in record {
      glued = record {
        pass = p;
        other = q;
        word = r.1.word;
        before_is = here;
        theirs_is = theirs;
        after_is = cc (set_here ps at (Some r) (slice_get_within ps at (Some p) here));
        number_is = is;
        later = j.later;
        later_theirs = j.later_theirs;
        begins = rw (← seen) j.begins;
        begins_theirs = rw (← seen) j.begins_theirs;
        own = cc;
      };
      left = λ k other. set_else ps at k (Some r) other;
      theirs_left = λ k other. set_else qs at k None other;
    }

glued_same : {number : ℕ} {a a2 b b2 d d2 : Option Held} → a ≡ a2 → b ≡ b2 → d ≡ d2 → IsGlued number a b d → IsGlued number a2 b2 d2
glued_same e f h g = record {
  pass = g.pass;
  other = g.other;
  word = g.word;
  before_is = cc;
  theirs_is = cc;
  after_is = cc;
  number_is = g.number_is;
  later = g.later;
  later_theirs = g.later_theirs;
  begins = g.begins;
  begins_theirs = g.begins_theirs;
  own = g.own;
}

-- one more shard is joined
pub glue_more : (number at : ℕ) (before theirs now left after rest : List Held) → AreGlued number at before theirs now left
    → GluesAt number at now left after rest
    → AreGlued number (at + 1) before theirs after rest
glue_more number at before theirs now left after rest all one = record {
  below = λ k h. dite (ℕ_discrete k at) (λ same. rw same (glued_same {d2 = slice_get after at}
      (all.left at (omega arith)) (all.theirs_left at (omega arith)) refl one.glued))
      (λ other. glued_same {a2 = slice_get before k} {b2 = slice_get theirs k}
      refl refl (sym (one.left k other)) (all.below k (omega (arith, h, other))));
  left = λ k h. one.left k (λ e. omega (arith, h, e)) ∙ all.left k (omega (arith, h));
  theirs_left = λ k h. one.theirs_left k (λ e. omega (arith, h, e)) ∙ all.theirs_left k (omega (arith, h));
}

-- the other's pass of a shard that isn't joined yet
pub theirs_there : (number at : ℕ) (before theirs after rest : List Held) → AreGlued number at before theirs after rest → AllThere theirs
    → at < length theirs
    → (q : K) × (slice_get rest at ≡ Some (Some q))
theirs_there number at before theirs after rest all there h =
    (let t = there.at at h in (t.0, all.theirs_left at (omega arith) ∙ t.1))

joined_by : (k o l : Knows) (shard : ℕ) → k.0 ≡ 0 → l.0 ≡ 0 → IsGlued o.0 (slice_get k.1 shard) (slice_get o.1 shard) (slice_get l.1 shard)
    → Joined k o l shard
joined_by k o l shard zero zero2 g =
    let before : seen_at k shard ≡ g.pass.1.seen = cc in
    let theirs : seen_at o shard ≡ g.other.1.seen = cc in
    let after : seen_at l shard ≡ longer g.pass.1.seen g.other.1.seen = cc in record {
      seen = after ∙ ap₂ longer (sym before) (sym theirs);
      first = subst (λ (xs : List Entry × List Entry). Begins xs.0 xs.1) (λ i. (sym before i, sym after i)) g.begins;
      other = subst (λ (xs : List Entry × List Entry). Begins xs.0 xs.1) (λ i. (sym theirs i, sym after i)) g.begins_theirs;
      own = cc (ap₂ (λ n xs. calls by n xs) zero2 after, ap₂ (λ n xs. calls by n xs) zero before);
      kept = cc;
      word = omega (arith, ap met_word_of g.before_is, ap met_word_of g.after_is, g.later);
      word_other = omega (arith, ap met_word_of g.theirs_is, ap met_word_of g.after_is, g.later_theirs);
      taken = omega (arith, ap taken_of g.before_is, ap taken_of g.theirs_is, ap taken_of g.after_is);
      made = cc;
    }

pub all_joined : (k o l : Knows) (at n : ℕ) (rest : List Held) → AreGlued o.0 at k.1 o.1 l.1 rest → n ≡ at → k.0 ≡ 0 → l.0 ≡ 0 → (shard : ℕ)
    → shard < n → Joined k o l shard
all_joined k o l at n rest all is zero zero2 shard h = joined_by k o l shard zero zero2 (all.below shard (omega (arith, h, is)))
