-- What a caller that may be the only one has seen of a shard, turn by turn.
use Rattle.bfd_replay.proofs.WorkerCommon.{◌≡◌, ◌<◌, ◌≤◌, ◌+◌, ◌%◌, ◌/◌, ◌++◌, ◌∙◌, ◌∷◌, ℕ, [], List, length, sym, ap, subst, refl}
use Rattle.bfd_replay.proofs.WorkerCommon.{append-nil, append_assoc, arith, map-append, eq-eqb, ne_eqb, dite, ℕ_discrete, Result, Ok, Err}
use Rattle.bfd_replay.proofs.WorkerCommon.{Entry, calls, EngineFault, Full, Memory, Spent, Knows, Shards, configs_at, met_word, seen_at}
use Rattle.bfd_replay.proofs.WorkerCommon.{taken_at, by, entry_of, given_after, Among, IsSole, entries_by, get_or-append_seam}
use Rattle.bfd_replay.proofs.WorkerCommon.{get_or_append_left, last_tick, outcome_of, runs, Piece}
use Rattle.std.specs.Prelude.{map, slice_index_or}
use Rattle.std.proofs.Math.Nat.{mod-lt}
use Rattle.bfd_rules.specs.declared.outputs.Out.{Out}
use Rattle.bfd_shard.specs.Dealing.{share}
use Rattle.bfd_session.specs.Alone.{Outcome}
use Rattle.bfd_session.specs.declared.event.Answer.{Answer}
use Rattle.bfd_session.specs.declared.event.Event.{Event}
use Rattle.bfd_shard.specs.declared.entry.ShardEvent.{ShardEvent}
use Rattle.bfd_shard.specs.declared.entry.ShardEvent.TheVariants.{Own, Tick}
use Rattle.bfd_turn.specs.Lists.{Begins}
use Rattle.bfd_turn.specs.Passes.{last_word}
use Rattle.bfd_turn.proofs.Beginnings.{begins_through}
use Rattle.bfd_engine.specs.Calls.{IsCall, IsDone, IsFailed, Turned, Turns}
use Rattle.bfd_replay.specs.Turning.{Gave, HasKept, HaveReportedTick, IsRefusal, Went, brought}
use Rattle.bfd_replay.specs.Pieces.{event_pieces, item_piece}
use Rattle.bfd_replay.proofs.OneCaller.{given_stands, one_share}
use Rattle.bfd_replay.proofs.Sharing.{own_gives}
use Rattle.bfd_replay.proofs.Soles.{between_none, front_sole}

pub went_by : {k l : Knows} {r : ℕ} (between : List Entry) (new : List ShardEvent) → calls by 0 between ≡ []
    → seen_at l r ≡ (seen_at k r ++ between) ++ entries_by 0 new → Went k l new r
went_by {k} {l} {r} between new others here =
    let whole : IsSole 0 (seen_at l r) → IsSole 0 ((seen_at k r ++ between) ++ entries_by 0 new) = λ s. subst (IsSole 0) here s in
    record {
      begins = (between ++ entries_by 0 new, here ∙ append_assoc (seen_at k r) between (entries_by 0 new));
      sole = λ s. front_sole 0 (seen_at k r) between (front_sole 0 (seen_at k r ++ between) (entries_by 0 new) (whole s));
      seen = λ s. cc (between_none 0 (seen_at k r) between (entries_by 0 new) others (whole s));
    }

pub went_same : {k l : Knows} {r : ℕ} → seen_at l r ≡ seen_at k r → Went k l [] r
went_same {k} {l} {r} same = record {
  begins = ([], same ∙ sym (append-nil (seen_at k r)));
  sole = λ s. subst (IsSole 0) same s;
  seen = λ s. same ∙ sym (append-nil (seen_at k r));
}

pub entries_both : (xs ys : List ShardEvent) → entries_by 0 (xs ++ ys) ≡ entries_by 0 xs ++ entries_by 0 ys
entries_both xs ys = map-append (entry_of 0) xs ys

-- two turns one after another
pub went_then : {k l m : Knows} {r : ℕ} {xs ys : List ShardEvent} → Went k l xs r → Went l m ys r → Went k m (xs ++ ys) r
went_then {k} {l} {m} {r} {xs} {ys} a b = record {
  begins = begins_through (seen_at k r) (seen_at l r) (seen_at m r) a.begins b.begins;
  sole = λ s. a.sole (b.sole s);
  seen = λ s. cc (b.seen s, a.seen (b.sole s), entries_both xs ys, append_assoc (seen_at k r) (entries_by 0 xs) (entries_by 0 ys));
}

-- and with nothing new in the second
pub went_on : {k l m : Knows} {r : ℕ} {xs : List ShardEvent} → Went k l xs r → Went l m [] r → Went k m xs r
went_on {k} {l} {m} {r} {xs} a b = record {
  begins = begins_through (seen_at k r) (seen_at l r) (seen_at m r) a.begins b.begins;
  sole = λ s. a.sole (b.sole s);
  seen = λ s. cc (b.seen s, a.seen (b.sole s), append-nil (seen_at l r));
}

pub kept_then : {a b : ℕ} {k l m : Knows} → HasKept a k l → HasKept b l m → HasKept (a + b) k m
kept_then {a} {b} {k} {l} {m} x y = record {
  number = y.number ∙ x.number;
  made = λ r. y.made r ∙ x.made r;
  taken = λ r. omega (arith, x.taken r, y.taken r);
  begins = λ r. begins_through (seen_at k r) (seen_at l r) (seen_at m r) (x.begins r) (y.begins r);
}

pub kept_less : {a b : ℕ} {k l : Knows} → a ≤ b → HasKept a k l → HasKept b k l
kept_less h x = record { number = x.number; made = x.made; taken = λ r. omega (arith, x.taken r, h); begins = x.begins }

begins_same : (xs ys : List Entry) → ys ≡ xs → Begins xs ys
begins_same xs ys same = ([], same ∙ sym (append-nil xs))

pub kept_same : (times : ℕ) (k : Knows) → HasKept times k k
kept_same times k = record {
  number = refl;
  made = λ r. refl;
  taken = λ r. omega arith;
  begins = λ r. begins_same (seen_at k r) (seen_at k r) refl;
}

-- what was seen before is caller 0's alone where all is
pub earlier_sole : {times : ℕ} {k l : Knows} (r : ℕ) → HasKept times k l → IsSole 0 (seen_at l r) → IsSole 0 (seen_at k r)
earlier_sole {k = k} r x s = let b = x.begins r in front_sole 0 (seen_at k r) b.0 (subst (IsSole 0) b.1 s)

-- a turn of one shard

pub kept_by : {k l : Knows} {shard : ℕ} {between new : List Entry} → Turned k l shard between new → HasKept 1 k l
kept_by {k} {l} {shard} {between} {new} t = record {
  number = t.number;
  made = t.made;
  taken = λ r. dite (ℕ_discrete r shard) (λ e. subst (λ x. taken_at l x ≤ taken_at k x + 1) (sym e) t.taken)
      (λ e. omega (arith, t.taken_elsewhere r e));
  begins = λ r. dite (ℕ_discrete r shard)
      (λ e. subst (λ x. Begins (seen_at k x) (seen_at l x)) (sym e) (between ++ new, t.here ∙ append_assoc (seen_at k shard) between new))
      (λ e. begins_same (seen_at k r) (seen_at l r) (t.seen_elsewhere r e));
}

pub went_here : {k l : Knows} {shard : ℕ} {between : List Entry} (event : ShardEvent) → k.0 ≡ 0
    → Turned k l shard between (entry_of k.0 event ∷ [])
    → Went k l (event ∷ []) shard
went_here {k} {l} {shard} {between} event first t = went_by between (event ∷ []) (subst (λ n. calls by n between ≡ []) first t.others)
    (subst (λ n. seen_at l shard ≡ (seen_at k shard ++ between) ++ entry_of n event ∷ []) first t.here)

pub went_nowhere : {k l : Knows} {shard : ℕ} {between : List Entry} → k.0 ≡ 0 → Turned k l shard between [] → Went k l [] shard
went_nowhere {k} {l} {shard} {between} first t = went_by between [] (subst (λ n. calls by n between ≡ []) first t.others) t.here

pub refused_by : {engine : Shards} {shard : ℕ} {k l : Knows} {outs outs2 : List Out} (fault : EngineFault) → k.0 ≡ 0
    → shard < length engine.locks
    → IsFailed engine shard k l outs outs2 fault → IsRefusal fault engine k l
refused_by Memory first inside f = tt
refused_by {engine} {shard} {k} {l} (Full at n) first inside f = (
  subst (λ s. s < length engine.locks) (sym f.cause.0) inside,
  subst (λ s. length (seen_at l s) ≡ engine.limit) (sym f.cause.0) (f.cause.2 ∙ f.cause.1),
  subst (Went k l []) (sym f.cause.0) (went_nowhere first f.turned),
)
refused_by {engine} {shard} {k} {l} (Spent at word) first inside f = (
  subst (λ s. s < length engine.locks) (sym f.cause.0) inside,
  subst (λ s. met_word l s ≡ last_word) (sym f.cause.0) (f.cause.2 ∙ f.cause.1),
)

-- what a turn gave, if the caller is the shard's only one
pub call_gave : (engine : Shards) (shard : ℕ) (event : ShardEvent) (k l : Knows) (outs2 : List Out) (answer : Answer) → k.0 ≡ 0
    → IsCall engine shard event k l [] outs2 answer
    → IsSole 0 (seen_at l shard) → (let o : Outcome = record { items = outs2; answer = answer } in o)
    ≡ given_after (configs_at engine shard) (seen_at k shard) event
call_gave engine shard event k l outs2 answer first d sole =
    let others : calls by 0 d.between ≡ [] = subst (λ n. calls by n d.between ≡ []) first d.turned.others in
    let whole : IsSole 0 ((seen_at k shard ++ d.between) ++ entry_of k.0 event ∷ []) = subst (IsSole 0) d.turned.here sole in
    let none = between_none 0 (seen_at k shard) d.between (entry_of k.0 event ∷ []) others whole in
    let o : Outcome = given_after (configs_at engine shard) (seen_at k shard ++ d.between) event in
    ap (λ xs. let r : Outcome = record { items = xs; answer = answer } in r) d.reported
    ∙ (ap (λ a. let r : Outcome = record { items = o.items; answer = a } in r) d.answered
    ∙ ap (λ before. given_after (configs_at engine shard) before event) none)

-- what a call leaves
pub done_kept : (engine : Shards) (shard : ℕ) (event : ShardEvent) (k l : Knows) (outs outs2 : List Out)
    (result : Result Answer EngineFault)
    → IsDone (Turns shard event) engine k l outs outs2 result → HasKept 1 k l
done_kept engine shard event k l outs outs2 (Ok answer) d = kept_by d.turned
done_kept engine shard event k l outs outs2 (Err fault) d = kept_by d.turned

-- an own event of the session at a place of the table, in its shard of so many
module _ (engine : Shards) {n : ℕ} (place moment : ℕ) (event : Event) (k l : Knows) (outs2 : List Out) {result : Result Answer EngineFault}
    (locks : n ≡ length engine.locks) (first : k.0 ≡ 0)
    (done : IsDone (Turns (place % n) (Own (place / n) moment event)) engine k l [] outs2 result) where
  called : {answer : Answer} → result ≡ Ok answer → IsCall engine (place % n) (Own (place / n) moment event) k l [] outs2 answer
  called is = subst (IsDone (Turns (place % n) (Own (place / n) moment event)) engine k l [] outs2) is done

  went_of : {answer : Answer} → result ≡ Ok answer → (r : ℕ) → Went k l (brought n (Among (Own place moment event)) r) r
  went_of is r = let d = called is in dite (ℕ_discrete (place % n) r)
      (λ e. rw (eq-eqb (place % n) r e) (subst (Went k l (Own (place / n) moment event ∷ [])) e
      (went_here (Own (place / n) moment event) first d.turned)))
      (λ e. rw (ne_eqb (place % n) r e) (went_same (d.turned.seen_elsewhere r (λ z. e (sym z)))))

  pub own_went : {answer : Answer} → result ≡ Ok answer → (r : ℕ) → r < length engine.locks
      → Went k l (brought (length engine.locks) (Among (Own place moment event)) r) r
  own_went is r inside = subst (λ m. Went k l (brought m (Among (Own place moment event)) r) r) locks (went_of is r)

  pub own_gave : {answer : Answer} → 0 < n → result ≡ Ok answer
      → Gave engine k l (Among (Own place moment event)) (record { items = outs2; answer = answer })
  own_gave {answer} some is one sole past stands =
      let inside : place % n < length engine.locks = omega (arith, locks, mod-lt place some) in
      let shares : share (length engine.locks) (place % n) (runs past engine.configs) ≡ share n (place % n) (runs past engine.configs) =
      ap (λ m. share m (place % n) (runs past engine.configs)) (sym locks) in
      call_gave engine (place % n) (Own (place / n) moment event) k l outs2 answer first (called is) (sole (place % n) inside)
      ∙ (given_stands engine k past (Own (place / n) moment event) inside stands
      ∙ (ap (outcome_of (last_tick past) (Own (place / n) moment event)) shares
      ∙ own_gives n place moment (last_tick past) event (runs past engine.configs) some))

  pub own_refused : {fault : EngineFault} → place % n < length engine.locks → result ≡ Err fault → IsRefusal fault engine k l
  own_refused {fault} inside is =
      refused_by fault first inside (subst (IsDone (Turns (place % n) (Own (place / n) moment event)) engine k l [] outs2) is done)

-- shard by shard, the same caller: those from a place on are as before
pub record HasPassed (at : ℕ) (k l : Knows) : Type 0 where
  pub kept : HasKept 1 k l
  pub seen_left : (r : ℕ) → at ≤ r → seen_at l r ≡ seen_at k r
  pub taken_left : (r : ℕ) → at ≤ r → taken_at l r ≡ taken_at k r

pub passed_none : (k : Knows) → HasPassed 0 k k
passed_none k = record { kept = kept_same 1 k; seen_left = λ r h. refl; taken_left = λ r h. refl }

pub passed_on : {at : ℕ} {k l m : Knows} {between new : List Entry} → HasPassed at k l → Turned l m at between new → HasPassed (at + 1) k m
passed_on {at} {k} {l} {m} p t = let one = kept_by t in record {
  kept = record {
    number = t.number ∙ p.kept.number;
    made = λ r. t.made r ∙ p.kept.made r;
    taken = λ r. dite (ℕ_discrete r at)
        (λ e. subst (λ x. taken_at m x ≤ taken_at k x + 1) (sym e) (omega (arith, t.taken, p.taken_left at (omega arith))))
        (λ e. omega (arith, t.taken_elsewhere r e, p.kept.taken r));
    begins = λ r. begins_through (seen_at k r) (seen_at l r) (seen_at m r) (p.kept.begins r) (one.begins r);
  };
  seen_left = λ r h. t.seen_elsewhere r (λ e. omega (arith, e, h)) ∙ p.seen_left r (omega (arith, h));
  taken_left = λ r h. t.taken_elsewhere r (λ e. omega (arith, e, h)) ∙ p.taken_left r (omega (arith, h));
}

-- the shards before a place had a tick
pub record HasTicked (engine : Shards) (t at : ℕ) (k l : Knows) : Type 0 where
  pub passed : HasPassed at k l
  pub went : (r : ℕ) → r < at → Went k l (Tick t ∷ []) r

pub ticked_none : (engine : Shards) (t : ℕ) (k : Knows) → HasTicked engine t 0 k k
ticked_none engine t k = record { passed = passed_none k; went = λ r h. absurd (omega (arith, h)) }

went_elsewhere : {k l m : Knows} {r : ℕ} {xs : List ShardEvent} → Went k l xs r → seen_at m r ≡ seen_at l r → Went k m xs r
went_elsewhere a same = went_on a (went_same same)

-- what was as before, and then had this
went_first : {k l m : Knows} {r : ℕ} {xs : List ShardEvent} → seen_at l r ≡ seen_at k r → Went l m xs r → Went k m xs r
went_first {k} {l} {m} {r} same b = record {
  begins = subst (λ t. Begins t (seen_at m r)) same b.begins;
  sole = λ s. subst (IsSole 0) same (b.sole s);
  seen = λ s. cc (b.seen s);
}

at_end : (parts : List (List Piece)) (part : List Piece) {r : ℕ} → r ≡ length parts → slice_index_or (parts ++ part ∷ []) r [] ≡ part
at_end parts part e = ap (λ x. slice_index_or (parts ++ part ∷ []) x []) e ∙ get_or-append_seam parts part [] []

before_end : (parts : List (List Piece)) (part : List Piece) {r : ℕ} → r < length parts
    → slice_index_or (parts ++ part ∷ []) r [] ≡ slice_index_or parts r []
before_end parts part {r} h = get_or_append_left parts (part ∷ []) [] r h

-- one more shard had it
module _ (engine : Shards) (t at : ℕ) (k l m : Knows) (outs2 : List Out) (answer : Answer) (first : k.0 ≡ 0)
    (h : HasTicked engine t at k l) where
  on_by : IsCall engine at (Tick t) l m [] outs2 answer → HasTicked engine t (at + 1) k m
  on_by d = record {
    passed = passed_on h.passed d.turned;
    went = λ r inside. dite (ℕ_discrete r at)
        (λ e. subst (Went k m (Tick t ∷ [])) (sym e)
        (went_first (h.passed.seen_left at (omega arith)) (went_here (Tick t) (h.passed.kept.number ∙ first) d.turned)))
        (λ e. went_elsewhere (h.went r (omega (arith, inside, e))) (d.turned.seen_elsewhere r e));
  }

  call_of : (result : Result Answer EngineFault) → IsDone (Turns at (Tick t)) engine l m [] outs2 result → result ≡ Ok answer
      → IsCall engine at (Tick t) l m [] outs2 answer
  call_of result d is = subst (IsDone (Turns at (Tick t)) engine l m [] outs2) is d

  pub ticked_on : (result : Result Answer EngineFault) → IsDone (Turns at (Tick t)) engine l m [] outs2 result → result ≡ Ok answer
      → HasTicked engine t (at + 1) k m
  ticked_on result d is = on_by (call_of result d is)

  -- what it gave there
  pub tick_gave : (result : Result Answer EngineFault) → IsDone (Turns at (Tick t)) engine l m [] outs2 result → result ≡ Ok answer
      → IsSole 0 (seen_at m at)
      → (let o : Outcome = record { items = outs2; answer = answer } in o) ≡ given_after (configs_at engine at) (seen_at k at) (Tick t)
  tick_gave result d is sole =
      call_gave engine at (Tick t) l m outs2 answer (h.passed.kept.number ∙ first) (call_of result d is) sole
      ∙ ap (λ before. given_after (configs_at engine at) before (Tick t)) (h.passed.seen_left at (omega arith))

  pub tick_first : (result : Result Answer EngineFault) → IsDone (Turns at (Tick t)) engine l m [] outs2 result → result ≡ Ok answer
      → at + 1 ≡ 1 → IsSole 0 (seen_at m 0)
      → (let o : Outcome = record { items = outs2; answer = answer } in o) ≡ given_after (configs_at engine 0) (seen_at k 0) (Tick t)
  tick_first result d is one sole =
      let here : at ≡ 0 = omega (arith, one) in
      tick_gave result d is (subst (λ s. IsSole 0 (seen_at m s)) (sym here) sole)
      ∙ ap (λ s. given_after (configs_at engine s) (seen_at k s) (Tick t)) here

  -- and what it reported there
  pub tick_reported : (number : ℕ) (parts : List (List Piece)) (result : Result Answer EngineFault) → length parts ≡ at
      → HaveReportedTick engine number t at k l parts
      → IsDone (Turns at (Tick t)) engine l m [] outs2 result → result ≡ Ok answer
      → HaveReportedTick engine number t (at + 1) k m (parts ++ map (item_piece number) outs2 ∷ [])
  tick_reported number parts result long reported d is r inside sole = dite (ℕ_discrete r at)
      (λ e. at_end parts (map (item_piece number) outs2) (e ∙ sym long)
      ∙ (ap (λ (o : Outcome). map (item_piece number) o.items) (tick_gave result d is (subst (λ x. IsSole 0 (seen_at m x)) e sole))
      ∙ ap (λ x. event_pieces number (Tick t) (given_after (configs_at engine x) (seen_at k x) (Tick t))) (sym e)))
      (λ e. before_end parts (map (item_piece number) outs2) (omega (arith, inside, e, long))
      ∙ reported r (omega (arith, inside, e)) (subst (IsSole 0) ((call_of result d is).turned.seen_elsewhere r e) sole))

-- on one shard it gave this
pub one_gave : (engine : Shards) (t at : ℕ) (k l : Knows) (outcome : Outcome) → at ≡ length engine.locks
    → (at ≡ 1 → IsSole 0 (seen_at l 0) → outcome ≡ given_after (configs_at engine 0) (seen_at k 0) (Tick t))
    → Gave engine k l (Among (Tick t)) outcome
one_gave engine t at k l outcome end gave one sole past stands =
    let n = length engine.locks in
    let inside : 0 < n = omega (arith, one) in
    let all : share n 0 (runs past engine.configs) ≡ runs past engine.configs =
    ap (λ m. share m 0 (runs past engine.configs)) one ∙ one_share (runs past engine.configs) in
    gave (end ∙ one) (sole 0 inside) ∙ (given_stands engine k past (Tick t) inside stands ∙ ap (outcome_of (last_tick past) (Tick t)) all)

refusal_first : (engine : Shards) (at : ℕ) (k l m : Knows) (fault : EngineFault) → seen_at l at ≡ seen_at k at
    → ((s n : ℕ) → fault ≡ Full s n → s ≡ at)
    → IsRefusal fault engine l m → IsRefusal fault engine k m
refusal_first engine at k l m Memory same here r = tt
refusal_first engine at k l m (Full s n) same here r =
    (r.0, r.1, went_first (subst (λ x. seen_at l x ≡ seen_at k x) (sym (here s n refl)) same) r.2)
refusal_first engine at k l m (Spent s word) same here r = r

full_at : (engine : Shards) (shard : ℕ) (k l : Knows) (outs outs2 : List Out) (fault : EngineFault)
    → IsFailed engine shard k l outs outs2 fault
    → (s n : ℕ) → fault ≡ Full s n → s ≡ shard
full_at engine shard k l outs outs2 Memory f s n e = absurd (cc)
full_at engine shard k l outs outs2 (Full at m) f s n e = (let z : at ≡ s = cc in sym z ∙ f.cause.0)
full_at engine shard k l outs outs2 (Spent at w) f s n e = absurd (cc)

pub tick_refused : (engine : Shards) (t at : ℕ) (k l m : Knows) (outs2 : List Out) (fault : EngineFault)
    (result : Result Answer EngineFault) → k.0 ≡ 0 → at < length engine.locks
    → HasTicked engine t at k l → IsDone (Turns at (Tick t)) engine l m [] outs2 result → result ≡ Err fault → IsRefusal fault engine k m
tick_refused engine t at k l m outs2 fault result first inside h d is =
    let f = subst (IsDone (Turns at (Tick t)) engine l m [] outs2) is d in
    refusal_first engine at k l m fault (h.passed.seen_left at (omega arith)) (full_at engine at l m [] outs2 fault f)
    (refused_by fault (h.passed.kept.number ∙ first) inside f)

pub tick_kept : (engine : Shards) (t at : ℕ) (k l m : Knows) (outs2 : List Out) (result : Result Answer EngineFault)
    → HasTicked engine t at k l
    → IsDone (Turns at (Tick t)) engine l m [] outs2 result → HasKept 1 k m
tick_kept engine t at k l m outs2 (Ok answer) h d = (passed_on h.passed d.turned).kept
tick_kept engine t at k l m outs2 (Err fault) h d = (passed_on h.passed d.turned).kept
