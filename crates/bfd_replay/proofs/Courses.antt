-- A worker on its way, through a queue and from shard to shard.
use Rattle.bfd_replay.proofs.WorkerCommon.{◌≡◌, ◌≢◌, inl, inr, ◌<◌, ◌≤◌, ◌+◌, ◌++◌, ◌∙◌, ◌∷◌, ℕ, [], List, length, sym, ap, refl}
use Rattle.bfd_replay.proofs.WorkerCommon.{append_assoc, arith, length-append, slice_index_or, get_or_append_left, get_or-append_seam}
use Rattle.bfd_replay.proofs.WorkerCommon.{cases_lt, dite, ℕ_discrete, EngineFault, Shards, Knows, IsOf, AllThere, seen_at, taken_at}
use Rattle.bfd_replay.proofs.WorkerCommon.{Numbered, Piece, HasDoneAt, HasFinished, HasLeft, HasStopped, HasReported, HasUsedAt}
use Rattle.bfd_replay.proofs.WorkerCommon.{IsElsewhere}
use Rattle.bfd_replay.proofs.WorkerCommon.{IsIdle, IsTurnRefused, IsStopAt}
use Rattle.bfd_replay.proofs.Soles.{done_more, stopped_at}

-- the events of the queue up to here were done on the shard, and these are left
pub record InQueue (engine : Shards) (shard : ℕ) (queue left : List Numbered) (k l : Knows) (part : List Piece) : Type 0 where
  pub elsewhere : IsElsewhere k l shard
  pub done : List Numbered
  pub all : done ++ left ≡ queue
  pub did : HasDoneAt engine shard done l part
  pub idle : done ≡ [] → IsIdle l shard

elsewhere_more : {k l m : Knows} {shard : ℕ} → IsElsewhere k l shard → IsElsewhere l m shard → IsElsewhere k m shard
elsewhere_more a b = record { number = cc; seen = λ r h. b.seen r h ∙ a.seen r h; taken = λ r h. b.taken r h ∙ a.taken r h }

no_events : (done rest : List Numbered) {queue : List Numbered} (e : Numbered) → done ++ e ∷ rest ≡ queue → queue ≡ [] → ⊥
no_events [] rest e all none = absurd (cc)
no_events (x ∷ done) rest e all none = absurd (cc)

pub queue_more : {engine : Shards} {shard : ℕ} {queue left rest : List Numbered} {e : Numbered} {k l m : Knows} {part part2 : List Piece}
    → left ≡ e ∷ rest
    → InQueue engine shard queue left k l part → IsElsewhere l m shard → taken_at m shard ≤ taken_at l shard + 1
    → HasReported engine shard e l m part part2
    → InQueue engine shard queue rest k m part2
queue_more {rest} {e} split q moved taken reported = record {
  elsewhere = elsewhere_more q.elsewhere moved;
  done = q.done ++ e ∷ [];
  all = cc (append_assoc q.done (e ∷ []) rest);
  did = done_more reported moved.number taken q.did;
  idle = λ none. absurd (no_events q.done [] e refl none);
}

less_done : (done : List Numbered) {left rest queue : List Numbered} {e : Numbered} → left ≡ e ∷ rest → done ++ left ≡ queue
    → length done < length queue
less_done done {left} split all = omega (arith, ap length all, length-append done left, ap length split)

pub stopped_amid : (fault : EngineFault) {engine : Shards} {shard : ℕ} {queue left rest : List Numbered} {e : Numbered} {k l
    m : Knows} {part : List Piece} → left ≡ e ∷ rest
    → InQueue engine shard queue left k l part → IsElsewhere l m shard → IsTurnRefused fault engine shard l m
    → IsStopAt fault engine shard (length queue) m
stopped_amid fault {l} {m} split q moved refused = stopped_at fault l m refused moved.number q.did (less_done q.done split q.all)

-- from shard to shard: those before have a part, and those after weren't begun
pub record OverShards (engine : Shards) (queues : List (List Numbered)) (k l : Knows) (parts : List (List Piece)) : Type 0 where
  pub of : IsOf engine l.1
  pub there : AllThere l.1
  pub number : l.0 ≡ k.0
  pub done : (r : ℕ) → r < length parts → HasDoneAt engine r (slice_index_or queues r []) l (slice_index_or parts r [])
  pub used : (r : ℕ) → r < length parts → HasUsedAt l r (slice_index_or queues r [])
  pub idle : (r : ℕ) → length parts ≤ r → r < length engine.locks → IsIdle l r

done_as : {engine : Shards} {r : ℕ} {queue : List Numbered} (l m : Knows) {part : List Piece} → m.0 ≡ l.0 → seen_at m r ≡ seen_at l r
    → taken_at m r ≡ taken_at l r
    → HasDoneAt engine r queue l part → HasDoneAt engine r queue m part
done_as l m number seen taken d = rw number (rw seen (rw taken d))

idle_as : {r : ℕ} {l : Knows} (m : Knows) → seen_at m r ≡ seen_at l r → taken_at m r ≡ taken_at l r → IsIdle l r → IsIdle m r
idle_as m seen taken i = record { seen = cc; taken = cc }

used_as : {r : ℕ} {queue : List Numbered} {l : Knows} (m : Knows) → seen_at m r ≡ seen_at l r → taken_at m r ≡ taken_at l r
    → HasUsedAt l r queue → HasUsedAt m r queue
used_as m seen taken u = record { few = omega (arith, u.few, taken); none = λ e. idle_as m seen taken (u.none e) }

-- the first shards that have a part, or this one
last_or_front : (r n : ℕ) → r < n + 1 → r ≢ n → r < n
last_or_front r n h other = omega (arith, h, other)

pub over_more : (engine : Shards) (queues : List (List Numbered)) (queue : List Numbered) (shard : ℕ) (k l m : Knows)
    (parts parts2 : List (List Piece)) (part : List Piece)
    → shard ≡ length parts → slice_index_or queues shard [] ≡ queue → parts2 ≡ parts ++ part ∷ [] → OverShards engine queues k l parts
    → IsOf engine m.1 → AllThere m.1 → IsElsewhere l m shard → HasUsedAt m shard queue → HasDoneAt engine shard queue m part
    → OverShards engine queues k m parts2
over_more engine queues queue shard k l m parts parts2 part at is pushed o of there moved used done =
    let long : length parts2 ≡ length parts + 1 = omega (arith, ap length pushed, length-append parts (part ∷ [])) in
    record {
      of = of;
      there = there;
      number = cc;
      done = λ r h. dite (ℕ_discrete r shard)
          (λ same. rw same (rw is (rw (ap (λ ps. slice_index_or ps shard []) pushed
          ∙ (ap (λ i. slice_index_or (parts ++ part ∷ []) i []) at ∙ get_or-append_seam parts part [] [])) done)))
          (λ other. let front = last_or_front r (length parts) (omega (arith, h, long)) (λ e. other (e ∙ sym at)) in
          rw (ap (λ ps. slice_index_or ps r []) pushed ∙ get_or_append_left parts (part ∷ []) [] r front)
          (done_as l m moved.number (moved.seen r other) (moved.taken r other) (o.done r front)));
      used = λ r h. dite (ℕ_discrete r shard) (λ same. rw same (rw is used))
          (λ other. used_as m (moved.seen r other) (moved.taken r other)
          (o.used r (last_or_front r (length parts) (omega (arith, h, long)) (λ e. other (e ∙ sym at)))));
      idle = λ r h inside. let other : r ≢ shard = λ e. absurd (omega (arith, e, at, h, long)) in
          idle_as m (moved.seen r other) (moved.taken r other) (o.idle r (omega (arith, h, long)) inside);
    }

idle_used : {l : Knows} {r : ℕ} (queue : List Numbered) → IsIdle l r → HasUsedAt l r queue
idle_used queue i = record { few = omega (arith, i.taken); none = λ e. i }

used_there : {engine : Shards} {queues : List (List Numbered)} {k l : Knows} {parts : List (List Piece)}
    → OverShards engine queues k l parts
    → (r : ℕ) → r < length engine.locks → HasUsedAt l r (slice_index_or queues r [])
used_there {queues} {parts} o r inside = elim (cases_lt r (length parts)) [
  | inl front ↦ o.used r front
  | inr later ↦ idle_used (slice_index_or queues r []) (o.idle r later inside)
]

-- what is left, also where a turn of this shard was refused
pub over_left : (engine : Shards) (queues : List (List Numbered)) (queue : List Numbered) (shard : ℕ) (k l m : Knows)
    (parts : List (List Piece)) → shard ≡ length parts
    → slice_index_or queues shard [] ≡ queue → OverShards engine queues k l parts → IsOf engine m.1 → AllThere m.1 → IsElsewhere l m shard
    → HasUsedAt m shard queue → HasLeft engine queues k m
over_left engine queues queue shard k l m parts at is o of there moved used = record {
  of = of;
  there = there;
  number = cc;
  used = λ r inside. dite (ℕ_discrete r shard) (λ same. rw same (rw is used))
      (λ other. used_as m (moved.seen r other) (moved.taken r other) (used_there o r inside));
}

pub over_end : {engine : Shards} {queues : List (List Numbered)} {k l : Knows} {parts : List (List Piece)}
    → OverShards engine queues k l parts → HasLeft engine queues k l
over_end o = record { of = o.of; there = o.there; number = o.number; used = used_there o }

pub over_finished : {engine : Shards} {queues : List (List Numbered)} {k l : Knows} {parts : List (List Piece)}
    → OverShards engine queues k l parts → length parts ≡ length engine.locks
    → HasFinished engine queues l parts
over_finished o long = record { long = long; done = λ r inside. o.done r (omega (arith, inside, long)) }

pub stopped_here : (fault : EngineFault) (engine : Shards) (queues : List (List Numbered)) {queue : List Numbered} {shard : ℕ} (l : Knows)
    → shard < length engine.locks
    → slice_index_or queues shard [] ≡ queue → IsStopAt fault engine shard (length queue) l → HasStopped engine queues l fault
stopped_here fault engine queues {shard} l inside is stop = record { shard = shard; inside = inside; stop = rw is stop }

-- the next of the queues that are left
pub next_queue : (xs ys zs : List (List Numbered)) (q : List Numbered) (n : ℕ) → xs ++ q ∷ ys ≡ zs → n ≡ length xs → (n < length zs)
    × (slice_index_or zs n [] ≡ q)
next_queue xs ys zs q n e at = (omega (arith, ap length e, length-append xs (q ∷ ys), at), cc (get_or-append_seam xs q ys []))
