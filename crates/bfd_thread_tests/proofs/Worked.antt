-- What a job is after some of its calls.
use Rattle.std.proofs.Common.{◌≡◌, ◌<◌, ◌++◌, ◌∷◌, [], ℕ, suc, List, length, map, get_or, Result, Ok, Err, refl, ap, ap₂, sym, ◌∙◌, subst}
use Rattle.std.proofs.Common.{append_assoc, append-nil, le_refl, arith}
use Rattle.bfd_rules.specs.declared.outputs.Out.{Out}
use Rattle.bfd_session.specs.declared.event.Answer.{Answer}
use Rattle.bfd_shard.specs.declared.entry.Entry.{Entry}
use Rattle.bfd_turn.proofs.Beginnings.{begins_itself, begins_through}
use Rattle.bfd_engine.specs.declared.fault.EngineFault.{EngineFault}
use Rattle.bfd_engine.specs.Engines.{Shards, Knows, IsOf, AllThere}
use Rattle.bfd_engine.specs.Calls.{Act, Turns, Rests, IsDone, Turned, seen_at, met_word}
use Rattle.bfd_engine.proofs.Growing.{grows, words}
use Rattle.bfd_thread_tests.specs.declared.embedding.threads.Call.{Call}
use Rattle.bfd_thread_tests.specs.declared.embedding.threads.Saw.{Saw}
use Rattle.bfd_thread_tests.specs.declared.embedding.threads.Job.{Job}
use Rattle.bfd_thread_tests.specs.Ready.{IsJobReady, number_of}
use Rattle.bfd_thread_tests.specs.Calling.{act_of, WasMade, WereMade, HasGrown, HasCalled, HasEndedCalls}

pub grown_same : (k : Knows) → HasGrown k k
grown_same k = record {
  number = refl;
  used = refl;
  seen = λ s. begins_itself (seen_at k s);
  word = λ s. le_refl (met_word k s);
  made = λ s. refl;
  kept = λ s. refl;
}

pub grown_then : (k l m : Knows) → HasGrown k l → HasGrown l m → HasGrown k m
grown_then k l m a b = record {
  number = cc;
  used = cc;
  seen = λ s. begins_through (seen_at k s) _ _ (a.seen s) (b.seen s);
  word = λ s. (omega (arith, a.word s, b.word s));
  made = λ s. b.made s ∙ a.made s;
  kept = λ s. b.kept s ∙ a.kept s;
}

pub grown_turn : (k l : Knows) (shard : ℕ) (between new : List Entry) → Turned k l shard between new → HasGrown k l
grown_turn k l shard between new t = record {
  number = t.number;
  used = t.used;
  seen = λ s. grows k l _ s _ new t;
  word = λ s. words k l _ s _ new t;
  made = t.made;
  kept = t.kept;
}

grown_by : (engine : Shards) (act : Act) (k l : Knows) (outs outs2 : List Out) (result : Result Answer EngineFault)
    → IsDone act engine k l outs outs2 result → HasGrown k l
grown_by engine (Rests reported answer) k l outs outs2 result d = subst (HasGrown k) (sym d.1) (grown_same k)
grown_by engine (Turns shard event) k l outs outs2 (Ok answer) d = grown_turn k l _ _ _ d.turned
grown_by engine (Turns shard event) k l outs outs2 (Err fault) d = grown_turn k l _ _ [] d.turned

-- calls after calls
made_then : (engine : Shards) (xs ys : List Call) (k l m : Knows) (ss ts : List Saw) → WereMade engine xs k l ss → WereMade engine ys l m ts
    → WereMade engine (ys ++ xs) k m (ss ++ ts)
made_then engine xs [] k l m ss ts a b = rw b.0 (rw (← sym (append-nil ss) ∙ ap (λ w. ss ++ w) (sym b.1)) a)
made_then engine xs (y ∷ ys) k l m ss ts a b = (
  b.0,
  ss ++ b.1,
  b.2,
  made_then engine xs ys k l b.0 ss b.1 a b.3,
  b.4,
  cc (append_assoc ss b.1 (b.2 ∷ [])),
)

module _ (engine : Shards) where
  -- a job whose pass, calls and saw are as they were
  pub worked_same : {a : Job} (b : Job) → IsJobReady engine a → b.pass ≡ a.pass → b.room ≡ a.room → b.calls.items ≡ a.calls.items
      → b.saw.items ≡ a.saw.items → HasCalled engine a b
  worked_same {a} b ready same room calls saw = record {
    ready = record {
      of = rw same ready.of;
      there = rw same ready.there;
      room = λ s. (omega (arith, ready.room s, room));
    };
    grown = subst (HasGrown a.pass) (sym same) (grown_same a.pass);
    done = [];
    news = [];
    calls = cc (append-nil b.calls.items);
    saw = cc (append-nil a.saw.items);
    made = (same, refl);
  }

  -- one more call
  pub worked_one : {a : Job} (b : Job) (call : Call) (saw : Saw) → IsJobReady engine a → IsOf engine b.pass.1 → AllThere b.pass.1
      → b.room ≡ a.room → a.calls.items ≡ b.calls.items ++ call ∷ []
      → b.saw.items ≡ a.saw.items ++ saw ∷ [] → WasMade engine call a.pass b.pass saw → HasCalled engine a b
  worked_one {a} b call saw ready of there room calls saws made = record {
    ready = record { of = of; there = there; room = λ s. (omega (arith, ready.room s, room)) };
    grown = grown_by engine (act_of engine call) a.pass b.pass [] saw.outs.items saw.answer made;
    done = call ∷ [];
    news = saw ∷ [];
    calls = calls;
    saw = saws;
    made = (a.pass, [], saw, (refl, refl), made, refl);
  }

  pub worked_then : {a b c : Job} → HasCalled engine a b → HasCalled engine b c → HasCalled engine a c
  worked_then {a} {b} {c} v w = record {
    ready = w.ready;
    grown = grown_then _ _ _ v.grown w.grown;
    done = w.done ++ v.done;
    news = v.news ++ w.news;
    calls = cc (append_assoc c.calls.items w.done v.done);
    saw = cc (append_assoc a.saw.items v.news w.news);
    made = made_then engine v.done w.done a.pass b.pass c.pass v.news w.news v.made w.made;
  }

-- the same number at each place
same_numbers : (xs ys : List Job) → length ys ≡ length xs
    → ((i : ℕ) (d : Job) → i < length xs → number_of (get_or ys i d) ≡ number_of (get_or xs i d))
    → map number_of ys ≡ map number_of xs
same_numbers [] [] long each = refl
same_numbers [] (y ∷ ys) long each = absurd (omega (arith, long))
same_numbers (x ∷ xs) [] long each = absurd (omega (arith, long))
same_numbers (x ∷ xs) (y ∷ ys) long each =
    ap₂ (λ n ns. n ∷ ns) (each 0 x (omega arith)) (same_numbers xs ys (omega (arith, long)) (λ i d h. each (suc i) d (omega (arith, h))))

pub numbers_each : {engine : Shards} (xs ys : List Job) → length ys ≡ length xs
    → ((i : ℕ) (d : Job) → i < length xs → HasEndedCalls engine (get_or xs i d) (get_or ys i d)) → map number_of ys ≡ map number_of xs
numbers_each xs ys long each = same_numbers xs ys long (λ i d h. (each i d h).worked.grown.number)
