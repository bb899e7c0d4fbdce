-- The watches of an engine that was just opened, and the text of one that is closed.
use Rattle.bfdd.proofs.WatchedTextCommon.{◌≡◌, ◌<◌, ◌≤◌, ◌+◌, ◌*◌, ◌∙◌, ℕ, List, [], length, map, sym, ap, subst, arith, Some, slice_get}
use Rattle.bfdd.proofs.WatchedTextCommon.{Ascends, started, SessionConfig, Reflector, Entry, share, Knows, Shards, configs_at, IsNewPass}
use Rattle.bfdd.proofs.WatchedTextCommon.{happening_outcomes, happenings, Group, Watching, watching, watched, AllSole, AreClosed}
use Rattle.bfdd.proofs.WatchedTextCommon.{AreWatched, HasKept, IsOpenedFor}
use Rattle.bfd_shard.proofs.Sharing.{few_share}
use Rattle.bfd_script.specs.Reading.{Lists}
use Rattle.bfd_script.specs.Sound.{IsScript}
use Rattle.bfd_instance.specs.World.{world}
use Rattle.bfd_replay.proofs.Worlds.{world_is}
use Rattle.bfd_shard.specs.Shard.{Shard}
use Rattle.bfdd.specs.Members.{group_in, watched_of}
use Rattle.bfd_replay.proofs.OneCaller.{all_sole}

same_watching : {cs ds : List SessionConfig} {es fs : List Entry} {m n : ℕ} → cs ≡ ds → es ≡ fs → m ≡ n
    → Some (watching cs es m) ≡ Some (watching ds fs n)
same_watching {cs} {ds} {es} {fs} {m} p q r = ap (λ x. Some (watching x es m)) p
    ∙ (ap (λ x. Some (watching ds x m)) q ∙ ap (λ x. Some (watching ds fs x)) r)

module _ {engine : Shards} {configs : List SessionConfig} {pool : List Reflector} {shards limit : ℕ}
    (o : IsOpenedFor engine configs pool shards limit) where
  -- each watch has taken all that was seen of its shard: nothing
  pub first_watched : {k : Knows} {watches : List Watching} {own : List SessionConfig} {most : ℕ} → own ≡ configs → most ≡ limit
      → IsNewPass engine k → length watches ≡ shards
      → ((r : ℕ) → r < shards → slice_get watches r ≡ Some (watching (share shards r own) [] most))
      → AreWatched engine engine.limit k watches
  first_watched {own = own} its same new long each = record {
    long = long ∙ sym o.shards_are;
    each = λ r inside. each r (omega (arith, inside, o.shards_are))
        ∙ same_watching (let e : share shards r own ≡ configs_at engine r = cc (o.shards_are, o.configs_are, its) in e)
        (sym (new.seen r inside)) (same ∙ sym o.limit_is);
  }

  pub room_enough : {room : ℕ} → room ≡ 5 * length configs + 5 → (shard : ℕ) → 5 * length (configs_at engine shard) + 5 ≤ room
  room_enough is shard = omega (arith, few_share (length engine.locks) shard engine.configs, ap length o.configs_are, is)

  pub in_order : Ascends configs → Ascends engine.configs
  in_order up = rw o.configs_are up

-- the script that was taken apart
pub taken_apart : {whole script : Lists} → script ≡ whole → IsScript whole → IsScript script
taken_apart same is = subst IsScript (sym same) is

-- what was reported is the script's watched text
pub whole_text : (script : Lists) {engine : Shards} {shards limit need : ℕ} (members : List ℕ) (k : Knows) {text : List ℕ} {g : Group}
    → IsOpenedFor engine script.configs script.pool shards limit
    → (AllSole (length engine.locks) k → text ≡ watched
    (happening_outcomes 0 (happenings engine.configs engine.pool script.events) (map started engine.configs)) g)
    → g ≡ group_in need members (map started script.configs) → AllSole (length engine.locks) k → text ≡ watched_of need members script
whole_text script {engine} members k {g = g} o reported group_is s =
    reported s
    ∙ (ap (λ cs. watched (happening_outcomes 0 (happenings cs engine.pool script.events) (map started cs)) g) o.configs_are
    ∙ (ap (λ p. watched (happening_outcomes 0 (happenings script.configs p script.events) (map started script.configs)) g) o.pool_is
    ∙ (ap (λ os. watched os g) (world_is script) ∙ ap (λ x. watched (world script) x) group_is)))

-- .. once the engine is closed, which shows that caller 0 was the only one
pub closed_text : {whole script : Lists} {engine : Shards} {n limit times need : ℕ}
    (members : List ℕ) {k l : Knows} {states : List Shard} {text : List ℕ} {g : Group} → script ≡ whole
    → IsOpenedFor engine script.configs script.pool n limit → IsNewPass engine k → HasKept times k l → AreClosed engine l states
    → (AllSole (length engine.locks) l → text ≡ watched
    (happening_outcomes 0 (happenings engine.configs engine.pool script.events) (map started engine.configs)) g)
    → g ≡ group_in need members (map started script.configs) → text ≡ watched_of need members whole
closed_text {script = script} {need = need} members {l = l} {text = text} same o new kept closed reported group_is =
    subst (λ s. text ≡ watched_of need members s) same (whole_text script members l o reported group_is (all_sole new kept closed))
