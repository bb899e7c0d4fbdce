-- Lines in runs, and what was planned of the runs, put one behind another.
use Rattle.bfd_replay.proofs.PlanCommon.{◌≡◌, ◌<◌, ◌≤◌, ◌+◌, ◌++◌, ℕ, zero, suc, List, [], ◌∷◌, length, map, get_or, take, drop, refl, sym}
use Rattle.bfd_replay.proofs.PlanCommon.{ap, subst, append_assoc, arith, length-append, slice_index_or, AllByRecursion, map-append}
use Rattle.bfd_replay.proofs.PlanCommon.{length-map, take-append-drop, Reflector, SessionConfig, Line, queue, apart_pieces, AreQueues}
use Rattle.bfd_replay.proofs.PlanCommon.{AreRuns, Follow, IsMet, IsPlanOf, IsRunPlanned, behind, happenings, happening, run_lines, Numbered}
use Rattle.bfd_replay.proofs.PlanCommon.{Piece, queue_append, apart_append}
use Rattle.std.specs.Global.{Vec}
use Rattle.std.proofs.lemmas.List.Elements.{All-from_recursion}
use Rattle.bfd_session.specs.Tables.{Members, members}
use Rattle.bfd_script.proofs.Elements.{each_more}
use Rattle.bfd_replay.specs.declared.plan.runs.Run.{Run}
use Rattle.bfd_replay.proofs.Planning.{IsOnPlan, plan_start, plan_end}

-- lines that are cut from the end on: these are left
pub record IsCut (all left : List Line) (runs : List Run) : Type 0 where
  pub follow : Follow (1 + length left) runs
  pub whole : left ++ run_lines runs ≡ all

pub cut_more : (all left front tail : List Line) (runs more : List Run) {r : Run} → left ≡ front ++ tail → more ≡ r ∷ runs
    → r.first ≡ 1 + length front → r.lines.items ≡ tail
    → IsCut all left runs → IsCut all front more
cut_more all left front tail runs more split is first lines c =
    subst (IsCut all front) (sym is) (record {
      follow = (
        first,
        subst (λ n. Follow n runs) (omega (arith, length-append front tail, ap length split, ap length lines)) c.follow,
      );
      whole = cc (append_assoc front tail (run_lines runs));
    })

wider : {m : ℕ} (n : ℕ) (runs : List Run) → m ≤ n → AllByRecursion (λ (r : Run). r.first + length r.lines.items ≤ m) runs
    → AllByRecursion (λ (r : Run). r.first + length r.lines.items ≤ n) runs
wider n [] up h = tt
wider n (r ∷ rest) up h = (omega (arith, up, h.0), wider n rest up h.1)

module _ {A : Type 0} where
  pub cut_apart : (n : ℕ) (xs front tail : List A) → front ≡ take n xs → tail ≡ drop n xs → xs ≡ front ++ tail
  cut_apart n xs front tail f t = cc (take-append-drop n xs)

follow_within : (number : ℕ) (runs : List Run) → Follow number runs
    → AllByRecursion (λ (r : Run). r.first + length r.lines.items ≤ number + length (run_lines runs)) runs
follow_within number [] f = tt
follow_within number (r ∷ rest) f =
    let long = length-append r.lines.items (run_lines rest) in (
      omega (arith, f.0, long),
      wider (number + length (run_lines (r ∷ rest))) rest (omega (arith, long))
          (follow_within (number + length r.lines.items) rest f.1),
    )

pub cut_end : {all : List Line} {runs : List Run} → IsCut all [] runs → AreRuns all runs
cut_end {all} {runs} c = record {
  follow = c.follow;
  whole = c.whole;
  within = All-from_recursion (λ r. r.first + length r.lines.items ≤ 1 + length all) runs
      (wider (1 + length all) runs (omega (arith, ap length c.whole)) (follow_within 1 runs c.follow));
}

-- plans of runs
abbrev pub ArePlans : List SessionConfig → List Reflector → ℕ → List Run → List (Vec (Vec Numbered) × List Piece) → Type 0
ArePlans configs pool shards [] [] = Unit {0}
ArePlans configs pool shards (r ∷ rs) (p ∷ ps) = IsPlanOf configs pool shards r p × ArePlans configs pool shards rs ps
ArePlans configs pool shards _ _ = ⊥

plans_are : (configs : List SessionConfig) (pool : List Reflector) (shards : ℕ) (rs : List Run)
    (ps : List (Vec (Vec Numbered) × List Piece)) → length ps ≡ length rs
    → ((i : ℕ) (r : Run) (p : Vec (Vec Numbered) × List Piece) → i < length rs
    → IsPlanOf configs pool shards (slice_index_or rs i r) (slice_index_or ps i p)) → ArePlans configs pool shards rs ps
plans_are configs pool shards [] [] long each = tt
plans_are configs pool shards [] (p ∷ ps) long each = absurd (omega (arith, long))
plans_are configs pool shards (r ∷ rs) [] long each = absurd (omega (arith, long))
plans_are configs pool shards (r ∷ rs) (p ∷ ps) long each = (
  each 0 r p (omega arith),
  plans_are configs pool shards rs ps (omega (arith, long))
      (λ i r2 p2 h. each (suc i) r2 p2 (omega (arith, h))),
)

-- what was put together, where these plans are left
pub record IsPut (configs : List SessionConfig) (pool : List Reflector) (all : List Line) (shards : ℕ) (queues : List (List Numbered))
    (apart : List Piece) (plans : List (Vec (Vec Numbered) × List Piece)) : Type 0 where
  pub runs : List Run
  pub number : ℕ
  pub follow : Follow number runs
  pub planned : ArePlans configs pool shards runs plans
  pub on : IsOnPlan configs pool all (run_lines runs) shards 1 number queues apart

long_behind : (xs ys : List (List Numbered)) → length (behind xs ys) ≡ length xs
long_behind [] ys = refl
long_behind (x ∷ xs) [] = refl
long_behind (x ∷ xs) (y ∷ ys) = ap suc (long_behind xs ys)

behind_at : (xs ys : List (List Numbered)) (k : ℕ) → length ys ≡ length xs → get_or (behind xs ys) k [] ≡ get_or xs k [] ++ get_or ys k []
behind_at [] [] k same = refl
behind_at [] (y ∷ ys) k same = absurd (omega (arith, same))
behind_at (x ∷ xs) [] k same = absurd (omega (arith, same))
behind_at (x ∷ xs) (y ∷ ys) zero same = refl
behind_at (x ∷ xs) (y ∷ ys) (suc k) same = behind_at xs ys k (omega (arith, same))

-- one more queue behind one shard's
pub behind_next : (done : List (List Numbered)) {xs ys all after left rest : List (List Numbered)} {x q both : List Numbered}
    → left ≡ x ∷ rest → all ≡ q ∷ ys → both ≡ x ++ q → after ≡ done ++ both ∷ []
    → done ++ behind left all ≡ xs → after ++ behind rest ys ≡ xs
behind_next done {ys} {rest} {x} {q} split one two is so_far = cc (append_assoc done ((x ++ q) ∷ []) (behind rest ys))

-- one more run
put_run : {configs : List SessionConfig} {pool : List Reflector} {all lines : List Line}
    (rest : List Line) {shards number : ℕ} {before queues after : List (List Numbered)} {apart reported apart2 : List Piece}
    → IsRunPlanned configs pool shards number lines queues reported → after ≡ behind before queues → apart2 ≡ apart ++ reported
    → IsOnPlan configs pool all (lines ++ rest) shards 1 number before apart
    → IsOnPlan configs pool all rest shards 1 (number + length lines) after apart2
put_run {configs} {pool} {lines} rest {shards} {number} {before} {queues} {apart} {reported} p is more on =
    let these = map-append (happening configs pool) lines rest in
    let long = length-map lines (happening configs pool) in
    record {
      long = cc (long_behind before queues);
      queued = λ k inside.
          cc (
            behind_at before queues k (cc),
            append_assoc (slice_index_or before k []) (slice_index_or queues k [])
                (queue shards k (number + length lines) (happenings configs pool rest)),
            p.queued k inside,
            queue_append shards k number (happenings configs pool lines) (happenings configs pool rest),
            on.queued k inside,
          );
      reported =
          cc (
            append_assoc apart reported (apart_pieces (number + length lines) (happenings configs pool rest)),
            apart_append number (happenings configs pool lines) (happenings configs pool rest),
          );
      met = λ h. on.met (subst (AllByRecursion (IsMet configs)) (sym these)
          (each_more (IsMet configs) (happenings configs pool lines) (happenings configs pool rest) p.met h));
      few = omega (arith, length-append lines rest, on.few);
    }

put_next : {configs : List SessionConfig} {pool : List Reflector} {all : List Line} {shards number : ℕ} {before after : List
    (List Numbered)} {apart apart2 : List Piece} (runs : List Run) (plan : Vec (Vec Numbered) × List Piece)
    (plans : List (Vec (Vec Numbered) × List Piece)) → after ≡ behind before (map (λ q. q.items) plan.0.items) → apart2 ≡ apart ++ plan.1
    → Follow number runs → ArePlans configs pool shards runs (plan ∷ plans)
    → IsOnPlan configs pool all (run_lines runs) shards 1 number before apart → IsPut configs pool all shards after apart2 plans
put_next [] plan plans is more f planned on = absurd planned
put_next {number} (r ∷ rs) plan plans is more f planned on = record {
  runs = rs;
  number = number + length r.lines.items;
  follow = f.1;
  planned = planned.1;
  on = put_run (run_lines rs) (rw (← f.0) planned.0) is more on;
}

pub put_more : {configs : List SessionConfig} {pool : List Reflector} {all : List Line} {shards : ℕ} {before after : List
    (List Numbered)} {apart apart2 : List Piece} {plan : Vec (Vec Numbered) × List Piece} {plans rest : List (Vec (Vec Numbered)
    × List Piece)} → plans ≡ plan ∷ rest → after ≡ behind before (map (λ q. q.items) plan.0.items) → apart2 ≡ apart ++ plan.1
    → IsPut configs pool all shards before apart plans → IsPut configs pool all shards after apart2 rest
put_more {plan} {rest} split is more p = put_next p.runs plan rest is more p.follow (rw (← split) p.planned) p.on

wide_by : (configs : List SessionConfig) (pool : List Reflector) (shards : ℕ) (runs : List Run) (plan : Vec (Vec Numbered) × List Piece)
    (plans : List (Vec (Vec Numbered) × List Piece))
    → ArePlans configs pool shards runs (plan ∷ plans) → length (map (λ q. q.items) plan.0.items) ≡ shards
wide_by configs pool shards [] plan plans planned = absurd planned
wide_by configs pool shards (r ∷ rs) plan plans planned = planned.0.long

-- a run has as many queues
pub put_wide : {configs : List SessionConfig} {pool : List Reflector} {all : List Line} {shards : ℕ} {queues : List
    (List Numbered)} {apart : List Piece} {plan : Vec (Vec Numbered) × List Piece} {plans rest : List (Vec (Vec Numbered) × List Piece)}
    → plans ≡ plan ∷ rest
    → IsPut configs pool all shards queues apart plans → length queues ≡ length (map (λ q. q.items) plan.0.items)
put_wide {configs} {pool} {shards} {plan} {rest} split p = cc (wide_by configs pool shards p.runs plan rest (rw (← split) p.planned))

pub put_start : {table : Members} {configs : List SessionConfig} {pool : List Reflector} {all : List Line} {shards : ℕ}
    (queues : List (List Numbered)) {apart : List Piece} {runs : List Run} {plans left : List (Vec (Vec Numbered) × List Piece)}
    → table ≡ members configs pool → AreRuns all runs → left ≡ plans → length plans ≡ length runs
    → ((i : ℕ) (r : Run) (p : Vec (Vec Numbered) × List Piece) → i < length runs
    → IsPlanOf table.configs table.pool shards (slice_index_or runs i r) (slice_index_or plans i p))
    → length queues ≡ shards → ((k : ℕ) → slice_index_or queues k [] ≡ []) → apart ≡ [] → IsPut configs pool all shards queues apart left
put_start {table} {configs} {pool} {shards} queues {runs} {plans} is are same long each wide none empty = record {
  runs = runs;
  number = 1;
  follow = are.follow;
  planned = rw same (subst (λ (t : Members). ArePlans t.configs t.pool shards runs plans) is
      (plans_are table.configs table.pool shards runs plans long each));
  on = plan_start configs pool queues are.whole refl wide none empty;
}

put_last : {configs : List SessionConfig} {pool : List Reflector} {all : List Line} {shards number : ℕ} {queues : List
    (List Numbered)} {apart : List Piece} (runs : List Run)
    → ArePlans configs pool shards runs [] → IsOnPlan configs pool all (run_lines runs) shards 1 number queues apart
    → IsRunPlanned configs pool shards 1 all queues apart
put_last [] planned on = plan_end refl on
put_last (r ∷ rs) planned on = absurd planned

pub record IsEndOfPlan (configs : List SessionConfig) (pool : List Reflector) (all : List Line) (shards : ℕ) (queues : List (List Numbered))
    (apart : List Piece) : Type 0 where
  pub queues_are : AreQueues shards (happenings configs pool all) queues
  pub apart_is : apart ≡ apart_pieces 1 (happenings configs pool all)
  pub met : AllByRecursion (IsMet configs) (happenings configs pool all)

ended : {configs : List SessionConfig} {pool : List Reflector} {all : List Line} {shards : ℕ} {queues : List (List Numbered)} {apart : List
    Piece}
    → IsRunPlanned configs pool shards 1 all queues apart → IsEndOfPlan configs pool all shards queues apart
ended p = record {
  queues_are = record { long = p.long; each = p.queued };
  apart_is = p.reported;
  met = p.met;
}

pub put_end : {configs : List SessionConfig} {pool : List Reflector} {all : List Line} {shards : ℕ} {queues : List
    (List Numbered)} {apart : List Piece} {plans : List (Vec (Vec Numbered) × List Piece)}
    → plans ≡ [] → IsPut configs pool all shards queues apart plans → IsEndOfPlan configs pool all shards queues apart
put_end none p = ended (put_last p.runs (rw (← none) p.planned) p.on)
