-- The status that follows from what `serve` has to report.
use Rattle.bfdd.proofs.Common.{◌≡◌, ◌⊎◌, ◌≤◌, ℕ, true, List, length, Option, Some, None, Ok, inl, inr, refl, subst, arith, ◌+◌, ◌-◌, ◌^◌}
use Rattle.bfdd.proofs.Common.{min, IfSome, Rose, risen, Status, Memory, Comes, Edges, HasNoScript, HasServedScript, IsFaulty}
use Rattle.bfdd.proofs.Common.{IsServedToFinish, IsOverlong, IsServed, Wanted, most_bytes, OfServing, serves, Job, Lists, script_of, Serve}
use Rattle.bfdd.proofs.Common.{Reports}
use Rattle.std.proofs.Math.Nat.{le-max_right}
use Rattle.bfdd.proofs.ServedText.{read_whole}

-- a fact about a job, where it serves
pub of_serving : (job : Job) (P : Job → Type 0) → (serves job ≡ true → P job) → OfServing (Some job) P
of_serving (Serve hands turns ticks journal) P fact = fact refl
of_serving job P fact = tt

same_script : {bytes more : List ℕ} {one other : Lists} → bytes ≡ more → script_of true bytes ≡ Ok one → script_of true more ≡ Ok other
    → other ≡ one
same_script same first second = cc

no_script : {bytes : List ℕ} {right : Option (List ℕ)} {w : Wanted} {script : Lists}
    → IsFaulty true (Some bytes) right w ⊎ IsOverlong (Some bytes) right w
    → length bytes ≤ most_bytes → script_of true bytes ≡ Ok script → {X : Type 0} → X
no_script {bytes} {right} (inl faulty) few spelled = cc (read_whole bytes right faulty.bytes faulty.read faulty.end, faulty.spelled)
no_script (inr long) few spelled = absurd (omega (arith, few, long.long))

port_rose : (before : ℕ) {now : ℕ} → now ≡ risen before 1 → Rose before now
port_rose before is = rw is (le-max_right before (min (before + 1) (2 ^ 64 - 1)))

-- where the count of ports didn't rise, a script was served to its finish, and the status is that
finished_by : {job : Job} {script : Lists} {old new : Edges} {w : Wanted} {result : Status}
    → (result ≡ w.status) ⊎ (result ≡ Memory) → (Rose old.ports.faults new.ports.faults → ⊥) → Comes job script old new w
    → (result ≡ Memory) ⊎ ((v : Wanted) × IsServed job script old new v × (result ≡ v.status))
finished_by (inr memory) ports comes = inl memory
finished_by {w} (inl is) ports (inl served) = inr (w, served, is)
finished_by {old} (inl is) ports (inr portless) = absurd (ports (port_rose old.ports.faults portless.refused.0.fault))

of_script : (job : Job) (bytes : List ℕ) (right : Option (List ℕ)) (old new : Edges) (w : Wanted) (result : Status)
    → (result ≡ w.status) ⊎ (result ≡ Memory) → (Rose old.ports.faults new.ports.faults → ⊥)
    → HasServedScript job (Some bytes) right old new w ⊎ HasNoScript (Some bytes) right old new w
    → IsServedToFinish job old new result bytes
of_script job bytes right old new w result is ports (inl served) = λ few script spelled. finished_by is ports
    (subst (λ s. Comes job s old new w)
    (same_script (read_whole bytes right served.live.bytes served.live.read served.live.end) spelled served.live.spelled) served.comes)
of_script job bytes right old new w result is ports (inr none) = λ few script spelled. no_script none.unread few spelled

-- with an outside that doesn't fail a script is served to its finish
pub finished : (job : Job) (left right : Option (List ℕ)) (old new : Edges) (w : Wanted) {result : Status}
    → (result ≡ w.status) ⊎ (result ≡ Memory) → (Rose old.ports.faults new.ports.faults → ⊥) → Reports job left right old new w
    → serves job ≡ true
    → IfSome left (IsServedToFinish job old new result)
finished job None right old new w is ports reports serving = tt
finished (Serve hands turns ticks journal) (Some bytes) right old new w {result} is ports reports serving =
    of_script (Serve hands turns ticks journal) bytes right old new w result is ports reports
finished job (Some bytes) right old new w is ports reports serving = cc
