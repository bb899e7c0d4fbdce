-- What goes to another thread, and that the first job and the others are ready where all are.
use mathlib.Core.List.{List, [], ◌∷◌}
use Prim.Native.Nat.{ℕ}
use lib.Chars.{codes}
use mir.Syntax.{Ty, ty_unit, named}
use denote.RattleType.{RattleType}
use denote.Exit.{no}
use denote.Param.{arg, param}
use denote.Param.Send.{IsSend, IsSync, arg_send, mut_send, param_send, sendable, shr_send}
use denote.Param.SendFields.{declared_send, as_row_send}
use denote.Plain.{UInt}
use denote.Struct.Field.{row_field}
use denote.Struct.Tuple.{type_at, TupleAt}
use Rattle.std.proofs.Crossing as heap
use Rattle.std.specs.List.{All}
use Rattle.bfd_engine.proofs.Crossing.{engine_sync}
use Rattle.bfd_replay.proofs.WorkerCommon.{arith, rules, subst, suc, w64, IsWorkerReady, Work}
use Rattle.bfd_replay.proofs.worker.jobs.Job.TheSendSync as job
use Rattle.bfd_replay.proofs.worker.jobs.+workers.Goals as goal

-- a closure that lends six captures, and is only called
captures_send : (δ : Ty) (name : List ℕ) (T₀ T₁ T₂ T₃ T₄ T₅ : RattleType) → IsSend T₀ → IsSend T₁ → IsSend T₂ → IsSend T₃ → IsSend T₄
    → IsSend T₅
    → IsSend (param 1 (arg δ no (TupleAt name (T₀ ∷ T₁ ∷ T₂ ∷ T₃ ∷ T₄ ∷ T₅ ∷ []))))
captures_send δ name T₀ T₁ T₂ T₃ T₄ T₅ s₀ s₁ s₂ s₃ s₄ s₅ =
    let Ts : List RattleType = T₀ ∷ T₁ ∷ T₂ ∷ T₃ ∷ T₄ ∷ T₅ ∷ [] in
    param_send 1 (arg δ no (TupleAt name Ts)) (arg_send δ no (TupleAt name Ts) (declared_send (type_at name Ts) (
      as_row_send (row_field T₀) s₀,
      (
        as_row_send (row_field T₁) s₁,
        (
          as_row_send (row_field T₂) s₂,
          (as_row_send (row_field T₃) s₃, (as_row_send (row_field T₄) s₄, (as_row_send (row_field T₅) s₅, tt))),
        ),
      ),
    )))

pub work_beside-join_mut-requires-send-F : goal.work_beside-join_mut-requires-send-F
work_beside-join_mut-requires-send-F g t c κs within =
    let n : IsSync (UInt w64) = search sendable in
    let send-W : IsSend (param 0 g.row.W) = search rules in
    let sync-R : IsSync (param 1 g.row.R) = search rules in
    let sync-G : IsSync (param 2 g.row.G) = search rules in
    let s = captures_send ty_unit (codes "bfd_replay::worker::jobs::fn::work_beside::own+Self") _ _ _ _ _ _
    (shr_send (named 5) κs.1.1.1.1.1.1.1.1.0 _ sync-R) (shr_send (named 6) κs.1.1.1.1.1.1.1.1.1.0 _ heap.sync)
    (shr_send (named 7) κs.1.1.1.1.1.1.1.1.1.1.0 _ (engine_sync (param 0 g.row.W) g.W.Timers g.W.Timers-dict g.W.Destruct-dict send-W))
    (mut_send (named 8) κs.1.1.1.1.1.1.1.1.1.1.1.0 _ job.the_send) (shr_send (named 9) κs.1.1.1.1.1.1.1.1.1.1.1.1.0 _ n)
    (shr_send (named 10) κs.1.1.1.1.1.1.1.1.1.1.1.1.1.0 _ sync-G) in
    record { owned = λ x vs. s.owned x vs; leaving = λ k x w. s.leaving k x w }

pub work_each-work-requires-clause-ready : goal.work_each-work-requires-clause-ready
work_each-work-requires-clause-ready g t c =
    (subst (All (λ (j : Work). IsWorkerReady c.args.engine.now j.queues j.pass)) c.in-Some.ensures.cases.0 c.requires.ready) 0
    c.in-Some.job.now (omega arith)

pub work_each-work_beside-requires-clause-own : goal.work_each-work_beside-requires-clause-own
work_each-work_beside-requires-clause-own g t c κs within =
    (subst (All (λ (j : Work). IsWorkerReady c.args.engine.now j.queues j.pass)) c.in-Some.ensures.cases.0 c.requires.ready) 0
    c.in-Some.job.now (omega arith)

pub work_each-work_beside-requires-clause-ready : goal.work_each-work_beside-requires-clause-ready
work_each-work_beside-requires-clause-ready g t c κs within = λ k d h.
    (subst (All (λ (j : Work). IsWorkerReady c.args.engine.now j.queues j.pass)) c.in-Some.ensures.cases.0 c.requires.ready) (suc k) d
    (omega (arith, h))
