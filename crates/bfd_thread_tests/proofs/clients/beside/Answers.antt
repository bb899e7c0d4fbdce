-- What the worker's closure captures goes to another thread.
use mathlib.Core.List.{List, [], ◌∷◌}
use Prim.Native.Nat.{ℕ}
use lib.Chars.{codes}
use mir.Syntax.{Ty, ty_unit, named}
use denote.RattleType.{RattleType}
use denote.Exit.{no}
use denote.Param.{param, arg}
use denote.Param.Send.{IsSend, param_send, arg_send, shr_send, mut_slice_send}
use denote.Param.SendFields.{declared_send, as_row_send}
use denote.Struct.Field.{row_field}
use denote.Struct.Tuple.{type_at, TupleAt}
use Rattle.std.proofs.Crossing as heap
use Rattle.bfd_engine.proofs.Crossing.{engine_sync}
use Rattle.bfd_thread_tests.proofs.embedding.threads.Job.TheSendSync as job
use Rattle.bfd_thread_tests.proofs.clients.beside.Goals as goal

-- a closure that lends four captures, and is only called
captures_send : (δ : Ty) (name : List ℕ) (T₀ T₁ T₂ T₃ : RattleType) → IsSend T₀ → IsSend T₁ → IsSend T₂ → IsSend T₃
    → IsSend (param 1 (arg δ no (TupleAt name (T₀ ∷ T₁ ∷ T₂ ∷ T₃ ∷ []))))
captures_send δ name T₀ T₁ T₂ T₃ s₀ s₁ s₂ s₃ =
    let Ts : List RattleType = T₀ ∷ T₁ ∷ T₂ ∷ T₃ ∷ [] in
    param_send 1 (arg δ no (TupleAt name Ts)) (arg_send δ no (TupleAt name Ts) (declared_send (type_at name Ts)
    (as_row_send (row_field T₀) s₀, (as_row_send (row_field T₁) s₁, (as_row_send (row_field T₂) s₂, (as_row_send (row_field T₃) s₃, tt))))))

pub join_mut-reported-requires-send-F : goal.join_mut-reported-requires-send-F
join_mut-reported-requires-send-F g c κs within =
    let s = captures_send ty_unit (codes "bfd_thread_tests::clients::fn::beside::worked+Self") _ _ _ _
    (shr_send (named 5) κs.1.1.1.1.1.1.1.1.0 _ c.type_bounds.sync-R) (shr_send (named 6) κs.1.1.1.1.1.1.1.1.1.0 _ heap.sync)
    (shr_send (named 7) κs.1.1.1.1.1.1.1.1.1.1.0 _ (engine_sync (param 0 g.row.W) g.W.Timers g.W.Timers-dict g.W.Destruct-dict
    c.type_bounds.send-W))
    (mut_slice_send (named 8) κs.1.1.1.1.1.1.1.1.1.1.1.0 _ job.the_send) in
    record { owned = λ x vs. s.owned x vs; leaving = λ k x w. s.leaving k x w }
