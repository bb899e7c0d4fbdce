-- What the timer's closure captures goes to another thread.
use mathlib.Core.List.{List, [], ◌∷◌}
use Prim.Native.Nat.{ℕ}
use lib.Chars.{codes}
use mir.Syntax.{Ty, ty_unit, named}
use denote.RattleType.{RattleType}
use denote.Exit.{no}
use Rattle.bfd_serve.proofs.Common.{u64, param, arg, sendable, IsSend, IsSync, param_send, arg_send, shr_send, mut_send, shr_slice_send}
use Rattle.bfd_serve.proofs.Common.{engine_sync}
use denote.Param.SendFields.{declared_send, as_row_send}
use denote.Struct.Field.{row_field}
use denote.Struct.Tuple.{type_at, TupleAt}
use Rattle.std.proofs.Crossing as heap
use Rattle.bfd_engine.proofs.pass.EnginePass.TheSendSync as pass
use Rattle.bfd_script.proofs.line.entries.Line.TheSendSync as line
use Rattle.bfd_serve.proofs.threads.beside.Goals as goal

-- a closure that lends and owns eight captures, and is only called
captures_send : (δ : Ty) (name : List ℕ) (T₀ T₁ T₂ T₃ T₄ T₅ T₆ T₇ : RattleType) → IsSend T₀ → IsSend T₁ → IsSend T₂ → IsSend T₃ → IsSend T₄
    → IsSend T₅ → IsSend T₆ → IsSend T₇
    → IsSend (param 1 (arg δ no (TupleAt name (T₀ ∷ T₁ ∷ T₂ ∷ T₃ ∷ T₄ ∷ T₅ ∷ T₆ ∷ T₇ ∷ []))))
captures_send δ name T₀ T₁ T₂ T₃ T₄ T₅ T₆ T₇ s₀ s₁ s₂ s₃ s₄ s₅ s₆ s₇ =
    let Ts : List RattleType = T₀ ∷ T₁ ∷ T₂ ∷ T₃ ∷ T₄ ∷ T₅ ∷ T₆ ∷ T₇ ∷ [] in
    param_send 1 (arg δ no (TupleAt name Ts)) (arg_send δ no (TupleAt name Ts) (declared_send (type_at name Ts) (
      as_row_send (row_field T₀) s₀,
      (
        as_row_send (row_field T₁) s₁,
        (
          as_row_send (row_field T₂) s₂,
          (
            as_row_send (row_field T₃) s₃,
            (
              as_row_send (row_field T₄) s₄,
              (
                as_row_send (row_field T₅) s₅,
                (as_row_send (row_field T₆) s₆, (as_row_send (row_field T₇) s₇, tt)),
              ),
            ),
          ),
        ),
      ),
    )))

pub join_mut-requires-send-F : goal.join_mut-requires-send-F
join_mut-requires-send-F g c κs within =
    let n : IsSync u64 = search sendable depth 20 in
    let s = captures_send ty_unit (codes "bfd_serve::threads::fn::beside::timed+Self") _ _ _ _ _ _ _ _
    (shr_send (named 8) κs.1.1.1.1.1.1.1.1.0 _ c.type_bounds.sync-R) (shr_send (named 9) κs.1.1.1.1.1.1.1.1.1.0 _ heap.sync)
    (shr_send (named 10) κs.1.1.1.1.1.1.1.1.1.1.0 _
    (engine_sync (param 0 g.row.W) g.W.Timers g.W.Timers-dict g.W.Destruct-dict c.type_bounds.send-W))
    (mut_send (named 11) κs.1.1.1.1.1.1.1.1.1.1.1.0 _ pass.the_send)
    (mut_send (named 12) κs.1.1.1.1.1.1.1.1.1.1.1.1.0 _ c.type_bounds.send-L)
    (mut_send (named 13) κs.1.1.1.1.1.1.1.1.1.1.1.1.1.0 _ c.type_bounds.send-T)
    (shr_slice_send (named 14) κs.1.1.1.1.1.1.1.1.1.1.1.1.1.1.0 _ line.the_sync)
    (shr_send (named 15) κs.1.1.1.1.1.1.1.1.1.1.1.1.1.1.1.0 _ n) in
    record { owned = λ x vs. s.owned x vs; leaving = λ k x w. s.leaving k x w }
