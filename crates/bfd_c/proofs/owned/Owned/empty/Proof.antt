-- A null pointer with an allocator owns nothing.
use Rattle.bfd_c.proofs.Common.{None, lit<, refl, subst, Ura, Val, vstruct, vcons, vnil, SProp, ent, emp, ftrue, fsep, Memory, Routine}
use Rattle.bfd_c.proofs.Common.{WpFn, Tables, Logic, Fun, tables, tables_of, WpFn-mono, Item, ‵, ◌⊛◌, ◌$◌, ◌∵◌, !, qed, by, move, join}
use Rattle.bfd_c.proofs.Common.{split, fsplit, fjoin, fpack, feq_i, suffices, done, agg, lit, no_more, and_then, returns, enter, alloc_all}
use Rattle.bfd_c.proofs.Common.{pass_all, free_all, look_at, get, sets, yes, type_at, plain, Slot, Valss, null_ptr, ptr_val, nothing}
use Rattle.bfd_c.proofs.Common.{triple_of, entered, says, Stays, stay_dropped, walk_of, ends_at, Goes-dropped, walk_Meets, handle_tells}
use Rattle.bfd_c.proofs.Common.{List, [], ◌∷◌, ◌++◌, sym, raw, drop, RawPtr, within, shape}
use Rattle.std_alloc.proofs.ResultValues.{and_tt}
use Rattle.std_heap.specs.contracts.Global as Heap
use Rattle.bfd_c.proofs.AsBox.{E}
use Rattle.bfd_c.specs.contracts.owned.Owned as sealed
use Rattle.bfd_c.specs.contracts.owned.Owned.empty as F
use Rattle.bfd_c.specs.contracts.owned.Owned.empty.Key.{name as #self}
use Rattle.bfd_c.proofs.owned.Owned.empty.Statement as stated
use Rattle.bfd_c.proofs.owned.Owned.empty.Code as code

abbrev From : Slot 0
From = plain (λ _. Heap.the_row)

abbrev stayed : Stays (F.ended).signature.params (F.ended).kept
stayed = (stay_dropped From yes, tt)

module _ {M : Type 1} {𝓤 : Ura M} (𝓛 : Logic 𝓤) (at_mem : Memory → SProp 𝓤) (run : Routine → Fun 𝓤) (𝓣 : Tables 𝓤 𝓛.H) where
  open 𝓛 use {H}

  walk : (z : (walk_of 𝓛 F.ended stayed (F.clauses 𝓛 at_mem run)).Ghost)
      → ent 𝓤 ((walk_of 𝓛 F.ended stayed (F.clauses 𝓛 at_mem run)).pre z)
      (WpFn 𝓤 H 𝓣.C 𝓣.Λ code.function (z.0.4.0 ++ []) ((walk_of 𝓛 F.ended stayed (F.clauses 𝓛 at_mem run)).post z))
  walk z =
      let a = z.0.3.0 in
      let To = type_at (F.signature).result tt in
      let made : To.Denot = record { ptr = null_ptr; alloc = a; held = None } in
      let nowhere : Val = ptr_val null_ptr in
      qed 𝓛 ((‵ ftrue ⊛ ‵ (fsep (Heap.the_row.own_val a z.0.4.0) ftrue)) ∷ raw (emp 𝓤) ∷ []) ∵ split ! $ drop ! $ fsplit ! $
      handle_tells E.al ! a z.0.4.0 (λ hv eh fa.
      let w : Val = vstruct (vcons nowhere (vcons hv vnil)) in
      let Γ : List (Item 𝓤) = ‵ (Heap.the_row.own_val a (hv ∷ [])) ∷ ‵ ftrue ∷ raw (emp 𝓤) ∷ [] in
      by ! (subst (λ (us : List Val). ent 𝓤 (types.Kit.⋆ 𝓛 Γ)
      (WpFn 𝓤 H 𝓣.C 𝓣.Λ code.function (us ++ []) ((walk_of 𝓛 F.ended stayed (F.clauses 𝓛 at_mem run)).post z))) (sym eh)
      (qed 𝓛 Γ ∵ enter ! 𝓣.C 𝓣.Λ code.function (hv ∷ []) _ $ alloc_all ! (λ ls. pass_all ! refl (fa, tt) $
      sets ! (agg ! (and_then ! (lit ! tt) (and_then ! (get ! refl) (no_more !)))) refl
      (and_tt _ fa.0, (record { fits = lit< tt }, (fa.1, tt))) $ returns ! (look_at ! 0 refl) $ free_all ! refl $
      move ! (1 ∷ []) $ drop ! $ move ! (1 ∷ []) $ drop ! $
      nothing ! $ move ! (1 ∷ 0 ∷ []) $ fjoin ! $ feq_i ! (List Val) (nowhere ∷ []) (nowhere ∷ []) refl $ fjoin ! $ feq_i ! (List Val)
      (w ∷ []) (w ∷ []) refl $ fjoin ! $
      fpack ! (Valss (RawPtr ∷ Heap.the_row ∷ [])) (within (shape sealed.the_type) (null_ptr, (((a.memory.seal, tt), tt), tt)) (w ∷ []))
      (nowhere ∷ [], (hv ∷ [], tt)) $
      nothing ! $ move ! (1 ∷ 0 ∷ []) $ fjoin ! $ suffices ! _
      (ends_at 𝓛 F.ended stayed (F.clauses 𝓛 at_mem run) z w made (tt, tt) (tt, tt)) $ says ! refl $
      nothing ! $ nothing ! $ fjoin ! $ join ! $ nothing ! $ join ! $ done !))))

pub empty_spec : {M : Type 1} → stated.statement M
unfolding tables_of
empty_spec 𝓤 𝓛 𝓜 𝓡 wired =
    let 𝓣 = tables_of 𝓤 𝓛.H 𝓜 (tables 𝓤 𝓛.H 𝓜 𝓡 𝓡.env) in
    entered 𝓤 𝓛.H (triple_of 𝓛 F.signature (F.spec 𝓛 𝓜.mem 𝓡.returns)) 𝓣.C 𝓣.Λ #self code.function (code.unfolded 𝓤 𝓛.H 𝓜 𝓡 wired)
    (walk_Meets 𝓛 F.ended stayed (Goes-dropped 𝓛 0 From yes (λ κs x f. refl), tt) (F.clauses 𝓛 𝓜.mem 𝓡.returns)
    (WpFn 𝓤 𝓛.H 𝓣.C 𝓣.Λ code.function) (WpFn-mono 𝓤 𝓛.H 𝓛.laws 𝓣 code.function)
    (walk 𝓛 𝓜.mem 𝓡.returns 𝓣))
