-- Both fields are moved back, where there is an engine; the other case is ruled out.
use Rattle.bfd_c.proofs.Common.{Option, None, Some, Bool, true, false, refl, subst, Ura, Val, SProp, ent, id⊢, ftrue, fsep, Memory, Routine}
use Rattle.bfd_c.proofs.Common.{WpFn, Tables, Logic, Fun, fact, tables, tables_of, WpFn-mono, Item, ‵, ◌⊛◌, ◌$◌, ◌∵◌, !, qed, by, move}
use Rattle.bfd_c.proofs.Common.{use1, join, split, fsplit, fjoin, suffices, done, whole, sub, agg, stop, fld, no_more, and_then, of_opd}
use Rattle.bfd_c.proofs.Common.{returns, enter, alloc_all, pass_all, free_all, look_at, get, get_in, sets, yes, type_at, nothing, heard}
use Rattle.bfd_c.proofs.Common.{triple_of, entered, says, Stays, stay_dropped, walk_of, ends_at, Goes-dropped, walk_Meets, D, B, word}
use Rattle.bfd_c.proofs.Common.{box_typed, box_out, box_in, List, [], ◌∷◌, ◌++◌, sym, raw, drop, T}
use Rattle.std.specs.Prelude.{◌≡◌}
use denote.Triple.Entry.{on_entry}
use Rattle.bfd_c.proofs.AsBox.{E, FromKept as From}
use Rattle.bfd_c.specs.contracts.owned.Owned.into_apart as F
use Rattle.bfd_c.specs.contracts.owned.Owned.into_apart.Key.{name as #self}
use Rattle.bfd_c.proofs.owned.Owned.into_apart.Statement as stated
use Rattle.bfd_c.proofs.owned.Owned.into_apart.Code as code

abbrev stayed : Stays (F.ended).signature.params (F.ended).kept
stayed = (stay_dropped From yes, tt)

module _ {M : Type 1} {𝓤 : Ura M} (𝓛 : Logic 𝓤) (at_mem : Memory → SProp 𝓤) (run : Routine → Fun 𝓤) (𝓣 : Tables 𝓤 𝓛.H) where
  open 𝓛 use {H}

  abbrev Ghosts : Type 0
  Ghosts = (walk_of 𝓛 F.ended stayed (F.clauses 𝓛 at_mem run)).Ghost

  abbrev with_held : Ghosts → Option (E.row).Denot → Ghosts
  with_held z h = ((z.0.0, z.0.1, z.0.2, (record { ptr = z.0.3.0.ptr; alloc = z.0.3.0.alloc; held = h }, tt), z.0.4), z.1)

  walk_held : (z : Ghosts) (h : Option (E.row).Denot)
      → ent 𝓤 ((walk_of 𝓛 F.ended stayed (F.clauses 𝓛 at_mem run)).pre (with_held z h))
      (WpFn 𝓤 H 𝓣.C 𝓣.Λ code.function (z.0.4.0 ++ []) ((walk_of 𝓛 F.ended stayed (F.clauses 𝓛 at_mem run)).post (with_held z h)))
  walk_held z None =
      qed 𝓛 (raw (on_entry 𝓛 F.signature z.0.0 z.0.1 (record { ptr = z.0.3.0.ptr; alloc = z.0.3.0.alloc; held = None }, tt) z.0.4) ∷ raw
      (fact 𝓤 (false ≡ true)) ∷ []) ∵ move ! (1 ∷ []) $
      heard ! (false ≡ true) (λ e. absurd (subst (λ (b : Bool). T b) (sym e) tt))
  walk_held z (Some x) =
      let v : D E = record { ptr = z.0.3.0.ptr; alloc = z.0.3.0.alloc; value = x } in
      let To = type_at (F.signature).result tt in
      let made : To.Denot = record { ptr = v.ptr; alloc = v.alloc; value = v.value } in
      qed 𝓛 ((‵ ftrue ⊛ ‵ (fsep ((B E).own_val v z.0.4.0) ftrue)) ∷ raw (fact 𝓤 (true ≡ true)) ∷ []) ∵ split ! $ drop ! $ fsplit ! $
      box_out E ! v z.0.4.0 (λ b o hv e ws fa. box_in E ! v b o v.value e refl $ use1 𝓛 (‵ (To.own_val made (word E hv b o ∷ []))) (id⊢ 𝓤 _)
      $ move ! (1 ∷ 2 ∷ []) $ drop ! $ drop ! $
      let w = word E hv b o in
      let Γ : List (Item 𝓤) = ‵ (To.own_val made (w ∷ [])) ∷ [] in
      by ! (subst (λ (us : List Val). ent 𝓤 (types.Kit.⋆ 𝓛 Γ) (WpFn 𝓤 H 𝓣.C 𝓣.Λ code.function (us ++ [])
      ((walk_of 𝓛 F.ended stayed (F.clauses 𝓛 at_mem run)).post (with_held z (Some x))))) (sym ws)
      (qed 𝓛 Γ ∵ enter ! 𝓣.C 𝓣.Λ code.function (w ∷ []) _ $ alloc_all ! (λ ls. pass_all ! refl (box_typed E hv b o fa, tt) $
      sets ! (of_opd ! (get_in ! (fld ! refl (stop !)) (sub ! 0 refl (whole !)))) refl (tt, tt) $ sets !
      (of_opd ! (get_in ! (fld ! refl (stop !)) (sub ! 1 refl (whole !)))) refl fa $
      sets ! (of_opd ! (get ! refl)) refl (tt, tt) $ sets ! (agg ! (and_then ! (get ! refl) (and_then ! (get ! refl) (no_more !)))) refl
      (box_typed E hv b o fa) $ returns ! (look_at ! 0 refl) $ free_all ! refl $
      suffices ! _ (ends_at 𝓛 F.ended stayed (F.clauses 𝓛 at_mem run) (with_held z (Some x)) w made (tt, tt) (tt, tt)) $ says ! refl $
      nothing ! $ nothing ! $ fjoin ! $ join ! $ nothing ! $ join ! $ done !))))

  walk : (z : Ghosts)
      → ent 𝓤 ((walk_of 𝓛 F.ended stayed (F.clauses 𝓛 at_mem run)).pre z)
      (WpFn 𝓤 H 𝓣.C 𝓣.Λ code.function (z.0.4.0 ++ []) ((walk_of 𝓛 F.ended stayed (F.clauses 𝓛 at_mem run)).post z))
  walk z = walk_held z z.0.3.0.held

pub into_apart_spec : {M : Type 1} → stated.statement M
unfolding tables_of
into_apart_spec 𝓤 𝓛 𝓜 𝓡 wired =
    let 𝓣 = tables_of 𝓤 𝓛.H 𝓜 (tables 𝓤 𝓛.H 𝓜 𝓡 𝓡.env) in
    entered 𝓤 𝓛.H (triple_of 𝓛 F.signature (F.spec 𝓛 𝓜.mem 𝓡.returns)) 𝓣.C 𝓣.Λ #self code.function (code.unfolded 𝓤 𝓛.H 𝓜 𝓡 wired)
    (walk_Meets 𝓛 F.ended stayed (Goes-dropped 𝓛 0 From yes (λ κs x f. refl), tt) (F.clauses 𝓛 𝓜.mem 𝓡.returns)
    (WpFn 𝓤 𝓛.H 𝓣.C 𝓣.Λ code.function) (WpFn-mono 𝓤 𝓛.H 𝓛.laws 𝓣 code.function)
    (walk 𝓛 𝓜.mem 𝓡.returns 𝓣))
