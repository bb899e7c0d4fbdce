use Rattle.bfd_demux.proofs.Common.{arith, sym, ap, ◌∙◌, refl, Some, is_heard}
use Rattle.bfd_demux.specs.contracts.name.NameOrd.TheImpl as name_order
use Rattle.bfd_demux.proofs.Lookups.{missing_by, found_by, few_names, name_known, name_unknown, none_named, some_named, place_of_name}
use Rattle.bfd_demux.proofs.demux.Demux.by_discr.Goals as goal

pub guess_by_discr-requires : goal.guess_by_discr-requires
guess_by_discr-requires g c = rw c.as_slice-names.ensures.value (few_names c.self.invariant)

pub place_near-requires-clause-few : goal.place_near-requires-clause-few
place_near-requires-clause-few g c = rw c.as_slice-names.ensures.value (few_names c.self.invariant)

pub returns-in_err-place-clause-known : goal.returns-in_err-place-clause-known
returns-in_err-place-clause-known g c =
    rw (c.from_residual.ensures, ← c.self.view_is) (name_unknown c.self.invariant c.args.port c.args.discr
    (missing_by name_order.ghosts.cmp c.as_slice-names.ensures.value c.name_on.ensures c.in_err-place.ensures.none))

pub returns-in_err-place-clause-found : goal.returns-in_err-place-clause-found
returns-in_err-place-clause-found g c =
    rw (
      c.from_residual.ensures,
      ← c.self.view_is,
      none_named c.self.invariant c.args.port c.args.discr
          (name_unknown c.self.invariant c.args.port c.args.discr
          (missing_by name_order.ghosts.cmp c.as_slice-names.ensures.value c.name_on.ensures c.in_err-place.ensures.none)),
    ) refl

pub returns-then-not-is_heard-clause-known : goal.returns-then-not-is_heard-clause-known
returns-then-not-is_heard-clause-known g c =
    rw (← c.self.view_is) (cc ((name_known c.self.invariant c.args.port c.args.discr _ c.index.result.now
    (found_by c.as_slice-names.ensures.value c.name_on.ensures c.in_ok-place.ensures.found))))

pub returns-then-not-is_heard-clause-found : goal.returns-then-not-is_heard-clause-found
returns-then-not-is_heard-clause-found g c =
    let unknown = sym c.if-not-is_heard.true ∙ c.is_heard.ensures ∙ ap (λ entry. is_heard c.args.port entry.1) c.index.ensures
    ∙ (name_known c.self.invariant c.args.port c.args.discr _ c.index.result.now
    (found_by c.as_slice-names.ensures.value c.name_on.ensures c.in_ok-place.ensures.found)) in
    rw (← c.self.view_is, none_named c.self.invariant c.args.port c.args.discr unknown) refl

pub overflow_sub-result : goal.overflow_sub-result
overflow_sub-result g c =
    omega (
      arith,
      c.names_before.ensures,
      place_of_name c.self.invariant c.args.port c.args.discr _
          (found_by c.as_slice-names.ensures.value c.name_on.ensures c.in_ok-place.ensures.found),
    )

pub overflow_cast-result : goal.overflow_cast-result
overflow_cast-result g c =
    omega (
      arith,
      (found_by c.as_slice-names.ensures.value c.name_on.ensures c.in_ok-place.ensures.found).within,
      few_names c.self.invariant,
    )

pub returns-clause-known : goal.returns-clause-known
returns-clause-known g c =
    rw (← c.self.view_is) (cc ((name_known c.self.invariant c.args.port c.args.discr _ c.index.result.now
    (found_by c.as_slice-names.ensures.value c.name_on.ensures c.in_ok-place.ensures.found))))

pub returns-clause-found : goal.returns-clause-found
returns-clause-found g c =
    let at = found_by c.as_slice-names.ensures.value c.name_on.ensures c.in_ok-place.ensures.found in
    let is_known = sym c.if-not-is_heard.false ∙ c.is_heard.ensures ∙ ap (λ entry. is_heard c.args.port entry.1) c.index.ensures
    ∙ (name_known c.self.invariant c.args.port c.args.discr c.in_ok-place.place c.index.result.now at) in
    let place = place_of_name c.self.invariant c.args.port c.args.discr c.in_ok-place.place at in
    rw (← c.self.view_is) (ap Some (omega (arith, c.names_before.ensures))
    ∙ sym (some_named c.self.invariant c.args.port c.args.discr is_known))
