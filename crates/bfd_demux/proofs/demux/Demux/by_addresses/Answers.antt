use Rattle.bfd_demux.proofs.Common.{arith, ap, refl, Session}
use Rattle.bfd_demux.specs.contracts.name.NameOrd.TheImpl as name_order
use Rattle.bfd_demux.specs.contracts.row.RowKindOrd.TheImpl as kind_order
use Rattle.bfd_demux.proofs.Lookups.{missing_by, found_by, few_names, few_addresses, address_unknown, address_named, address_index}
use Rattle.bfd_demux.proofs.Lookups.{address_session, none_addressed, place_of_session}
use Rattle.bfd_demux.proofs.demux.Demux.by_addresses.Goals as goal

pub guess_by_peer-requires : goal.guess_by_peer-requires
guess_by_peer-requires g c = rw c.as_slice-addresses.ensures.value (few_addresses c.self.invariant)

pub place_near-requires-clause-few : goal.place_near-requires-clause-few
place_near-requires-clause-few g c = rw c.as_slice-addresses.ensures.value (few_addresses c.self.invariant)

pub guess_by_discr-requires : goal.guess_by_discr-requires
guess_by_discr-requires g c = rw c.as_slice-names.ensures.value (few_names c.self.invariant)

pub place_near-requires-2-clause-few : goal.place_near-requires-2-clause-few
place_near-requires-2-clause-few g c = rw c.as_slice-names.ensures.value (few_names c.self.invariant)

pub returns-in_err-place-clause-known : goal.returns-in_err-place-clause-known
returns-in_err-place-clause-known g c =
    rw (c.from_residual.ensures, ← c.self.view_is) (address_unknown c.self.invariant c.args.kind c.requires
    (missing_by kind_order.ghosts.cmp c.as_slice-addresses.ensures.value refl c.in_err-place.ensures.none))

pub returns-in_err-place-clause-found : goal.returns-in_err-place-clause-found
returns-in_err-place-clause-found g c =
    rw (
      c.from_residual.ensures,
      ← c.self.view_is,
      none_addressed c.self.invariant c.args.kind (address_unknown c.self.invariant c.args.kind
          c.requires (missing_by kind_order.ghosts.cmp c.as_slice-addresses.ensures.value refl c.in_err-place.ensures.none)),
    ) refl

pub returns-in_err-index-clause-known : goal.returns-in_err-index-clause-known
returns-in_err-index-clause-known g c =
    absurd (address_session c.self.invariant _ _ c.index.result.now c.requires
    (found_by c.as_slice-addresses.ensures.value refl c.in_ok-place.ensures.found)
    (missing_by name_order.ghosts.cmp c.as_slice-names.ensures.value (ap (λ entry. Session entry.1) c.index.ensures)
    c.in_err-index.ensures.none))

pub returns-in_err-index-clause-found : goal.returns-in_err-index-clause-found
returns-in_err-index-clause-found g c =
    absurd (address_session c.self.invariant _ _ c.index.result.now c.requires
    (found_by c.as_slice-addresses.ensures.value refl c.in_ok-place.ensures.found)
    (missing_by name_order.ghosts.cmp c.as_slice-names.ensures.value (ap (λ entry. Session entry.1) c.index.ensures)
    c.in_err-index.ensures.none))

pub overflow_cast-result : goal.overflow_cast-result
overflow_cast-result g c = omega (
  arith,
  (found_by c.as_slice-names.ensures.value refl c.in_ok-index.ensures.found).within,
  few_names c.self.invariant,
)

pub returns-clause-known : goal.returns-clause-known
returns-clause-known g c =
    rw (← c.self.view_is) (address_named c.self.invariant _ _ c.index.result.now c.requires
    (found_by c.as_slice-addresses.ensures.value refl c.in_ok-place.ensures.found))

pub returns-clause-found : goal.returns-clause-found
returns-clause-found g c =
    let index_at = found_by c.as_slice-names.ensures.value (cc) c.in_ok-index.ensures.found in
    rw (← c.self.view_is) (cc (
      (place_of_session c.self.invariant _ _ index_at),
      address_index c.self.invariant _ _ c.index.result.now c.requires
          (found_by c.as_slice-addresses.ensures.value refl c.in_ok-place.ensures.found),
    ))
