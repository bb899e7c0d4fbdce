-- What every session accepts may be given to the one that is found.
use Rattle.bfd_session.proofs.Common.{◌≡◌, ℕ, List, Option, None, Some, IfSome, SessionConfig, Event, CanTake}
use Rattle.bfd_session.specs.Reaching.{IsTaken}
use Rattle.bfd_session.specs.Rows.{place_of}
use Rattle.bfd_session.proofs.Initiating.{stands}
use Rattle.bfd_session.proofs.table.Table.place_of.Goals as goal

taken : (cs : List SessionConfig) (discr : ℕ) (r : Option ℕ) → r ≡ place_of discr cs
    → IfSome r (λ place. (event : Event) → ((c : SessionConfig) → CanTake c event) → IsTaken cs place event)
taken cs discr None e = tt
taken cs discr (Some k) e = λ event takes. stands cs discr k event e takes

pub returns-clause-taken : goal.returns-clause-taken
returns-clause-taken c = rw (← c.self.view_is) (taken c.self.inside.roster c.args.discr c.place_of.result c.place_of.ensures)
