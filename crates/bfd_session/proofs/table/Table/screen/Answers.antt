-- An arrival resolves to what it is for, or is discarded by the first test that it fails.
use Rattle.bfd_session.proofs.Common.{◌≡◌, List, None, Some, Ok, Err, Result, sym, ap, Arrival, Test, Row}
use Rattle.bfd_session.proofs.Common.{first_header_failing, first_table_failing, target_of, table_of, Reaches, Reflector, SessionConfig}
use Rattle.bfd_session.proofs.Common.{Ascends}
use Rattle.std.proofs.Common.{ap₂}
use Rattle.std.specs.Prelude.{IfOk, MatchResult, OnOk}
use Rattle.std.specs.Result.{result_err}
use Rattle.bfd_demux.specs.declared.target.Target.{Target}
use Rattle.bfd_sbfd.specs.Reflect.{Ascends as PoolAscends}
use Rattle.bfd_session.specs.Arrivals.{Discarded, coming_to, coming_by, comes_to}
use Rattle.bfd_session.proofs.Reach.{reaches}
use Rattle.bfd_session.proofs.table.Table.screen.Goals as goal

resolves : (rows : List Row) (arrival : Arrival) (r : Result Target Test) → result_err r ≡ first_table_failing rows arrival
    → IfOk r (λ target. Some target ≡ target_of rows arrival)
    → MatchResult r (λ target. comes_to rows arrival ≡ coming_to (Some target) arrival) (λ test. comes_to rows arrival ≡ Discarded test)
resolves rows arrival (Ok target) passes is = sym (ap₂ (λ o t. coming_by o t arrival) passes is)
resolves rows arrival (Err test) fails is = ap (λ o. coming_by o (target_of rows arrival) arrival) (sym fails)

goes : (cs : List SessionConfig) (pool : List Reflector) (arrival : Arrival) (r : Result Target Test) → Ascends cs → PoolAscends pool
    → OnOk r (first_header_failing arrival ≡ None) → IfOk r (λ target. Some target ≡ target_of (table_of cs pool) arrival)
    → IfOk r (λ target. Reaches cs pool arrival target)
goes cs pool arrival (Ok target) ascends climbs header is = reaches cs pool arrival ascends climbs header is
goes cs pool arrival (Err test) ascends climbs header is = tt

pub returns-clause-coming : goal.returns-clause-coming
returns-clause-coming g c =
    rw (← c.self.view_is) (resolves (table_of c.self.inside.roster c.self.inside.pool.items) c.args.arrival.now c.screen.result
    (rw (← c.self.invariant.rows_are) c.screen.ensures.tests) (rw (← c.self.invariant.rows_are) c.screen.ensures.target))

pub returns-clause-reaches : goal.returns-clause-reaches
returns-clause-reaches g c =
    let i = c.self.invariant in
    rw (← c.self.view_is) (goes c.self.inside.roster c.self.inside.pool.items c.args.arrival.now c.screen.result i.ascends i.climbs
    c.screen.ensures.header (rw (← i.rows_are) c.screen.ensures.target))
