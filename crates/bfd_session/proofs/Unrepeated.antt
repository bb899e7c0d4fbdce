-- Rows that make a table differ in their discriminators.
use Rattle.bfd_session.proofs.Common.{◌≡◌, ◌<◌, ◌≤◌, ◌==◌, ◌++◌, ◌+◌, ℕ, Bool, true, false, List, [], ◌∷◌, length, map, refl, Option, None}
use Rattle.bfd_session.proofs.Common.{Some, arith, if◌then◌else◌, nat_lt, position, position_from, AllByRecursion, option_map, nat_tests}
use Rattle.bfd_session.proofs.Common.{Row, SessionConfig, discr_of, Ascends, row_of, rows_of, row_of_reflector, table_of, Reflector}
use Rattle.std.specs.Option.{option_or}
use Rattle.bfd_session.specs.Tables.{Climbs}
use Rattle.bfd_demux.specs.Rows.{same_discr, repeat_after, first_repeat, early_fault, build_fault}
use Rattle.bfd_demux.specs.declared.fault.BuildFault.{BuildFault}
use Rattle.bfd_demux.specs.declared.fault.BuildFault.TheVariants.{ZeroDiscr, TooMany}
use Rattle.bfd_demux.proofs.Once.{unmapped}
use Rattle.bfd_session.proofs.Tables.{Apart, Fresh}
use Rattle.bfd_sbfd.specs.Reflect.{Ascends as PoolAscends}

or_first : {A : Type 0} (a b : Option A) → option_or a b ≡ None → a ≡ None
or_first None b e = refl
or_first (Some x) b e = cc

or_second : {A : Type 0} (a b : Option A) → option_or a b ≡ None → b ≡ None
or_second None b e = e
or_second (Some x) b e = cc

few_by : (n : ℕ) (b : Bool) (o : Option BuildFault) → nat_lt 65536 n ≡ b → (if b then Some (TooMany n) else o) ≡ None → n ≤ 65536
few_by n true o is e = cc
few_by n false o is e = grind (arith, nat_tests)

few_rows : (rows : List Row) → build_fault rows ≡ None → length rows ≤ 65536
few_rows rows e = few_by (length rows) _ (option_map ZeroDiscr (position (λ row. row.discr == 0) rows)) refl
    (or_first (early_fault rows) _ e)

apart_found : (same : Row → Bool) (x : Row) (n : ℕ) (rows : List Row) (b : Bool) → same x ≡ b
    → (if b then Some n else position_from same (n + 1) rows) ≡ None
    → (same x ≡ false) × (position_from same (n + 1) rows ≡ None)
apart_found same x n rows true is e = cc
apart_found same x n rows false is e = (is, e)

-- where no place is found, none is like it
unlike : (same : Row → Bool) (n : ℕ) (rows : List Row) → position_from same n rows ≡ None
    → AllByRecursion (λ other. same other ≡ false) rows
unlike same n [] e = tt
unlike same n (x ∷ rows) e = let s = apart_found same x n rows _ refl e in (s.0, unlike same (n + 1) rows s.1)

front : (P : Row → Type 0) (xs : List Row) (x : Row) → AllByRecursion P (xs ++ x ∷ []) → AllByRecursion P xs
front P [] x h = tt
front P (y ∷ xs) x h = (h.0, front P xs x h.1)

last : (P : Row → Type 0) (xs : List Row) (x : Row) → AllByRecursion P (xs ++ x ∷ []) → P x
last P [] x h = h.0
last P (y ∷ xs) x h = last P xs x h.1

fresh_last : (same : Row → Row → Bool) (earlier : List Row) (x : Row) (rows : List Row) → Fresh same (earlier ++ x ∷ []) rows
    → AllByRecursion (λ later. same later x ≡ false) rows
fresh_last same earlier x [] h = tt
fresh_last same earlier x (row ∷ rows) h = (last (λ other. same row other ≡ false) earlier x h.0, fresh_last same earlier x rows h.1)

fresh_front : (same : Row → Row → Bool) (earlier : List Row) (x : Row) (rows : List Row) → Fresh same (earlier ++ x ∷ []) rows
    → Fresh same earlier rows
fresh_front same earlier x [] h = tt
fresh_front same earlier x (row ∷ rows) h = (front (λ other. same row other ≡ false) earlier x h.0, fresh_front same earlier x rows h.1)

fresh_all : (same : Row → Row → Bool) (earlier rows : List Row) → repeat_after same earlier rows ≡ None → Fresh same earlier rows
fresh_all same earlier [] e = tt
fresh_all same earlier (row ∷ rows) e = (
  unlike (same row) 0 earlier (unmapped _ (position_from (same row) 0 earlier) (or_first _ _ e)),
  fresh_front same earlier row rows (fresh_all same (earlier ++ row ∷ []) rows (or_second _ _ e)),
)

apart_all : (same : Row → Row → Bool) (earlier rows : List Row) → repeat_after same earlier rows ≡ None → Apart same rows
apart_all same earlier [] e = tt
apart_all same earlier (row ∷ rows) e =
    let rest = or_second _ _ e in
    (fresh_last same earlier row rows (fresh_all same (earlier ++ row ∷ []) rows rest), apart_all same (earlier ++ row ∷ []) rows rest)

apart_discrs : (rows : List Row) → build_fault rows ≡ None → Apart same_discr rows
apart_discrs rows e = apart_all same_discr [] rows (unmapped _ (first_repeat same_discr rows)
    (or_first _ _ (or_second (early_fault rows) _ e)))

lower : {d e : ℕ} → d ≤ e → (e == d) ≡ false → d < e
lower le differs = grind (arith, nat_tests)

config_lower : (c later : SessionConfig) → discr_of c ≤ discr_of later → same_discr (row_of later) (row_of c) ≡ false
    → discr_of c < discr_of later
config_lower c d le differs = lower le differs

head_lower : (c : SessionConfig) (cs : List SessionConfig) (ps : List Row) → AllByRecursion (λ later. same_discr later (row_of c) ≡ false)
    (rows_of cs ++ ps) → AllByRecursion (λ e. discr_of c ≤ e) (map discr_of cs)
    → AllByRecursion (λ later. discr_of c < discr_of later) cs
head_lower c [] ps h climbs = tt
head_lower c (x ∷ cs) ps h climbs = (config_lower c x climbs.0 h.0, head_lower c cs ps h.1 climbs.1)

ascend_by : (cs : List SessionConfig) (ps : List Row) → Apart same_discr (rows_of cs ++ ps) → Climbs (map discr_of cs) → Ascends cs
ascend_by [] ps h climbs = tt
ascend_by (c ∷ cs) ps h climbs = (head_lower c cs ps h.0 climbs.0, ascend_by cs ps h.1 climbs.1)

pool_head : (r : Reflector) (rs : List Reflector) → AllByRecursion (λ later. same_discr later (row_of_reflector r) ≡ false)
    (map row_of_reflector rs) → AllByRecursion (λ e. r.discr ≤ e) (map (λ x. x.discr) rs)
    → AllByRecursion (λ later. r.discr < later.discr) rs
pool_head r [] h climbs = tt
pool_head r (x ∷ rs) h climbs = (lower climbs.0 h.0, pool_head r rs h.1 climbs.1)

pool_by : (rs : List Reflector) → Apart same_discr (map row_of_reflector rs) → Climbs (map (λ x. x.discr) rs) → PoolAscends rs
pool_by [] h climbs = tt
pool_by (r ∷ rs) h climbs = (pool_head r rs h.0 climbs.0, pool_by rs h.1 climbs.1)

apart_back : (cs : List SessionConfig) (ps : List Row) → Apart same_discr (rows_of cs ++ ps) → Apart same_discr ps
apart_back [] ps h = h
apart_back (c ∷ cs) ps h = apart_back cs ps h.1

pub ascending : (configs : List SessionConfig) (pool : List Reflector) → build_fault (table_of configs pool) ≡ None
    → Climbs (map discr_of configs) → Ascends configs
ascending configs pool e climbs = ascend_by configs (map row_of_reflector pool) (apart_discrs (table_of configs pool) e) climbs

pub pool_ascending : (configs : List SessionConfig) (pool : List Reflector) → build_fault (table_of configs pool) ≡ None
    → Climbs (map (λ r. r.discr) pool) → PoolAscends pool
pool_ascending configs pool e climbs = pool_by pool
    (apart_back configs (map row_of_reflector pool) (apart_discrs (table_of configs pool) e)) climbs

-- a row each
long_rows : (configs : List SessionConfig) (pool : List Reflector) → length configs ≤ length (table_of configs pool)
long_rows [] pool = omega arith
long_rows (c ∷ configs) pool = omega (arith, long_rows configs pool)

pub few_sessions : (configs : List SessionConfig) (pool : List Reflector) → build_fault (table_of configs pool) ≡ None
    → length configs ≤ 65536
few_sessions configs pool sound = omega (arith, long_rows configs pool, few_rows (table_of configs pool) sound)
