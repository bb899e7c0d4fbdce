-- A world with one session or reflector more, and without one.
use Rattle.bfd_instance.proofs.Common.{◌≡◌, ◌<◌, ◌≤◌, ◌+◌, ◌*◌, ◌==◌, ◌||◌, ◌++◌, ◌∷◌, ◌∙◌, ℕ, zero, suc, Bool, false, true, not, None}
use Rattle.bfd_instance.proofs.Common.{Some, List, [], get_or, length, map, nat_lt, take, drop, refl, sym, ap, arith, add-one, eq-eqb}
use Rattle.bfd_instance.proofs.Common.{filter, list_any, AllByRecursion, Reflector, SessionConfig, Running, configs_of, discr_of, started}
use Rattle.bfd_instance.proofs.Common.{table_of, world_of, Outputs}
use Rattle.std.specs.List.{insert, remove}
use Rattle.std.proofs.lemmas.List.{length-map}
use Rattle.std.proofs.lemmas.List.Edits.{length-insert, length-remove}
use Rattle.bfd_packet.proofs.Turned.{number_turned}
use Rattle.bfd_demux.specs.declared.row.Row.{Row}
use Rattle.bfd_demux.specs.Rows.{add_fault}
use Rattle.bfd_demux.proofs.Indexing.{fits}
use Rattle.bfd_demux.proofs.Lookups.{length-filter-le}
use Rattle.bfd_session.specs.Changes.{place_for, with_session, without_pooled, without_session}
use Rattle.bfd_session.specs.Rows.{Ascends, place_of, row_of, row_of_reflector, rows_of}
use Rattle.bfd_session.specs.Tables.{Members, members}
use Rattle.bfd_session.proofs.Changes.{Up, map_inserted, map_removed, sessions_up, up_inserted}
use Rattle.bfd_instance.specs.Stage.{IsStage}
use Rattle.bfd_instance.specs.World.{without_at, world_with, world_without}

-- each has another discriminator
abbrev pub Others : ℕ → List SessionConfig → Type 0
Others discr cs = AllByRecursion (λ c. (discr == discr_of c) ≡ false) cs

pub others : (discr : ℕ) (cs : List SessionConfig) (rows : List Row) → list_any (λ row. discr == row.discr) (rows_of cs ++ rows) ≡ false
    → Others discr cs
others discr [] rows e = tt
others discr (c ∷ cs) rows e = by (discr == discr_of c) refl e (others discr cs rows)
  where
    by : (b : Bool) → (discr == discr_of c) ≡ b → (b || list_any (λ row. discr == row.discr) (rows_of cs ++ rows)) ≡ false
        → (list_any (λ row. discr == row.discr) (rows_of cs ++ rows) ≡ false → Others discr cs) → Others discr (c ∷ cs)
    by true is f rest = cc
    by false is f rest = (is, rest f)

abbrev rest_of : List SessionConfig → List SessionConfig
rest_of [] = []
rest_of (c ∷ cs) = cs

-- a session stands once where no other has its discriminator
stands_once : (p q : ℕ) (c : SessionConfig) (cs : List SessionConfig) → p ≤ length cs → q ≤ length cs → Others (discr_of c) cs
    → insert cs p c ≡ insert cs q c → p ≡ q
stands_once zero zero c cs a b o e = refl
stands_once zero (suc q) c [] a b o e = absurd (omega (arith, b))
stands_once zero (suc q) c (d ∷ cs) a b o e =
    let same : c ≡ d = ap (λ xs. get_or xs 0 c) e in
    absurd (cc (o.0, eq-eqb (discr_of c) (discr_of d) (ap discr_of same)))
stands_once (suc p) zero c [] a b o e = absurd (omega (arith, a))
stands_once (suc p) zero c (d ∷ cs) a b o e =
    let same : d ≡ c = ap (λ xs. get_or xs 0 c) e in
    absurd (cc (o.0, eq-eqb (discr_of c) (discr_of d) (ap discr_of (sym same))))
stands_once (suc p) (suc q) c [] a b o e = absurd (omega (arith, a))
stands_once (suc p) (suc q) c (d ∷ cs) a b o e = ap suc (stands_once p q c cs (omega (arith, a)) (omega (arith, b)) o.1 (ap rest_of e))

all_stay : (discr : ℕ) (cs : List SessionConfig) → Others discr cs → filter (λ c. not (discr_of c == discr)) cs ≡ cs
all_stay discr [] o = refl
all_stay discr (c ∷ cs) o =
    let other : (discr_of c == discr) ≡ false = number_turned (discr_of c) discr ∙ o.0 in
    rw other (ap (λ xs. c ∷ xs) (all_stay discr cs o.1))

taken_out : (p : ℕ) (c : SessionConfig) (cs : List SessionConfig) → Others (discr_of c) cs
    → filter (λ d. not (discr_of d == discr_of c)) (insert cs p c) ≡ cs
taken_out zero c [] o = rw (eq-eqb (discr_of c) (discr_of c) refl) refl
taken_out zero c (d ∷ cs) o = rw (eq-eqb (discr_of c) (discr_of c) refl) (all_stay (discr_of c) (d ∷ cs) o)
taken_out (suc p) c [] o = rw (eq-eqb (discr_of c) (discr_of c) refl) refl
taken_out (suc p) c (d ∷ cs) o =
    let other : (discr_of d == discr_of c) ≡ false = number_turned (discr_of d) (discr_of c) ∙ o.0 in
    rw other (ap (λ xs. d ∷ xs) (taken_out p c cs o.1))

up_sessions : (cs : List SessionConfig) → Up discr_of cs → Ascends cs
up_sessions [] up = tt
up_sessions (c ∷ cs) up = (up.0, up_sessions cs up.1)

module _ (t : Members) {t2 : Members} (c : SessionConfig) (clear : add_fault (row_of c) (table_of t.configs t.pool) ≡ None)
    (grown : t2 ≡ with_session c t) where
  apart : Others (discr_of c) t.configs
  apart =
      let fit = fits (row_of c) (table_of t.configs t.pool) clear in
      others (discr_of c) t.configs (map row_of_reflector t.pool) fit.discr

  -- the place at which the table says that it put a session is that of its discriminator
  pub place_is : (p : ℕ) → (p ≤ length t.configs) × (t2.configs ≡ insert t.configs p c) → p ≡ place_for (discr_of c) t.configs
  place_is p put =
      stands_once p (place_for (discr_of c) t.configs) c t.configs put.0
      (length-filter-le (λ (d : SessionConfig). nat_lt (discr_of d) (discr_of c)) t.configs) apart
      (sym put.1 ∙ ap (λ (m : Members). m.configs) grown)

  -- its sessions ascend, with that one too
  pub joined_up : (p : ℕ) → Ascends t.configs → (p ≤ length t.configs) × (t2.configs ≡ insert t.configs p c) → Ascends t2.configs
  joined_up p up put =
      rw put.1 (up_sessions (insert t.configs p c) (up_inserted discr_of t.configs p c (place_is p put) (sessions_up t.configs up) apart))

  -- the table from which it is taken out again is as it was
  pub table_undone : {t3 : Members} (discr : ℕ) → discr ≡ discr_of c → t3 ≡ without_session discr t2 → t3 ≡ t
  table_undone discr same taken = rw (taken, same, grown)
      (ap (λ cs. members cs t.pool) (taken_out (place_for (discr_of c) t.configs) c t.configs apart))

pub session_joins : (ss : List Running) (p : ℕ) (c : SessionConfig) (pool : List Reflector)
    (last : ℕ) {cs : List SessionConfig} {ss2 : List Running}
    → cs ≡ configs_of ss → p ≡ place_for (discr_of c) cs → ss2 ≡ insert ss p (started c)
    → world_of ss2 pool last ≡ world_with c (world_of ss pool last)
session_joins ss p c pool last are stands made =
    ap (λ xs. world_of xs pool last) (made ∙ ap (λ n. insert ss n (started c)) (stands ∙ ap (place_for (discr_of c)) are))

pub stage_joins : (ss : List Running) (p : ℕ) (c : SessionConfig) {ss2 : List Running}
    (table : Members) {table2 : Members} {outs2 : Outputs} → table.configs ≡ configs_of ss
    → Ascends table2.configs → (p ≤ length table.configs) × (table2.configs ≡ insert table.configs p c)
    → ss2 ≡ insert ss p (started c) → 5 * (length ss + 1) + 5 ≤ outs2.room → IsStage ss2 table2 outs2
stage_joins ss p c {ss2} table are up put made room =
    let same : length table.configs ≡ length ss = ap length are ∙ length-map ss (λ s. s.config) in
    record {
      ascends = up;
      configs = put.1 ∙ ap (λ cs. insert cs p c) are ∙ sym (map_inserted (λ (s : Running). s.config) ss p (started c))
          ∙ ap configs_of (sym made);
      room_for_all = omega (arith, room, ap length made, length-insert ss p (started c) (omega (arith, same, put.0)));
    }

pub stage_same : {ss ss2 : List Running} {table table2 : Members} {outs outs2 : Outputs} → IsStage ss table outs → ss2 ≡ ss → table2 ≡ table
    → outs.room ≤ outs2.room → IsStage ss2 table2 outs2
stage_same {ss} {ss2} {table} {table2} stage sessions same room = record {
  configs = cc;
  ascends = rw same stage.ascends;
  room_for_all = omega (arith, stage.room_for_all, ap length sessions, room);
}

-- a session that was taken out

each_removed : (P : SessionConfig → Type 0) (cs : List SessionConfig) (p : ℕ) → AllByRecursion P cs → AllByRecursion P (remove cs p)
each_removed P [] zero all = tt
each_removed P [] (suc p) all = tt
each_removed P (c ∷ cs) zero all = all.1
each_removed P (c ∷ cs) (suc p) all = (all.0, each_removed P cs p all.1)

removed_up : (cs : List SessionConfig) (p : ℕ) → Ascends cs → Ascends (remove cs p)
removed_up [] zero up = tt
removed_up [] (suc p) up = tt
removed_up (c ∷ cs) zero up = up.1
removed_up (c ∷ cs) (suc p) up = (each_removed (λ later. discr_of c < discr_of later) cs p up.0, removed_up cs p up.1)

one_out : {X : Type 0} (xs : List X) (p : ℕ) → take p xs ++ drop (p + 1) xs ≡ remove xs p
one_out xs p = rw add-one refl

pub session_leaves : (ss : List Running) (p discr : ℕ) (pool : List Reflector) (last : ℕ) {cs : List SessionConfig} {ss2 : List Running}
    → cs ≡ configs_of ss → Some p ≡ place_of discr cs → ss2 ≡ take p ss ++ drop (p + 1) ss
    → world_of ss2 pool last ≡ world_without discr (world_of ss pool last)
session_leaves ss p discr pool last are found made =
    ap (λ xs. world_of xs pool last) (made ∙ one_out ss p)
    ∙ ap (λ o. without_at o (world_of ss pool last)) (found ∙ ap (place_of discr) are)

pub none_leaves : (ss : List Running) (discr : ℕ) (pool : List Reflector) (last : ℕ) {cs : List SessionConfig} → cs ≡ configs_of ss
    → None ≡ place_of discr cs
    → world_of ss pool last ≡ world_without discr (world_of ss pool last)
none_leaves ss discr pool last are found = ap (λ o. without_at o (world_of ss pool last)) (found ∙ ap (place_of discr) are)

pub stage_leaves : (ss : List Running) (p : ℕ) {ss2 : List Running} {table table2 : Members} {outs : Outputs} → IsStage ss table outs
    → (p < length table.configs) × (table2.configs ≡ remove table.configs p) → ss2 ≡ take p ss ++ drop (p + 1) ss → IsStage ss2 table2 outs
stage_leaves ss p {ss2} {table} stage cut made =
    let left : ss2 ≡ remove ss p = made ∙ one_out ss p in
    let same : length table.configs ≡ length ss = ap length stage.configs ∙ length-map ss (λ s. s.config) in
    record {
      ascends = rw cut.1 (removed_up table.configs p stage.ascends);
      configs = cut.1 ∙ ap (λ cs. remove cs p) stage.configs ∙ sym (map_removed (λ (s : Running). s.config) ss p)
          ∙ ap configs_of (sym left);
      room_for_all = omega (arith, stage.room_for_all, ap length left, length-remove ss p (omega (arith, same, cut.0)));
    }

-- where no reflector has the discriminator, all stay

none_out : (discr : ℕ) (pool : List Reflector) → list_any (λ (r : Reflector). r.discr == discr) pool ≡ false
    → filter (λ (r : Reflector). not (r.discr == discr)) pool ≡ pool
none_out discr [] e = refl
none_out discr (r ∷ pool) e = by (r.discr == discr) refl e (none_out discr pool)
  where
    by : (b : Bool) → (r.discr == discr) ≡ b → (b || list_any (λ (x : Reflector). x.discr == discr) pool) ≡ false
        → (list_any (λ (x : Reflector). x.discr == discr) pool ≡ false → filter (λ (x : Reflector). not (x.discr == discr)) pool ≡ pool)
        → filter (λ (x : Reflector). not (x.discr == discr)) (r ∷ pool) ≡ r ∷ pool
    by true is f rest = cc
    by false is f rest = rw is (ap (λ xs. r ∷ xs) (rest f))

pub pool_same : (t : Members) {t2 : Members} (discr : ℕ) {known : Bool} → known ≡ list_any (λ (r : Reflector). r.discr == discr) t.pool
    → t2 ≡ without_pooled discr t → known ≡ false → t2.pool ≡ t.pool
pool_same t discr value less none = ap (λ (m : Members). m.pool) less ∙ none_out discr t.pool (sym value ∙ none)
