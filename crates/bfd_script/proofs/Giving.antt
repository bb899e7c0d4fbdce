-- A session of a table becomes another: the entries, the places, and what stays true of the sessions.
use Rattle.bfd_script.proofs.Common.{◌≡◌, ℕ, ◌<◌, ◌==◌, Bool, true, false, cond, List, [], ◌∷◌, ◌++◌, length, Option, Some, None, refl, ◌∙◌}
use Rattle.bfd_script.proofs.Common.{arith, append_assoc, length-append, find, list_any, AllByRecursion, values_of, lookup, set_value}
use Rattle.bfd_script.proofs.Common.{is_at, nat_cmp, is_eq, nat_level, row_of, Differs, SessionConfig, discr_of, RowKind, by_discr, changed}
use Rattle.bfd_script.proofs.Common.{keyed_more, keyed_with, keys_in, keys_of, one_more, AreKeys, AreNext, IsChain, IsKey, IsNext, IsRow}
use Rattle.bfd_script.proofs.Common.{AreConfigs, IsIndexed, Ascends, same_selector, append-nil, IsFit, key_fault}
use Rattle.bfd_packet.specs.KeyChain.{KeyChain}
use Rattle.bfd_packet.specs.declared.keys.AuthType.{AuthType}
use Rattle.bfd_packet.specs.declared.keys.Key.{Key}
use Rattle.bfd_rules.specs.declared.config.Config.{Config}
use Rattle.bfd_session.specs.declared.event.SessionConfig.TheVariants.{PointToPoint}
use Rattle.bfd_demux.specs.Rows.{same_selector as same_kind}
use Rattle.bfd_script.proofs.Elements.{each_to}
use Rattle.bfd_script.proofs.Numbered.{values_by}

-- what a change of a session leaves: all but its keys
pub record Keeps (f : SessionConfig → SessionConfig) : Type 0 where
  pub discr : (c : SessionConfig) → discr_of (f c) ≡ discr_of c
  pub place : (c : SessionConfig) → (row_of (f c)).kind ≡ (row_of c).kind
  pub fit : (c : SessionConfig) → IsFit c → IsFit (f c)

-- ---- the entries

found_step : {X : Type 0} (at same : Bool) (x : X) (o p : Option X) → at ≡ same → o ≡ p → cond at (Some x) o ≡ cond same (Some x) p
found_step at same x o p e rest = rw (e, rest) refl

-- a look-up by a discriminator finds the session that has it
found : (k : ℕ) (cs : List SessionConfig) → lookup (is_at (nat_cmp k)) (by_discr cs) ≡ find (λ c. k == discr_of c) cs
found k [] = refl
found k (c ∷ cs) = found_step (is_eq (nat_cmp k (discr_of c))) (k == discr_of c) c (lookup (is_at (nat_cmp k)) (by_discr cs))
    (find (λ d. k == discr_of d) cs) (nat_level k (discr_of c)) (found k cs)

pub found_at : (k : ℕ) (entries : List (ℕ × SessionConfig)) → entries ≡ by_discr (values_of entries)
    → lookup (is_at (nat_cmp k)) entries ≡ find (λ c. k == discr_of c) (values_of entries)
found_at k entries keyed = cc (found k (values_of entries))

changed_step : (f : SessionConfig → SessionConfig) → Keeps f
    → (at same : Bool) (x c : SessionConfig) (cs rest : List SessionConfig) (es : List (ℕ × SessionConfig)) (o : Option SessionConfig)
    → at ≡ same → Some c ≡ cond at (Some x) o → (Some c ≡ o → es ≡ by_discr rest)
    → cond at ((discr_of x, f c) ∷ by_discr cs) ((discr_of x, x) ∷ es) ≡ by_discr (cond same (f x ∷ cs) (x ∷ rest))
changed_step f kept true true x c cs rest es o e h next = cc (kept.discr x)
changed_step f kept false false x c cs rest es o e h next = cc (next h)
changed_step f kept at same x c cs rest es o e h next = cc

set_changed : {f : SessionConfig → SessionConfig} → Keeps f → (k : ℕ) (c : SessionConfig) (cs : List SessionConfig)
    → Some c ≡ lookup (is_at (nat_cmp k)) (by_discr cs)
    → set_value (is_at (nat_cmp k)) (by_discr cs) (f c) ≡ by_discr (changed k f cs)
set_changed kept k c [] h = refl
set_changed {f} kept k c (x ∷ cs) h =
    changed_step f kept (is_eq (nat_cmp k (discr_of x))) (k == discr_of x) x c cs (changed k f cs)
    (set_value (is_at (nat_cmp k)) (by_discr cs) (f c))
    (lookup (is_at (nat_cmp k)) (by_discr cs)) (nat_level k (discr_of x)) h (set_changed kept k c cs)

-- the map's change is that of the sessions
pub entries_changed : {f : SessionConfig → SessionConfig} → Keeps f
    → (k : ℕ) {c w : SessionConfig} {entries more : List (ℕ × SessionConfig)} → entries ≡ by_discr (values_of entries)
    → Some c ≡ lookup (is_at (nat_cmp k)) entries → w ≡ f c → more ≡ set_value (is_at (nat_cmp k)) entries w
    → more ≡ by_discr (changed k f (values_of entries))
entries_changed kept k {c} {entries} keyed here e new = cc (set_changed kept k c (values_of entries) (cc))

lost_step : (same : Bool) (x y : SessionConfig) {cs rest : List SessionConfig} {o : Option SessionConfig}
    → None ≡ cond same (Some x) o → (None ≡ o → rest ≡ cs) → cond same (y ∷ cs) (x ∷ rest) ≡ x ∷ cs
lost_step true x y h next = cc
lost_step false x y h next = cc (next h)

lost : (f : SessionConfig → SessionConfig) (k : ℕ) (cs : List SessionConfig) → None ≡ find (λ c. k == discr_of c) cs → changed k f cs ≡ cs
lost f k [] h = refl
lost f k (x ∷ cs) h = lost_step (k == discr_of x) x (f x) h (lost f k cs)

-- where no session has the discriminator nothing changes
pub entries_kept : (f : SessionConfig → SessionConfig) (k : ℕ) {entries : List (ℕ × SessionConfig)} → entries ≡ by_discr (values_of entries)
    → None ≡ lookup (is_at (nat_cmp k)) entries → entries ≡ by_discr (changed k f (values_of entries))
entries_kept f k {entries} keyed here = cc (lost f k (values_of entries) (here ∙ found_at k _ keyed))

-- ---- what stays true

-- a fact that the change keeps for the session that it changes
each_cond : (P : SessionConfig → Type 0) {f : SessionConfig → SessionConfig} (same : Bool) {x : SessionConfig}
    (cs rest : List SessionConfig) {o : Option SessionConfig}
    → ((c : SessionConfig) → Some c ≡ cond same (Some x) o → P c → P (f c)) → P x → AllByRecursion P cs
    → (((c : SessionConfig) → Some c ≡ o → P c → P (f c)) → AllByRecursion P rest) → AllByRecursion P (cond same (f x ∷ cs) (x ∷ rest))
each_cond P true {x} cs rest g here all more = (g x refl here, all)
each_cond P false cs rest g here all more = (here, more g)

each_changed : (P : SessionConfig → Type 0) (f : SessionConfig → SessionConfig) (k : ℕ) (cs : List SessionConfig)
    → ((c : SessionConfig) → Some c ≡ find (λ d. k == discr_of d) cs → P c → P (f c)) → AllByRecursion P cs
    → AllByRecursion P (changed k f cs)
each_changed P f k [] g all = tt
each_changed P f k (x ∷ cs) g all = each_cond P (k == discr_of x) cs (changed k f cs) g all.0 all.1 (λ h. each_changed P f k cs h all.1)

any_cond : (test : SessionConfig → Bool) (same : Bool) {x y : SessionConfig} (cs rest : List SessionConfig) → test y ≡ test x
    → list_any test rest ≡ list_any test cs
    → list_any test (cond same (y ∷ cs) (x ∷ rest)) ≡ list_any test (x ∷ cs)
any_cond test true cs rest e more = rw e refl
any_cond test false cs rest e more = rw more refl

-- a test that doesn't look at keys
pub any_changed : (test : SessionConfig → Bool) (f : SessionConfig → SessionConfig) (k : ℕ) (cs : List SessionConfig)
    → ((c : SessionConfig) → test (f c) ≡ test c)
    → list_any test (changed k f cs) ≡ list_any test cs
any_changed test f k [] e = refl
any_changed test f k (c ∷ cs) e = any_cond test (k == discr_of c) cs (changed k f cs) (e c) (any_changed test f k cs e)

length_cond : (same : Bool) (x y : SessionConfig) (cs rest : List SessionConfig) → length rest ≡ length cs
    → length (cond same (y ∷ cs) (x ∷ rest)) ≡ length (x ∷ cs)
length_cond true x y cs rest e = refl
length_cond false x y cs rest e = omega arith

pub length_changed : (f : SessionConfig → SessionConfig) (k : ℕ) (cs : List SessionConfig) → length (changed k f cs) ≡ length cs
length_changed f k [] = refl
length_changed f k (c ∷ cs) = length_cond (k == discr_of c) c (f c) cs (changed k f cs) (length_changed f k cs)

apart_kept : (d : SessionConfig) {f : SessionConfig → SessionConfig} → Keeps f → (c : SessionConfig) → same_selector d c ≡ false
    → same_selector d (f c) ≡ false
apart_kept d kept c h = cc (kept.place c)

ascends_cond : {f : SessionConfig → SessionConfig} → Keeps f → (same : Bool) (x : SessionConfig) (cs rest : List SessionConfig)
    → Ascends (x ∷ cs)
    → AllByRecursion (λ d. discr_of x < discr_of d) rest → Ascends rest → Ascends (cond same (f x ∷ cs) (x ∷ rest))
ascends_cond kept true x cs rest all above more = (rw (kept.discr x) all.0, all.1)
ascends_cond kept false x cs rest all above more = (above, more)

pub ascends_changed : {f : SessionConfig → SessionConfig} → Keeps f → (k : ℕ) (cs : List SessionConfig) → Ascends cs
    → Ascends (changed k f cs)
ascends_changed kept k [] all = tt
ascends_changed {f} kept k (c ∷ cs) all = ascends_cond kept (k == discr_of c) c cs (changed k f cs) all
    (each_changed _ f k cs (λ d here h. rw (kept.discr d) h) all.0) (ascends_changed kept k cs all.1)

differs_cond : {f : SessionConfig → SessionConfig} → Keeps f → (same : Bool) (x : SessionConfig) (cs rest : List SessionConfig)
    → Differs (x ∷ cs)
    → AllByRecursion (λ d. same_selector x d ≡ false) rest → Differs rest → Differs (cond same (f x ∷ cs) (x ∷ rest))
differs_cond kept true x cs rest all apart more = (each_to cs (λ d h. cc (kept.place x)) all.0, all.1)
differs_cond kept false x cs rest all apart more = (apart, more)

differs_changed : {f : SessionConfig → SessionConfig} → Keeps f → (k : ℕ) (cs : List SessionConfig) → Differs cs → Differs (changed k f cs)
differs_changed kept k [] all = tt
differs_changed {f} kept k (c ∷ cs) all =
    differs_cond kept (k == discr_of c) c cs (changed k f cs) all (each_changed _ f k cs (λ d here h. apart_kept c kept d h) all.0)
    (differs_changed kept k cs all.1)

configs_changed : {f : SessionConfig → SessionConfig} → Keeps f → (k : ℕ) {cs : List SessionConfig}
    → ((c : SessionConfig) → Some c ≡ find (λ d. k == discr_of d) cs → IsRow c → IsRow (f c)) → AreConfigs cs → AreConfigs (changed k f cs)
configs_changed {f} kept k {cs} row were = record {
  ascends = ascends_changed kept k cs were.ascends;
  differs = differs_changed kept k cs were.differs;
  fit = each_changed _ f k cs (λ c here h. kept.fit c h) were.fit;
  rows = each_changed _ f k cs row were.rows;
  few = omega (arith, length_changed f k cs, were.few);
}

-- the sessions of the changed table
pub rows_changed : (f : SessionConfig → SessionConfig) (k : ℕ) (cs : List SessionConfig)
    (entries : List (ℕ × SessionConfig)) {more : List (ℕ × SessionConfig)} → values_of entries ≡ cs
    → more ≡ by_discr (changed k f (values_of entries)) → values_of more ≡ changed k f cs
rows_changed f k cs entries view e = cc (values_by discr_of (changed k f (values_of entries)))

-- the whole table
table_changed : {f : SessionConfig → SessionConfig} → Keeps f → (k : ℕ) {entries more : List (ℕ × SessionConfig)} {has : RowKind → Bool}
    → IsIndexed entries has
    → ((c : SessionConfig) → Some c ≡ find (λ d. k == discr_of d) (values_of entries) → IsRow c → IsRow (f c))
    → more ≡ by_discr (changed k f (values_of entries)) → IsIndexed more has
table_changed {f} kept k {entries} {more} were row e =
    let are = rows_changed f k (values_of entries) entries refl e in
    record {
      keyed = cc;
      places = λ q. cc (were.places q, any_changed (λ d. same_kind q (row_of d).kind) f k (values_of entries) (λ c. cc (kept.place c)));
      configs = rw are (configs_changed kept k row were.configs);
    }

-- ---- keys for a session

fit_keyed : (keys : Option KeyChain) {c : Config} → IsFit (PointToPoint c) → IsFit (PointToPoint (record c { keys = keys }))
fit_keyed keys h = record {
  discr = h.discr;
  iface = h.iface;
  tx_least = h.tx_least;
  tx_most = h.tx_most;
  rx_least = h.rx_least;
  rx_most = h.rx_most;
  some_mult = h.some_mult;
  most_mult = h.most_mult;
  echo_range = h.echo_range;
}

row_keyed : (keys : Option KeyChain) {c : Config} → AreKeys keys → IsRow (PointToPoint c) → IsRow (PointToPoint (record c { keys = keys }))
row_keyed keys are h = record { discr = h.discr; local = h.local; remote = h.remote; mult = h.mult; seed = h.seed; keys = are }

with_discr : (keys : KeyChain) (c : SessionConfig) → discr_of (keyed_with keys c) ≡ discr_of c
with_discr keys (PointToPoint c) = refl
with_discr keys c = refl

with_place : (keys : KeyChain) (c : SessionConfig) → (row_of (keyed_with keys c)).kind ≡ (row_of c).kind
with_place keys (PointToPoint c) = refl
with_place keys c = refl

with_fit : (keys : KeyChain) (c : SessionConfig) → IsFit c → IsFit (keyed_with keys c)
with_fit keys (PointToPoint c) h = fit_keyed (Some keys) h
with_fit keys c h = h

with_row : {keys : KeyChain} → IsChain keys → (c : SessionConfig) → IsRow c → IsRow (keyed_with keys c)
with_row {keys} are (PointToPoint c) h = row_keyed (Some keys) are h
with_row are c h = h

pub with_keeps : (keys : KeyChain) → Keeps (keyed_with keys)
with_keeps keys = record { discr = with_discr keys; place = with_place keys; fit = with_fit keys }

pub table_given : (k : ℕ) {keys : KeyChain} {entries more : List (ℕ × SessionConfig)} {has : RowKind → Bool} → IsIndexed entries has
    → IsChain keys → more ≡ by_discr (changed k (keyed_with keys) (values_of entries)) → IsIndexed more has
table_given k {keys} were are e = table_changed (with_keeps keys) k were (λ c here h. with_row are c h) e

-- ---- one more key

more_discr : (key : Key) (c : SessionConfig) → discr_of (keyed_more key c) ≡ discr_of c
more_discr key (PointToPoint c) = refl
more_discr key c = refl

more_place : (key : Key) (c : SessionConfig) → (row_of (keyed_more key c)).kind ≡ (row_of c).kind
more_place key (PointToPoint c) = refl
more_place key c = refl

more_fit : (key : Key) (c : SessionConfig) → IsFit c → IsFit (keyed_more key c)
more_fit key (PointToPoint c) h = fit_keyed (one_more key c.keys) h
more_fit key c h = h

pub more_keeps : (key : Key) → Keeps (keyed_more key)
more_keeps key = record { discr = more_discr key; place = more_place key; fit = more_fit key }

-- the session that a look-up finds is the one whose keys are tested
pub found_room : (k : ℕ) (key : Key) {c : SessionConfig} {entries : List (ℕ × SessionConfig)} → entries ≡ by_discr (values_of entries)
    → Some c ≡ lookup (is_at (nat_cmp k)) entries → key_fault (keys_of k (values_of entries)) key ≡ None
    → key_fault (keys_in (Some c)) key ≡ None
found_room k key {entries} keyed here free = cc (found_at k _ keyed)

-- a key that may come behind all of them
next_more : {kind : AuthType} (before list : List Key) (key : Key) → AreNext kind before list → IsNext kind (before ++ list) key
    → AreNext kind before (list ++ key ∷ [])
next_more before [] key all next = (rw (← append-nil before) next, tt)
next_more before (k ∷ list) key all next = (
  all.0,
  next_more (before ++ k ∷ []) list key all.1
      (rw (append_assoc before (k ∷ []) list) next),
)

more_keys : (keys : Option KeyChain) {key : Key} → key_fault keys key ≡ None → IsKey key → AreKeys keys → AreKeys (one_more key keys)
more_keys None free is all = tt
more_keys (Some keys) {key} free is all = record {
  some = omega (arith, length-append keys.list (key ∷ []));
  list = next_more [] keys.list key all.list (record { fits = is; free = free });
}

more_row : {key : Key} (c : SessionConfig) → key_fault (keys_in (Some c)) key ≡ None → IsKey key → IsRow c → IsRow (keyed_more key c)
more_row {key} (PointToPoint c) free is h = row_keyed (one_more key c.keys) (more_keys c.keys free is h.keys) h
more_row c free is h = h

pub table_more_keys : (k : ℕ) {key : Key} {cs : List SessionConfig} {entries more : List (ℕ × SessionConfig)} {has : RowKind → Bool}
    → IsIndexed entries has
    → values_of entries ≡ cs → key_fault (keys_of k cs) key ≡ None → IsKey key
    → more ≡ by_discr (changed k (keyed_more key) (values_of entries)) → IsIndexed more has
table_more_keys k {key} were view free is e = table_changed (more_keeps key) k were (λ c here h. more_row c (cc) is h) e
