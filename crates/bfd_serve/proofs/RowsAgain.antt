-- Table rows, written and read again.
use Rattle.bfd_serve.proofs.SpellingCommon.{◌≡◌, ℕ, ◌≤◌, Bool, true, false, cond, [], ◌∷◌, length, None, Ok, Err, refl, arith, nat_tests}
use Rattle.bfd_serve.proofs.SpellingCommon.{codes, decimal, AllByRecursion, SessionConfig, OutOfRange, Version, entry_in_line, IsHeadRow}
use Rattle.bfd_serve.proofs.SpellingCommon.{IsPointRow, IsReflector, IsRow, IsInitiatorRow, IsTailRow, spaced, address_field, mode_field}
use Rattle.bfd_serve.proofs.SpellingCommon.{reflector_fields, role_field, row_fields, up_field}
use Rattle.bfd_rules.specs.Sound.{IsConfig, is_echo_interval}
use Rattle.bfd_rules.specs.declared.config.Config.{Config}
use Rattle.bfd_rules.specs.declared.config.Role.{Role}
use Rattle.bfd_rules.specs.declared.config.Role.TheVariants as roles
use Rattle.bfd_mp.specs.Sound.{IsHeadConfig, IsTailConfig}
use Rattle.bfd_mp.specs.declared.config.HeadConfig.{HeadConfig}
use Rattle.bfd_mp.specs.declared.config.TailConfig.{TailConfig}
use Rattle.bfd_sbfd.specs.Sound.{IsInitiatorConfig}
use Rattle.bfd_sbfd.specs.declared.config.InitiatorConfig.{InitiatorConfig}
use Rattle.bfd_sbfd.specs.declared.reflecting.Reflector.{Reflector}
use Rattle.bfd_session.specs.declared.event.SessionConfig.TheVariants.{PointToPoint, Initiator, Head, Tail}
use Rattle.bfd_session.specs.Step.{IsFit}
use Rattle.bfd_script.specs.declared.line.entries.Entry.TheVariants as entries
use Rattle.bfd_script.specs.declared.line.words.Place.TheVariants as places
use Rattle.bfd_script.specs.Points.{active_of, echo_of, ends_of, p2p_row, role_of, timing_of}
use Rattle.bfd_script.specs.Seamless.{initiator_from, reflecting_of, up_of}
use Rattle.bfd_script.specs.Trees.{listener_of, sender_of}
use Rattle.bfd_serve.proofs.Numerals.{number_again, number_field, number_short}
use Rattle.bfd_serve.proofs.Rereading.{address_again, address_is_field, address_short}
use Rattle.bfd_script.proofs.Visible.{word}
use Rattle.bfd_script.specs.Windows.{IsField}
use Rattle.bfd_script.proofs.Splitting.{entry_again, total}

-- ---- words

role_again : (role : Role) → role_of (role_field role) ≡ Ok role
role_again roles.Single = refl
role_again roles.Multi = refl

role_is_field : (role : Role) → IsField (role_field role)
role_is_field roles.Single = word (codes "single") refl
role_is_field roles.Multi = word (codes "multi") refl

role_short : (role : Role) → length (role_field role) ≤ 6
role_short roles.Single = omega arith
role_short roles.Multi = omega arith

active_again : (active : Bool) → active_of (mode_field active) ≡ Ok active
active_again true = refl
active_again false = refl

mode_is_field : (active : Bool) → IsField (mode_field active)
mode_is_field true = word (codes "active") refl
mode_is_field false = word (codes "passive") refl

mode_short : (active : Bool) → length (mode_field active) ≤ 7
mode_short true = omega arith
mode_short false = omega arith

up_again : (up : Bool) → up_of (up_field up) ≡ Ok up
up_again true = refl
up_again false = refl

up_is_field : (up : Bool) → IsField (up_field up)
up_is_field true = word (codes "up") refl
up_is_field false = word (codes "admin") refl

up_short : (up : Bool) → length (up_field up) ≤ 5
up_short true = omega arith
up_short false = omega arith

p2p_is_field : IsField (codes "p2p")
p2p_is_field = word (codes "p2p") refl

-- ---- a point-to-point session

ends_again : {c : Config} → IsConfig c → IsPointRow c
    → ends_of (decimal c.discr) (role_field c.role) (decimal c.iface) (address_field c.local) (address_field c.remote)
    ≡ Ok (record { discr = c.discr; role = c.role; iface = c.iface; local = c.local; remote = c.remote })
unfolding ends_of
ends_again {c} fit row = rw (
  number_again 1 4294967295 _ fit.discr (let k = row.discr in omega arith) (let k = row.discr in omega arith),
  role_again c.role,
  number_again 0 65535 c.iface (omega arith) (let k = fit.iface in omega arith) (let k = fit.iface in omega arith),
  address_again c.local row.local,
  address_again c.remote row.remote,
) refl

echo_step : (fits : Bool) (n : ℕ) → fits ≡ true → cond fits (Ok n) (Err OutOfRange) ≡ Ok n
echo_step fits n h = rw h refl

echo_again : (role : Role) (n : ℕ) → is_echo_interval role n ≡ true → n ≤ 60000000 → echo_of role (decimal n) ≡ Ok n
echo_again role n fits high = cc (number_again 0 _ n (omega arith) high (omega arith), echo_step (is_echo_interval role n) n fits)

timing_again : {c : Config} → IsConfig c → IsPointRow c → c.echo ≤ 60000000
    → timing_of c.role (mode_field c.active) (decimal c.tx) (decimal c.rx) (decimal c.mult) (decimal c.echo) (decimal c.seed)
    ≡ Ok (record { active = c.active; tx = c.tx; rx = c.rx; mult = c.mult; echo = c.echo; seed = c.seed })
unfolding timing_of
timing_again {c} fit row high = rw (
  active_again c.active,
  number_again _ _ c.tx fit.tx_least fit.tx_most (let k = fit.tx_most in omega arith),
  number_again _ _ c.rx fit.rx_least fit.rx_most (let k = fit.rx_most in omega arith),
  number_again 1 255 _ fit.some_mult (let k = row.mult in omega arith) (let k = row.mult in omega arith),
  echo_again c.role _ fit.echo_range high,
  number_again 0 4294967295 c.seed (omega arith) (let k = row.seed in omega arith) (let k = row.seed in omega arith),
) refl

point_again : {c : Config} → IsConfig c → IsPointRow c → c.echo ≤ 60000000
    → p2p_row (decimal c.discr ∷ role_field c.role ∷ decimal c.iface ∷ address_field c.local ∷ address_field c.remote
    ∷ mode_field c.active ∷ decimal c.tx ∷ decimal c.rx ∷ decimal c.mult ∷ decimal c.echo ∷ decimal c.seed ∷ [])
    ≡ Ok (PointToPoint (record c { keys = None }))
point_again fit row high = cc (ends_again fit row, timing_again fit row high)

row_is_fields : {c : Config} → IsConfig c → IsPointRow c → c.echo ≤ 60000000 → AllByRecursion IsField (row_fields (PointToPoint c))
row_is_fields {c} fit row high = (
  p2p_is_field,
  (
    number_field c.discr (let k = row.discr in omega arith),
    (
      role_is_field c.role,
      (
        number_field c.iface (let k = fit.iface in omega arith),
        (
          address_is_field c.local row.local,
          (
            address_is_field c.remote row.remote,
            (
              mode_is_field c.active,
              (
                number_field c.tx (let k = fit.tx_most in omega arith),
                (
                  number_field c.rx (let k = fit.rx_most in omega arith),
                  (
                    number_field c.mult (let k = row.mult in omega arith),
                    (
                      number_field c.echo (omega arith),
                      (number_field c.seed (let k = row.seed in omega arith), tt),
                    ),
                  ),
                ),
              ),
            ),
          ),
        ),
      ),
    ),
  ),
)

row_short : {c : Config} → IsConfig c → IsPointRow c → c.echo ≤ 60000000 → total (row_fields (PointToPoint c)) ≤ 4096
row_short {c} fit row high =
    let l1 = number_short c.discr (let k = row.discr in omega arith) in
    let l2 = role_short c.role in
    let l3 = number_short c.iface (let k = fit.iface in omega arith) in
    let l4 = address_short c.local row.local in
    let l5 = address_short c.remote row.remote in
    let l6 = mode_short c.active in
    let l7 = number_short c.tx (let k = fit.tx_most in omega arith) in
    let l8 = number_short c.rx (let k = fit.rx_most in omega arith) in
    let l9 = number_short c.mult (let k = row.mult in omega arith) in
    let l10 = number_short c.echo (omega arith) in
    let l11 = number_short c.seed (let k = row.seed in omega arith) in
    omega arith

-- an interval of the Echo function is at most the greatest
echo_most : (role : Role) (n : ℕ) → is_echo_interval role n ≡ true → n ≤ 60000000
echo_most roles.Single n h = grind (arith, nat_tests)
echo_most roles.Multi n h = grind (arith, nat_tests)

-- ---- an initiator, a head and a tail

initiator_read : {c : InitiatorConfig} → IsInitiatorConfig c → IsInitiatorRow c
    → initiator_from (decimal c.discr) (decimal c.target) (decimal c.iface) (address_field c.local) (address_field c.remote) (decimal c.tx)
    (decimal c.mult) (decimal c.seed) ≡ Ok (Initiator c)
unfolding initiator_from
initiator_read {c} fit row = rw (
  number_again 1 4294967295 _ fit.discr (let k = row.discr in omega arith) (let k = row.discr in omega arith),
  number_again 1 4294967295 _ fit.target (let k = row.target in omega arith) (let k = row.target in omega arith),
  number_again 0 65535 c.iface (omega arith) (let k = fit.iface in omega arith) (let k = fit.iface in omega arith),
  address_again c.local row.local,
  address_again c.remote row.remote,
  number_again _ 60000000 c.tx fit.tx_least (let k = fit.tx_most in omega arith) (let k = fit.tx_most in omega arith),
  number_again 1 255 _ fit.some_mult (let k = fit.most_mult in omega arith) (let k = fit.most_mult in omega arith),
  number_again 0 4294967295 c.seed (omega arith) (let k = row.seed in omega arith) (let k = row.seed in omega arith),
) refl

initiator_fields : {c : InitiatorConfig} → IsInitiatorConfig c → IsInitiatorRow c → AllByRecursion IsField (row_fields (Initiator c))
initiator_fields {c} fit row = (
  word (codes "sbfd") refl,
  (
    number_field c.discr (let k = row.discr in omega arith),
    (
      number_field c.target (let k = row.target in omega arith),
      (
        number_field c.iface (let k = fit.iface in omega arith),
        (
          address_is_field c.local row.local,
          (
            address_is_field c.remote row.remote,
            (
              number_field c.tx (let k = fit.tx_most in omega arith),
              (number_field c.mult (let k = fit.most_mult in omega arith), (number_field c.seed (let k = row.seed in omega arith), tt)),
            ),
          ),
        ),
      ),
    ),
  ),
)

initiator_short : {c : InitiatorConfig} → IsInitiatorConfig c → IsInitiatorRow c → total (row_fields (Initiator c)) ≤ 4096
initiator_short {c} fit row =
    let l1 = number_short c.discr (let k = row.discr in omega arith) in
    let l2 = number_short c.target (let k = row.target in omega arith) in
    let l3 = number_short c.iface (let k = fit.iface in omega arith) in
    let l4 = address_short c.local row.local in
    let l5 = address_short c.remote row.remote in
    let l6 = number_short c.tx (let k = fit.tx_most in omega arith) in
    let l7 = number_short c.mult (let k = fit.most_mult in omega arith) in
    let l8 = number_short c.seed (let k = row.seed in omega arith) in
    omega arith

head_read : {c : HeadConfig} → IsHeadConfig c → IsHeadRow c
    → sender_of (decimal c.discr) (decimal c.iface) (address_field c.local) (address_field c.group) (decimal c.tx) (decimal c.mult)
    (decimal c.seed) ≡ Ok (Head c)
unfolding sender_of
head_read {c} fit row = rw (
  number_again 1 4294967295 _ fit.discr (let k = row.discr in omega arith) (let k = row.discr in omega arith),
  number_again 0 65535 c.iface (omega arith) (let k = fit.iface in omega arith) (let k = fit.iface in omega arith),
  address_again c.local row.local,
  address_again c.group row.group,
  number_again _ 60000000 c.tx fit.tx_least (let k = fit.tx_most in omega arith) (let k = fit.tx_most in omega arith),
  number_again 1 255 _ fit.some_mult (let k = fit.most_mult in omega arith) (let k = fit.most_mult in omega arith),
  number_again 0 4294967295 c.seed (omega arith) (let k = row.seed in omega arith) (let k = row.seed in omega arith),
) refl

head_fields : {c : HeadConfig} → IsHeadConfig c → IsHeadRow c → AllByRecursion IsField (row_fields (Head c))
head_fields {c} fit row = (
  word (codes "head") refl,
  (
    number_field c.discr (let k = row.discr in omega arith),
    (
      number_field c.iface (let k = fit.iface in omega arith),
      (
        address_is_field c.local row.local,
        (
          address_is_field c.group row.group,
          (
            number_field c.tx (let k = fit.tx_most in omega arith),
            (number_field c.mult (let k = fit.most_mult in omega arith), (number_field c.seed (let k = row.seed in omega arith), tt)),
          ),
        ),
      ),
    ),
  ),
)

head_short : {c : HeadConfig} → IsHeadConfig c → IsHeadRow c → total (row_fields (Head c)) ≤ 4096
head_short {c} fit row =
    let l1 = number_short c.discr (let k = row.discr in omega arith) in
    let l2 = number_short c.iface (let k = fit.iface in omega arith) in
    let l3 = address_short c.local row.local in
    let l4 = address_short c.group row.group in
    let l5 = number_short c.tx (let k = fit.tx_most in omega arith) in
    let l6 = number_short c.mult (let k = fit.most_mult in omega arith) in
    let l7 = number_short c.seed (let k = row.seed in omega arith) in
    omega arith

tail_read : {c : TailConfig} → IsTailConfig c → IsTailRow c
    → listener_of (decimal c.discr) (decimal c.head) (decimal c.iface) (address_field c.group) (address_field c.source) ≡ Ok (Tail c)
unfolding listener_of
tail_read {c} fit row = rw (
  number_again 1 4294967295 _ fit.discr (let k = row.discr in omega arith) (let k = row.discr in omega arith),
  number_again 1 4294967295 _ fit.head (let k = row.head in omega arith) (let k = row.head in omega arith),
  number_again 0 65535 c.iface (omega arith) (let k = fit.iface in omega arith) (let k = fit.iface in omega arith),
  address_again c.group row.group,
  address_again c.source row.source,
) refl

tail_fields : {c : TailConfig} → IsTailConfig c → IsTailRow c → AllByRecursion IsField (row_fields (Tail c))
tail_fields {c} fit row = (
  word (codes "tail") refl,
  (
    number_field c.discr (let k = row.discr in omega arith),
    (
      number_field c.head (let k = row.head in omega arith),
      (
        number_field c.iface (let k = fit.iface in omega arith),
        (address_is_field c.group row.group, (address_is_field c.source row.source, tt)),
      ),
    ),
  ),
)

tail_short : {c : TailConfig} → IsTailConfig c → IsTailRow c → total (row_fields (Tail c)) ≤ 4096
tail_short {c} fit row =
    let l1 = number_short c.discr (let k = row.discr in omega arith) in
    let l2 = number_short c.head (let k = row.head in omega arith) in
    let l3 = number_short c.iface (let k = fit.iface in omega arith) in
    let l4 = address_short c.group row.group in
    let l5 = address_short c.source row.source in
    omega arith

-- ---- any session

-- a session without its keys
abbrev pub bare : SessionConfig → SessionConfig
bare (PointToPoint c) = PointToPoint (record c { keys = None })
bare config = config

pub row_fields_fit : (c : SessionConfig) → IsFit c → IsRow c → AllByRecursion IsField (row_fields c)
row_fields_fit (PointToPoint c) fit row = row_is_fields fit row (echo_most c.role c.echo fit.echo_range)
row_fields_fit (Initiator c) fit row = initiator_fields fit row
row_fields_fit (Head c) fit row = head_fields fit row
row_fields_fit (Tail c) fit row = tail_fields fit row

-- the row says nothing of keys
pub row_again : (version : Version) (live : Bool) (c : SessionConfig) → IsFit c → IsRow c
    → entry_in_line version places.Table live (spaced (row_fields c) []) ≡ Ok (entries.Row (bare c))
row_again version live (PointToPoint c) fit row =
    let high = echo_most c.role c.echo fit.echo_range in
    cc (
      entry_again version places.Table live (codes "p2p")
          (decimal c.discr ∷ role_field c.role ∷ decimal c.iface ∷ address_field c.local ∷ address_field c.remote ∷ mode_field c.active ∷
          decimal c.tx ∷ decimal c.rx ∷ decimal c.mult ∷ decimal c.echo ∷ decimal c.seed ∷ [])
          (row_is_fields fit row high) (row_short fit row high),
      point_again fit row high,
    )
row_again version live (Initiator c) fit row = cc (
  entry_again version places.Table live (codes "sbfd") (decimal c.discr ∷ decimal c.target ∷ decimal c.iface ∷ address_field c.local ∷
      address_field c.remote ∷ decimal c.tx ∷ decimal c.mult ∷ decimal c.seed ∷ [])
      (initiator_fields fit row) (initiator_short fit row),
  initiator_read fit row,
)
row_again version live (Head c) fit row = cc (
  entry_again version places.Table live (codes "head") (decimal c.discr ∷ decimal c.iface ∷ address_field c.local ∷ address_field c.group ∷
      decimal c.tx ∷ decimal c.mult ∷ decimal c.seed ∷ [])
      (head_fields fit row) (head_short fit row),
  head_read fit row,
)
row_again version live (Tail c) fit row = cc (
  entry_again version places.Table live (codes "tail")
      (decimal c.discr ∷ decimal c.head ∷ decimal c.iface ∷ address_field c.group ∷ address_field c.source ∷ [])
      (tail_fields fit row) (tail_short fit row),
  tail_read fit row,
)

-- ---- a reflector

reflector_read : {r : Reflector} → IsReflector r → reflecting_of (decimal r.discr) (decimal r.rx) (up_field r.up) ≡ Ok r
unfolding reflecting_of
reflector_read {r} row = rw (
  number_again 1 4294967295 _ row.discr (let k = row.discr_below in omega arith) (let k = row.discr_below in omega arith),
  number_again _ _ r.rx row.rx_least row.rx_most (let k = row.rx_most in omega arith),
  up_again r.up,
) refl

pub reflector_fields_fit : {r : Reflector} → IsReflector r → AllByRecursion IsField (reflector_fields r)
reflector_fields_fit {r} row = (
  word (codes "reflector") refl,
  (
    number_field r.discr (let k = row.discr_below in omega arith),
    (number_field r.rx (let k = row.rx_most in omega arith), (up_is_field r.up, tt)),
  ),
)

reflector_short : {r : Reflector} → IsReflector r → total (reflector_fields r) ≤ 4096
reflector_short {r} row =
    let l1 = number_short r.discr (let k = row.discr_below in omega arith) in
    let l2 = number_short r.rx (let k = row.rx_most in omega arith) in
    let l3 = up_short r.up in
    omega arith

pub reflector_again : (version : Version) (live : Bool) {r : Reflector} → IsReflector r
    → entry_in_line version places.Table live (spaced (reflector_fields r) []) ≡ Ok (entries.Reflect r)
reflector_again version live {r} row =
    cc (
      entry_again version places.Table live (codes "reflector") (decimal r.discr ∷ decimal r.rx ∷ up_field r.up ∷ [])
          (reflector_fields_fit row) (reflector_short row),
      reflector_read row,
    )
