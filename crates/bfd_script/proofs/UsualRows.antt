-- The line of a session in a text's first bytes.
use Rattle.bfd_script.proofs.FieldsCommon.{◌≡◌, ℕ, ◌≤◌, cond, Bool, true, false, List, [], ◌∷◌, ◌++◌, length, drop, Result, Ok, Err}
use Rattle.bfd_script.proofs.FieldsCommon.{refl, ap, ◌∙◌, arith, codes, slice_index, number_in, address_of, bytes_eq}
use Rattle.bfd_rules.specs.Sound.{is_echo_interval}
use Rattle.bfd_rules.specs.declared.config.Role.{Role}
use Rattle.bfd_rules.specs.declared.config.Role.TheVariants as roles
use Rattle.bfd_packet.specs.declared.arrival.Port.TheVariants.{Single, Multi, Echo, Sbfd, Answer}
use Rattle.bfd_script.specs.declared.fields.fault.LineFault.{LineFault}
use Rattle.bfd_script.specs.declared.fields.fault.LineFault.TheVariants.{UnknownWord}
use Rattle.bfd_script.specs.declared.line.entries.Entry.TheVariants.{Row}
use Rattle.bfd_script.specs.declared.line.points.Ends.{Ends}
use Rattle.bfd_script.specs.declared.line.points.Timing.{Timing}
use Rattle.bfd_script.specs.declared.line.words.Place.TheVariants.{Table}
use Rattle.bfd_script.specs.declared.line.words.Version.{Version}
use Rattle.bfd_script.specs.Arrivals.{port_in}
use Rattle.bfd_script.specs.Entries.{placed}
use Rattle.bfd_script.specs.Points.{active_of, config_by, echo_of, ends_of, role_of, timing_of}
use Rattle.bfd_script.specs.Windows.{HasLine, Reads}
use Rattle.bfd_script.specs.Words.{word_of}
use Rattle.bfd_script.proofs.Usual.{begins, stands_last, stands_more, stands_word}
use Rattle.bfd_script.proofs.Visible.{word}
use Rattle.bfd_script.proofs.Windowed.{byte_at}

-- a field that another definition reads, too
read_as : {X Y : Type 0} {read : List ℕ → Result X LineFault} (other : List ℕ → Result Y LineFault) {separator : ℕ} {text : List ℕ}
    {at to : ℕ} {x : X} (y : Y) (h : Reads read separator text at to x) → other h.field ≡ Ok y → Reads other separator text at to y
read_as other y h says = record { field = h.field; visible = h.visible; here = h.here; long = h.long; says = says }

-- ---- over how many hops

-- which of the words it is, by the kind of port
single_by : (a b c d e : Bool) → cond a (Ok Single) (cond b (Ok Multi) (cond c (Ok Echo) (cond d (Ok Sbfd) (cond e (Ok Answer) (Err UnknownWord))))) ≡ Ok Single
    → cond a (Ok roles.Single) (cond b (Ok roles.Multi) (Err UnknownWord)) ≡ Ok roles.Single
single_by true b c d e h = refl
single_by false true c d e h = cc h
single_by false false true d e h = cc h
single_by false false false true e h = cc h
single_by false false false false true h = cc h
single_by false false false false false h = cc h

multi_by : (a b c d e : Bool) → cond a (Ok Single) (cond b (Ok Multi) (cond c (Ok Echo) (cond d (Ok Sbfd) (cond e (Ok Answer) (Err UnknownWord))))) ≡ Ok Multi
    → cond a (Ok roles.Single) (cond b (Ok roles.Multi) (Err UnknownWord)) ≡ Ok roles.Multi
multi_by true b c d e h = cc h
multi_by false true c d e h = refl
multi_by false false true d e h = cc h
multi_by false false false true e h = cc h
multi_by false false false false true h = cc h
multi_by false false false false false h = cc h

pub role_single : {text : List ℕ} {at to : ℕ} → Reads port_in 32 text at to Single → Reads role_of 32 text at to roles.Single
role_single h = read_as role_of roles.Single h (single_by (bytes_eq h.field (codes "single")) (bytes_eq h.field (codes "multi"))
    (bytes_eq h.field (codes "echo")) (bytes_eq h.field (codes "sbfd")) (bytes_eq h.field (codes "answer")) h.says)

pub role_multi : {text : List ℕ} {at to : ℕ} → Reads port_in 32 text at to Multi → Reads role_of 32 text at to roles.Multi
role_multi h = read_as role_of roles.Multi h (multi_by (bytes_eq h.field (codes "single")) (bytes_eq h.field (codes "multi"))
    (bytes_eq h.field (codes "echo")) (bytes_eq h.field (codes "sbfd")) (bytes_eq h.field (codes "answer")) h.says)

-- ---- the interval of the Echo function

pub echo_reads : {text : List ℕ} {at to every : ℕ} (role : Role) → Reads (number_in 0 60000000) 32 text at to every
    → is_echo_interval role every ≡ true → Reads (echo_of role) 32 text at to every
echo_reads {every = every} role h may = read_as (echo_of role) every h (rw (h.says, may) refl)

-- ---- the whole line

point_says : (discr role iface local remote mode tx rx mult every seed : List ℕ) (ends : Ends) (timing : Timing)
    → number_in 1 4294967295 discr ≡ Ok ends.discr → role_of role ≡ Ok ends.role → number_in 0 65535 iface ≡ Ok ends.iface
    → address_of local ≡ Ok ends.local → address_of remote ≡ Ok ends.remote → active_of mode ≡ Ok timing.active
    → number_in 10000 60000000 tx ≡ Ok timing.tx → number_in 10000 60000000 rx ≡ Ok timing.rx → number_in 1 255 mult ≡ Ok timing.mult
    → echo_of ends.role every ≡ Ok timing.echo → number_in 0 4294967295 seed ≡ Ok timing.seed → (live : Bool) (version : Version)
    → placed version Table live (word_of version (codes "p2p"))
    (discr ∷ role ∷ iface ∷ local ∷ remote ∷ mode ∷ tx ∷ rx ∷ mult ∷ every ∷ seed ∷ []) ≡ Ok (Row (config_by ends timing))
unfolding ends_of timing_of
point_says discr role iface local remote mode tx rx mult every seed ends timing ed er ei el em ea et ex eu ee es live version =
    rw (ed, er, ei, el, em, ea, et, ex, eu, ee, es) refl

-- a session's line
pub point_begins : {text : List ℕ} {b c d e f g h i j k to : ℕ} (ends : Ends) (timing : Timing) → 4 ≤ length text
    → slice_index text 0 ≡ 112 → slice_index text 1 ≡ 50 → slice_index text 2 ≡ 112 → slice_index text 3 ≡ 32
    → Reads (number_in 1 4294967295) 32 text 4 b ends.discr → Reads role_of 32 text b c ends.role
    → Reads (number_in 0 65535) 32 text c d ends.iface → Reads address_of 32 text d e ends.local → Reads address_of 32 text e f ends.remote
    → Reads active_of 32 text f g timing.active → Reads (number_in 10000 60000000) 32 text g h timing.tx
    → Reads (number_in 10000 60000000) 32 text h i timing.rx → Reads (number_in 1 255) 32 text i j timing.mult
    → Reads (echo_of ends.role) 32 text j k timing.echo → Reads (number_in 0 4294967295) 10 text k to timing.seed → to ≤ 256
    → (live : Bool) → HasLine Table live text to (Row (config_by ends timing))
point_begins {text} ends timing long p two q space discr role iface local remote mode tx rx mult every seed short live =
    let here : drop 0 text ≡ codes "p2p" ++ (32 ∷ drop 4 text) =
    byte_at text 0 1 refl (omega (arith, long)) p ∙ ap (λ rest. 112 ∷ rest) (byte_at text 1 2 refl (omega (arith, long)) two
    ∙ ap (λ rest. 50 ∷ rest) (byte_at text 2 3 refl (omega (arith, long)) q
    ∙ ap (λ rest. 112 ∷ rest) (byte_at text 3 4 refl (omega (arith, long)) space))) in
    begins (stands_word (codes "p2p") (word (codes "p2p") refl) here refl
    (stands_more discr (stands_more role (stands_more iface (stands_more local (stands_more remote (stands_more mode (stands_more tx
    (stands_more rx (stands_more mult (stands_more every (stands_last seed))))))))))))
    short (point_says discr.field role.field iface.field local.field remote.field mode.field tx.field rx.field mult.field every.field seed.field
    ends timing discr.says role.says iface.says local.says remote.says mode.says tx.says rx.says mult.says every.says seed.says live)
