-- Whole lines of a text's first bytes, from the fields that stand there one behind another.
use Rattle.bfd_script.proofs.FieldsCommon.{◌≡◌, ℕ, ◌+◌, ◌-◌, ◌≤◌, Bool, false, List, [], ◌∷◌, ◌++◌, length, drop, Result, Ok}
use Rattle.bfd_script.proofs.FieldsCommon.{refl, ap, sym, ◌∙◌, arith, append_assoc, codes, slice_index, lines_of, number_in, address_of}
use Rattle.bfd_script.proofs.FieldsCommon.{payload_of}
use Rattle.bfd_script.proofs.Common.{AllByRecursion}
use Rattle.bfd_num.specs.Numbers.{moment_bound, greatest_tick}
use Rattle.bfd_packet.specs.declared.arrival.Addr.{Addr}
use Rattle.bfd_packet.specs.declared.arrival.Port.{Port}
use Rattle.bfd_script.specs.declared.fields.fault.LineFault.{LineFault}
use Rattle.bfd_script.specs.declared.line.entries.Entry.{Entry}
use Rattle.bfd_script.specs.declared.line.entries.Entry.TheVariants.{Event}
use Rattle.bfd_script.specs.declared.line.entries.Line.TheVariants.{Rx, Tick}
use Rattle.bfd_script.specs.declared.line.words.Place.{Place}
use Rattle.bfd_script.specs.declared.line.words.Place.TheVariants.{Events}
use Rattle.bfd_script.specs.declared.line.words.Version.{Version}
use Rattle.bfd_script.specs.Arrivals.{arrival_of, port_in}
use Rattle.bfd_script.specs.Entries.{placed, received_of}
use Rattle.bfd_script.specs.Spelling.{line, spaced}
use Rattle.bfd_script.specs.Windows.{HasLine, IsField, Reads}
use Rattle.bfd_script.specs.Words.{word_of}
use Rattle.bfd_script.proofs.Splitting.{entry_again, lines_again, total}
use Rattle.bfd_script.proofs.Visible.{word}
use Rattle.bfd_script.proofs.Windowed.{byte_at}

-- at this place stand these fields, the last of them before the end of the line
pub record Stands (text : List ℕ) (at to : ℕ) (fields : List (List ℕ)) : Type 0 where
  pub visible : AllByRecursion IsField fields
  pub here : drop at text ≡ line fields ++ drop to text
  pub long : to ≡ at + total fields

-- the last field of a line
pub stands_last : {X : Type 0} {read : List ℕ → Result X LineFault} {value : X} {text : List ℕ} {at to : ℕ} (h : Reads read 10 text at to value)
    → Stands text at to (h.field ∷ [])
stands_last {text} {to} h = record {
  visible = (h.visible, tt);
  here = h.here ∙ sym (append_assoc h.field (10 ∷ []) (drop to text));
  long = omega (arith, h.long);
}

-- a word before other fields
pub stands_word : {text : List ℕ} {at m to : ℕ} (word : List ℕ) {field : List ℕ} {fields : List (List ℕ)} → IsField word
    → drop at text ≡ word ++ (32 ∷ drop m text) → m ≡ at + length word + 1 → Stands text m to (field ∷ fields)
    → Stands text at to (word ∷ field ∷ fields)
stands_word {text} {to} word {field} {fields} seen here long more = record {
  visible = (seen, more.visible);
  here = here ∙ ap (λ rest. word ++ (32 ∷ rest)) more.here ∙ sym (append_assoc word (32 ∷ line (field ∷ fields)) (drop to text));
  long = omega (arith, long, more.long);
}

-- a field before other fields
pub stands_more : {X : Type 0} {read : List ℕ → Result X LineFault} {value : X} {text : List ℕ} {at m to : ℕ} {field : List ℕ}
    {fields : List (List ℕ)} (h : Reads read 32 text at m value) → Stands text m to (field ∷ fields)
    → Stands text at to (h.field ∷ field ∷ fields)
stands_more h more = stands_word h.field h.visible h.here h.long more

-- a line of fields is one that says what its fields say
pub begins : {place : Place} {live : Bool} {text : List ℕ} {to : ℕ} {entry : Entry} {field : List ℕ} {fields : List (List ℕ)}
    → Stands text 0 to (field ∷ fields) → to ≤ 256
    → ((version : Version) → placed version place live (word_of version field) fields ≡ Ok entry) → HasLine place live text to entry
begins {place} {live} {text} {to} {field} {fields} h short says = record {
  line = spaced (field ∷ fields) [];
  lines = λ more. ap (λ all. lines_of (all ++ more)) h.here ∙ ap lines_of (append_assoc (line (field ∷ fields)) (drop to text) more)
      ∙ lines_again (field ∷ fields) (drop to text ++ more) h.visible;
  says = λ version. entry_again version place live field fields h.visible (omega (arith, short, h.long)) ∙ says version;
}

-- ---- packets

received : (moment port iface src dst ttl payload : List ℕ) {m i t : ℕ} {p : Port} {s d : Addr} {bytes : List ℕ}
    → number_in 0 (moment_bound - 1) moment ≡ Ok m → port_in port ≡ Ok p → number_in 0 65535 iface ≡ Ok i → address_of src ≡ Ok s
    → address_of dst ≡ Ok d → number_in 0 255 ttl ≡ Ok t → payload_of payload ≡ Ok bytes
    → received_of moment port iface (src ∷ dst ∷ ttl ∷ payload ∷ [])
    ≡ Ok (Event (Rx m (record { port = p; iface = i; src = s; sport = 49152; dst = d; ttl = t; payload = bytes })))
unfolding received_of arrival_of
received moment port iface src dst ttl payload em ep ei es ed et eb = rw (em, ep, ei, es, ed, et, eb) refl

-- a packet's line
pub packet_begins : {text : List ℕ} {c e f g h j to m i t : ℕ} {p : Port} {s d : Addr} {bytes : List ℕ} → 3 ≤ length text
    → slice_index text 0 ≡ 114 → slice_index text 1 ≡ 120 → slice_index text 2 ≡ 32
    → Reads (number_in 0 (moment_bound - 1)) 32 text 3 c m → Reads port_in 32 text c e p → Reads (number_in 0 65535) 32 text e f i
    → Reads address_of 32 text f g s → Reads address_of 32 text g h d → Reads (number_in 0 255) 32 text h j t
    → Reads payload_of 10 text j to bytes → to ≤ 256
    → HasLine Events false text to
    (Event (Rx m (record { port = p; iface = i; src = s; sport = 49152; dst = d; ttl = t; payload = bytes })))
packet_begins {text} long r x space moment port iface src dst ttl payload short =
    let here : drop 0 text ≡ codes "rx" ++ (32 ∷ drop 3 text) =
    byte_at text 0 1 refl (omega (arith, long)) r ∙ ap (λ rest. 114 ∷ rest) (byte_at text 1 2 refl (omega (arith, long)) x
    ∙ ap (λ rest. 120 ∷ rest) (byte_at text 2 3 refl (omega (arith, long)) space)) in
    begins (stands_word (codes "rx") (word (codes "rx") refl) here refl
    (stands_more moment (stands_more port (stands_more iface (stands_more src (stands_more dst (stands_more ttl (stands_last payload))))))))
    short (λ version. received moment.field port.field iface.field src.field dst.field ttl.field payload.field moment.says port.says iface.says
    src.says dst.says ttl.says payload.says)

-- ---- ticks

tick_says : (field : List ℕ) {n : ℕ} → number_in 0 greatest_tick field ≡ Ok n → (version : Version)
    → placed version Events false (word_of version (codes "tick")) (field ∷ []) ≡ Ok (Event (Tick n))
tick_says field e version = rw e refl

-- a tick's line
pub tick_begins : {text : List ℕ} {to n : ℕ} → 5 ≤ length text → slice_index text 0 ≡ 116 → slice_index text 1 ≡ 105
    → slice_index text 2 ≡ 99 → slice_index text 3 ≡ 107 → slice_index text 4 ≡ 32
    → Reads (number_in 0 greatest_tick) 10 text 5 to n → to ≤ 256 → HasLine Events false text to (Event (Tick n))
tick_begins {text} long t i c k space tick short =
    let here : drop 0 text ≡ codes "tick" ++ (32 ∷ drop 5 text) =
    byte_at text 0 1 refl (omega (arith, long)) t ∙ ap (λ rest. 116 ∷ rest) (byte_at text 1 2 refl (omega (arith, long)) i
    ∙ ap (λ rest. 105 ∷ rest) (byte_at text 2 3 refl (omega (arith, long)) c
    ∙ ap (λ rest. 99 ∷ rest) (byte_at text 3 4 refl (omega (arith, long)) k
    ∙ ap (λ rest. 107 ∷ rest) (byte_at text 4 5 refl (omega (arith, long)) space)))) in
    begins (stands_word (codes "tick") (word (codes "tick") refl) here refl (stands_last tick)) short (tick_says tick.field tick.says)
