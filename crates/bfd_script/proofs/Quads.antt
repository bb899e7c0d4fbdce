-- Addresses of four numbers at a place of a text.
use Rattle.bfd_script.proofs.FieldsCommon.{◌≡◌, ℕ, ◌+◌, ◌*◌, ◌≤◌, ◌==◌, cond, not, Bool, true, false, List, [], ◌∷◌, ◌++◌, length}
use Rattle.bfd_script.proofs.FieldsCommon.{drop, Result, Ok, Err, refl, ap, sym, ◌∙◌, arith, nat_tests, list_all, and_parts, append_assoc}
use Rattle.bfd_script.proofs.FieldsCommon.{is_ascii_digit, is_number, number_in, octet_of, dotted_of, address_of, slice_split, V4}
use Rattle.bfd_script.proofs.Common.{length-append, AllByRecursion}
use Rattle.bfd_script.specs.declared.fields.fault.LineFault.{LineFault}
use Rattle.bfd_script.specs.declared.fields.fault.LineFault.TheVariants.{BadNumber}
use Rattle.bfd_script.specs.Windows.{IsVisible, Reads}
use Rattle.bfd_script.proofs.Elements.{each_more}
use Rattle.bfd_script.proofs.Octets.{no_digits, quad_is}
use Rattle.bfd_script.proofs.Splitting.{split_front, split_last}
use Rattle.bfd_script.proofs.Windowed.{number_parts}

-- what is read as a number has digits alone
is_step : {n : ℕ} (is : Bool) (r : Result ℕ LineFault) → cond (not is) (Err BadNumber) r ≡ Ok n → is ≡ true
is_step true r e = refl
is_step false r e = cc

no_dot : (digits : List ℕ) → list_all is_ascii_digit digits ≡ true → AllByRecursion (λ b. (b == 46) ≡ false) digits
no_dot [] all = tt
no_dot (a ∷ digits) all =
    let parts = and_parts (is_ascii_digit a) (list_all is_ascii_digit digits) all in
    let digit = parts.0 in
    (grind (arith, nat_tests), no_dot digits parts.1)

-- one of the numbers of an address
octet_says : {text : List ℕ} {at to n separator : ℕ} (h : Reads (number_in 0 255) separator text at to n)
    → (octet_of h.field ≡ Ok n) × AllByRecursion (λ b. (b == 46) ≡ false) h.field
octet_says h = (
  rw h.says refl,
  no_dot h.field ((number_parts h.field (is_step (is_number h.field) _ h.says)).0),
)

-- what stands behind a part and its separator
join : (s e : ℕ) (front rest behind : List ℕ) {at to : List ℕ} → at ≡ front ++ (s ∷ to) → to ≡ rest ++ (e ∷ behind)
    → at ≡ (front ++ (s ∷ rest)) ++ (e ∷ behind)
join s e front rest behind {at} {to} first second =
    first ∙ ap (λ more. front ++ (s ∷ more)) second ∙ sym (append_assoc front (s ∷ rest) (e ∷ behind))

dotted_is : (pa pb pc pd : List ℕ) {a b c d : ℕ} → AllByRecursion (λ b. (b == 46) ≡ false) pa → AllByRecursion (λ b. (b == 46) ≡ false) pb
    → AllByRecursion (λ b. (b == 46) ≡ false) pc → AllByRecursion (λ b. (b == 46) ≡ false) pd
    → octet_of pa ≡ Ok a → octet_of pb ≡ Ok b → octet_of pc ≡ Ok c → octet_of pd ≡ Ok d
    → dotted_of (slice_split (λ byte. byte == 46) (pa ++ (46 ∷ (pb ++ (46 ∷ (pc ++ (46 ∷ pd)))))))
    ≡ Ok (V4 (((a * 256 + b) * 256 + c) * 256 + d))
dotted_is pa pb pc pd na nb nc nd ea eb ec ed = rw (
  split_front 46 pa (pb ++ (46 ∷ (pc ++ (46 ∷ pd)))) na refl,
  split_front 46 pb (pc ++ (46 ∷ pd)) nb refl,
  split_front 46 pc pd nc refl,
  split_last 46 pd nd,
) (quad_is pa pb pc pd ea eb ec ed)

-- four numbers with dots
pub quad_ends : {text : List ℕ} {at p q r to a b c d : ℕ} → Reads (number_in 0 255) 46 text at p a → Reads (number_in 0 255) 46 text p q b
    → Reads (number_in 0 255) 46 text q r c → Reads (number_in 0 255) 32 text r to d → to ≤ at + 16
    → Reads address_of 32 text at to (V4 (((a * 256 + b) * 256 + c) * 256 + d))
quad_ends {text} {at} {p} {q} {r} {to} {a} {b} {c} {d} ha hb hc hd near =
    let sa = octet_says ha in
    let sb = octet_says hb in
    let sc = octet_says hc in
    let sd = octet_says hd in
    let last : List ℕ = hc.field ++ (46 ∷ hd.field) in
    let most : List ℕ = hb.field ++ (46 ∷ last) in
    let whole : List ℕ = ha.field ++ (46 ∷ most) in
    let dot : IsVisible 46 = record { above = omega arith; below = omega arith } in
    let long : to ≡ at + length whole + 1 = omega (
      arith,
      ha.long,
      hb.long,
      hc.long,
      hd.long,
      length-append ha.field (46 ∷ most),
      length-append hb.field (46 ∷ last),
      length-append hc.field (46 ∷ hd.field),
    ) in
    record {
      field = whole;
      visible = each_more IsVisible ha.field (46 ∷ most) ha.visible
          (dot, each_more IsVisible hb.field (46 ∷ last) hb.visible (dot, each_more IsVisible hc.field (46 ∷ hd.field) hc.visible (dot, hd.visible)));
      here = join 46 32 ha.field most (drop to text) ha.here
          (join 46 32 hb.field last (drop to text) hb.here (join 46 32 hc.field hd.field (drop to text) hc.here hd.here));
      long = long;
      says = no_digits whole (((a * 256 + b) * 256 + c) * 256 + d) (omega (arith, long, near))
          (dotted_is ha.field hb.field hc.field hd.field sa.1 sb.1 sc.1 sd.1 sa.0 sb.0 sc.0 sd.0);
    }
