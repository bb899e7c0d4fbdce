-- Where a text begins with a line that is known, its script is that of what stands behind the line.
use Rattle.bfd_script.proofs.FieldsCommon.{◌≡◌, ℕ, ◌+◌, ◌++◌, ◌∷◌, ◌∙◌, ◌-◌, ◌≤◌, Bool, true, false, List, drop, length, take, Ok, Err, refl, ap}
use Rattle.bfd_script.proofs.FieldsCommon.{append_assoc, arith, length-drop, length-take-le, lines_of, sym, take-append-drop, take-length}
use Rattle.bfd_script.proofs.Common.{not, cond, nat_le, discr_of, has_place, is_full, is_named, is_taken, script_from}
use Rattle.std.proofs.lemmas.List.{drop-append-le}
use Rattle.bfd_session.specs.declared.event.SessionConfig.{SessionConfig}
use Rattle.bfd_script.specs.declared.fields.fault.LineFault.{LineFault}
use Rattle.bfd_script.specs.declared.fields.fault.ReadFault.{ReadFault}
use Rattle.bfd_script.specs.declared.fields.fault.ReadFault.TheVariants.{Fault, Memory}
use Rattle.bfd_script.specs.declared.fields.fault.ScriptFault.{ScriptFault}
use Rattle.bfd_script.specs.declared.line.entries.Entry.{Entry}
use Rattle.bfd_script.specs.declared.line.entries.Line.{Line}
use Rattle.bfd_script.specs.declared.line.words.Place.{Place}
use Rattle.bfd_script.specs.Entries.{entry_in_line}
use Rattle.bfd_script.specs.Gives.{Refuses, RefusesText, fault_at}
use Rattle.bfd_script.specs.Reading.{State, admitted, with_config, with_event}
use Rattle.bfd_script.specs.Windows.{HasLine}

-- the line that the first bytes of a text begin with is the first of the whole text
pub begins_in : {place : Place} {live : Bool} {window : List ℕ} {to : ℕ} {entry : Entry} (text : List ℕ) → window ≡ take 256 text
    → 256 ≤ length text → to ≤ 256 → HasLine place live window to entry → HasLine place live text to entry
begins_in {window} {to} text front long short h =
    let whole : text ≡ window ++ drop 256 text = sym (ap (λ first. first ++ drop 256 text) front ∙ take-append-drop 256 text) in
    let within : to ≤ length window = omega (arith, short, ap length front ∙ length-take-le 256 text long) in
    record {
      line = h.line;
      lines = λ more. ap (λ all. lines_of (all ++ more)) whole ∙ ap lines_of (append_assoc window (drop 256 text) more)
          ∙ h.lines (drop 256 text ++ more)
          ∙ ap (λ rest. h.line ∷ lines_of rest) (sym (append_assoc (drop to window) (drop 256 text) more)
          ∙ ap (λ rest. rest ++ more) (sym (ap (drop to) whole ∙ drop-append-le to window (drop 256 text) within)));
      says = h.says;
    }

-- what the line says, where the state is before it
says_here : {place : Place} {live : Bool} {text : List ℕ} {to : ℕ} {entry : Entry} (s : State) (h : HasLine place live text to entry)
    → s.place ≡ place → entry_in_line s.version s.place live h.line ≡ Ok entry
says_here s h here = rw here (h.says s.version)

-- the line is accepted
onward : {place : Place} {live : Bool} {text : List ℕ} {to : ℕ} {entry : Entry} (s : State) {next : State} (number : ℕ)
    → HasLine place live text to entry → s.place ≡ place → admitted entry s ≡ Ok next → (more : List ℕ)
    → script_from live s number (lines_of (text ++ more)) ≡ script_from live next (number + 1) (lines_of (drop to text ++ more))
onward s number h here admits more = rw (h.lines more, says_here s h here, admits) refl

-- the same of a text that was read up to here, and of what stands behind the line
pub onward_from : {place : Place} {live : Bool} {to : ℕ} {entry : Entry} (first s : State) {next : State} (start number : ℕ)
    (bytes text after : List ℕ)
    → ((more : List ℕ) → script_from live first start (lines_of (bytes ++ more)) ≡ script_from live s number (lines_of (text ++ more)))
    → HasLine place live text to entry → s.place ≡ place → admitted entry s ≡ Ok next → after ≡ drop to text → (more : List ℕ)
    → script_from live first start (lines_of (bytes ++ more)) ≡ script_from live next (number + 1) (lines_of (after ++ more))
onward_from first s start number bytes text after before h here admits behind more =
    rw behind (before more ∙ onward s number h here admits more)

-- what stands behind the line, as a slice up to the end
pub behind_line : (to : ℕ) (text : List ℕ) → take (length text - to) (drop to text) ≡ drop to text
behind_line to text = ap (λ n. take n (drop to text)) (sym (length-drop to text)) ∙ take-length (drop to text)

-- the line has a fault because of those before it
onward_refused : {place : Place} {live : Bool} {text : List ℕ} {to : ℕ} {entry : Entry} (s : State) {fault : LineFault} (number : ℕ)
    → HasLine place live text to entry → s.place ≡ place → admitted entry s ≡ Err fault → (more : List ℕ)
    → script_from live s number (lines_of (text ++ more)) ≡ Err (record { line = number; fault = fault })
onward_refused s number h here admits more = rw (h.lines more, says_here s h here, admits) refl

-- the same of a text that was read up to here, unless memory ran out
pub refused_from : {place : Place} {live : Bool} {to : ℕ} {entry : Entry} (first s : State) (start number : ℕ) (bytes text : List ℕ)
    (refusal : ReadFault) {answer : ScriptFault} → answer ≡ fault_at number refusal
    → ((more : List ℕ) → script_from live first start (lines_of (bytes ++ more)) ≡ script_from live s number (lines_of (text ++ more)))
    → HasLine place live text to entry → s.place ≡ place → Refuses refusal (admitted entry s) → (more : List ℕ)
    → RefusesText answer (script_from live first start (lines_of (bytes ++ more)))
refused_from first s start number bytes text Memory is before h here admits more = rw is tt
refused_from first s start number bytes text (Fault fault) is before h here admits more =
    rw is (before more ∙ onward_refused s number h here admits more)

-- an event changes nothing about what may come next
same_step : (known full : Bool) (refusal more : LineFault) (s later : State) {next : State} → later.place ≡ s.place
    → cond (not known) (Err refusal) (cond full (Err more) (Ok later)) ≡ Ok next → next.place ≡ s.place
same_step true false refusal more s later same e = cc
same_step known full refusal more s later same e = cc

pub same_place : (event : Line) (s : State) {next : State} → with_event event s ≡ Ok next → next.place ≡ s.place
same_place event s e = same_step (is_named event s.configs) (nat_le 200000 (length s.events)) _ _ s _ refl e

-- neither does a session
same_row_step : (taken alike full : Bool) (first second third : LineFault) (s later : State) {next : State} → later.place ≡ s.place
    → cond taken (Err first) (cond alike (Err second) (cond full (Err third) (Ok later))) ≡ Ok next → next.place ≡ s.place
same_row_step false false false first second third s later same e = cc
same_row_step taken alike full first second third s later same e = cc

pub same_place_row : (config : SessionConfig) (s : State) {next : State} → with_config config s ≡ Ok next → next.place ≡ s.place
same_place_row config s e = same_row_step (is_taken (discr_of config) s) (has_place config s.configs) (is_full s) _ _ _ s _ refl e
