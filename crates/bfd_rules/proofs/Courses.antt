-- What was emitted before an event's rules stays ahead of what they emit, and what is true of each output stays true.
use Rattle.std.proofs.Common.{◌≡◌, ◌++◌, ℕ, Bool, true, false, List, [], ◌∷◌, refl, append_assoc, append-nil, if◌then◌else◌}
use Rattle.std.specs.List.{AllByRecursion}
use Rattle.bfd_packet.specs.declared.arrival.Datagram.{Datagram}
use Rattle.bfd_packet.specs.declared.control.State.{State}
use Rattle.bfd_rules.specs.declared.outputs.Out.{Out}
use Rattle.bfd_rules.specs.declared.outputs.Out.TheVariants.{Changed, Sent}
use Rattle.bfd_rules.specs.declared.variables.Vars.{Vars}
use Rattle.bfd_rules.specs.Quantities.{same_state}
use Rattle.bfd_rules.specs.EventFrame.{Course, changes, sends}
use Rattle.bfd_rules.specs.Names.{named}

-- the course with these outputs in front
abbrev pub after : List Out → Course → Course
after os s = record s { outs = os ++ s.outs }

-- a choice between two courses
pub either : (os : List Out) (b : Bool) (x y x' y' : Course) → x' ≡ after os x → y' ≡ after os y
    → (if b then x' else y') ≡ after os (if b then x else y)
either os true x y x' y' hx hy = hx
either os false x y x' y' hx hy = hy

-- a change of state is reported behind what was emitted before
pub changes-after : (discr : ℕ) (v : Vars) (os : List Out) (s : Course) → changes discr v (after os s) ≡ after os (changes discr v s)
unfolding changes
changes-after discr v os s = rw append_assoc refl

-- a datagram is sent behind what was emitted before
pub sends-after : (discr : ℕ) (datagram : Datagram) (os : List Out) (s : Course)
    → sends discr datagram (after os s) ≡ after os (sends discr datagram s)
unfolding sends
sends-after discr datagram os s = rw append_assoc refl

-- true of each output that names the discriminator
pub record OfOwn (discr : ℕ) (P : Out → Type 0) : Type 0 where
  pub of_changes : (old new : State) (diag : ℕ) → P (Changed discr old new diag)
  pub of_packets : (datagram : Datagram) → P (Sent discr datagram)

-- that an output names the discriminator is true of each that does
pub own_name : (discr : ℕ) → OfOwn discr (λ out. named out ≡ discr)
own_name discr = record { of_changes = (λ old new diag. refl); of_packets = (λ datagram. refl) }

one_more : (P : Out → Type 0) (os : List Out) {o : Out} → AllByRecursion P os → P o → AllByRecursion P (os ++ o ∷ [])
one_more P [] h own = (own, tt)
one_more P (x ∷ os) h own = (h.0, one_more P os h.1 own)

announced_by : (P : Out → Type 0) (os : List Out) {o : Out} (same : Bool) → AllByRecursion P os → P o
    → AllByRecursion P (os ++ (if same then [] else o ∷ []))
announced_by P os true h own = rw (append-nil os) h
announced_by P os false h own = one_more P os h own

-- what is true of each output of both courses is true of those of the one that is chosen
pub chosen_names : (P : Out → Type 0) (b : Bool) (x y : Course) → AllByRecursion P x.outs → AllByRecursion P y.outs
    → AllByRecursion P (if b then x else y).outs
chosen_names P true x y hx hy = hx
chosen_names P false x y hx hy = hy

-- a change of state names the discriminator, if anything is reported of it
pub changes_names : (discr : ℕ) (P : Out → Type 0) (v : Vars) (s : Course) → OfOwn discr P → AllByRecursion P s.outs
    → AllByRecursion P (changes discr v s).outs
unfolding changes
changes_names discr P v s own h = announced_by P s.outs (same_state s.vars.state v.state) h (own.of_changes s.vars.state v.state v.diag)

-- a datagram names the discriminator
pub sends_names : (discr : ℕ) (P : Out → Type 0) (datagram : Datagram) (s : Course) → OfOwn discr P → AllByRecursion P s.outs
    → AllByRecursion P (sends discr datagram s).outs
unfolding sends
sends_names discr P datagram s own h = one_more P s.outs h (own.of_packets datagram)
