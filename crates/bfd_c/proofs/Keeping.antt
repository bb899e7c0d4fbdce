-- Each record stays of its session's kind.
use Rattle.std.proofs.Common.{◌≡◌, ◌∙◌, ◌∷◌, ℕ, zero, suc, Bool, true, false, if◌then◌else◌, List, [], Option, None, Some, length, map}
use Rattle.std.proofs.Common.{refl, sym, ap}
use Rattle.std.specs.Prelude.{slice_get, slice_index_or, slice_set}
use Rattle.std.specs.List.{insert, remove}
use Rattle.std.proofs.lemmas.List.{length-map}
use Rattle.bfd_packet.specs.declared.control.State.{State}
use Rattle.bfd_packet.specs.declared.control.State.TheVariants.{AdminDown, Down, Init, Up}
use Rattle.bfd_packet.specs.declared.discard.Test.{Test}
use Rattle.bfd_rules.specs.declared.outputs.Out.{Out}
use Rattle.bfd_rules.specs.declared.outputs.Out.TheVariants.{Changed, Sent}
use Rattle.bfd_script.specs.declared.line.entries.Line.{Line}
use Rattle.bfd_session.specs.declared.event.Answer.{Answer}
use Rattle.bfd_session.specs.declared.event.Answer.TheVariants.{Handled, Ticked, Dropped, Refused, Shown as Showing}
use Rattle.bfd_session.specs.declared.event.SessionConfig.{SessionConfig}
use Rattle.bfd_session.specs.Kinds.{Running, configs_of}
use Rattle.bfd_session.specs.Rows.{place_of}
use Rattle.bfd_session.specs.Step.{started}
use Rattle.bfd_session.proofs.Changes.{map_inserted, map_removed}
use Rattle.bfd_instance.specs.World.{Turn, World, happens, turn_giving}
use Rattle.bfd_instance.proofs.SameConfigs.{happens_keeps}
use Rattle.bfd_c.specs.declared.records.kept.Came.{Came}
use Rattle.bfd_c.specs.declared.records.kept.Came.TheVariants.{Nothing, Echoed, Control}
use Rattle.bfd_c.specs.declared.records.kept.Kind.TheVariants as kinds
use Rattle.bfd_c.specs.declared.records.kept.Record.{Record}
use Rattle.bfd_c.specs.Records.{all_given, blank, changed_at, entered, fresh, gave, giver, session_kind, kinds_in, kinds_of, moment_at}
use Rattle.bfd_c.specs.Records.{answered_with, discarded_by, is_stored_before, stored}

-- what changes a record, and not its kind
abbrev KeepsKind : (ℕ → Record → Record) → Type 0
KeepsKind change = (moment : ℕ) (r : Record) → (change moment r).kind ≡ r.kind

set_keeps : (rs : List Record) (place : ℕ) (d : Record) (f : Record → Record) → ((r : Record) → (f r).kind ≡ r.kind)
    → kinds_in (slice_set rs place (f (slice_index_or rs place d))) ≡ kinds_in rs
set_keeps [] zero d f keeps = refl
set_keeps [] (suc place) d f keeps = refl
set_keeps (r ∷ rs) zero d f keeps = ap (λ k. k ∷ kinds_in rs) (keeps r)
set_keeps (r ∷ rs) (suc place) d f keeps = ap (λ ks. r.kind ∷ ks) (set_keeps rs place d f keeps)

pub change_keeps : (place : Option ℕ) (change : ℕ → Record → Record) (w : World) (rs : List Record) → KeepsKind change
    → kinds_in (changed_at place change w rs) ≡ kinds_in rs
change_keeps None change w rs keeps = refl
change_keeps (Some place) change w rs keeps = set_keeps rs place (blank kinds.PointToPoint) (change (moment_at w place))
    (keeps (moment_at w place))

entered_keeps : (state : State) (r : Record) → (entered state r).kind ≡ r.kind
entered_keeps AdminDown r = refl
entered_keeps Down r = refl
entered_keeps Init r = refl
entered_keeps Up r = refl

pub gave_keeps : (out : Out) → KeepsKind (gave out)
gave_keeps (Sent discr datagram) moment r = refl
gave_keeps (Changed discr was state diag) moment r = entered_keeps state r

stored_keeps : (before : Bool) (test : Test) (diag moment : ℕ) (r : Record)
    → (if before then stored diag moment (discarded_by test r) else discarded_by test r).kind ≡ r.kind
stored_keeps true test diag moment r = refl
stored_keeps false test diag moment r = refl

pub answered_keeps : (came : Came) (answer : Answer) → KeepsKind (answered_with came answer)
answered_keeps Nothing answer moment r = refl
answered_keeps Echoed Handled moment r = refl
answered_keeps Echoed Ticked moment r = refl
answered_keeps Echoed (Dropped test) moment r = refl
answered_keeps Echoed (Refused refusal) moment r = refl
answered_keeps Echoed (Showing shown) moment r = refl
answered_keeps (Control diag) Handled moment r = refl
answered_keeps (Control diag) Ticked moment r = refl
answered_keeps (Control diag) (Dropped test) moment r = stored_keeps (is_stored_before test) test diag moment r
answered_keeps (Control diag) (Refused refusal) moment r = refl
answered_keeps (Control diag) (Showing shown) moment r = refl

pub given_keeps : (w : World) (rs : List Record) (outs : List Out) → kinds_in (all_given w rs outs) ≡ kinds_in rs
given_keeps w rs [] = refl
given_keeps w rs (out ∷ outs) =
    given_keeps w (changed_at (place_of (giver out) (configs_of w.sessions)) (gave out) w rs) outs
    ∙ change_keeps (place_of (giver out) (configs_of w.sessions)) (gave out) w rs (gave_keeps out)

-- the kinds of sessions are those of their configurations
of_configs : (ss : List Running) → kinds_of ss ≡ map session_kind (configs_of ss)
of_configs [] = refl
of_configs (s ∷ ss) = ap (λ ks. session_kind s.config ∷ ks) (of_configs ss)

pub kinds_stay : (line : Line) (w : World) → kinds_of (happens line w).world.sessions ≡ kinds_of w.sessions
kinds_stay line w = of_configs (happens line w).world.sessions ∙ ap (map session_kind) (happens_keeps line w) ∙ sym (of_configs w.sessions)

-- what came is noted
pub came_keeps : (line : Line) (w after : World) (items : List Out) (answer : Answer) (place : Option ℕ) (came : Came)
    (rs noted : List Record)
    → turn_giving after items answer ≡ happens line w → kinds_in rs ≡ kinds_of w.sessions
    → noted ≡ changed_at place (answered_with came answer) after rs
    → kinds_in noted ≡ kinds_of after.sessions
came_keeps line w after items answer place came rs noted turn same e =
    ap kinds_in e ∙ change_keeps place (answered_with came answer) after rs (answered_keeps came answer) ∙ same
    ∙ sym (ap (λ (t : Turn). kinds_of t.world.sessions) turn ∙ kinds_stay line w)

-- so there are as many records as sessions
pub as_many : (rs : List Record) (ss : List Running) → kinds_in rs ≡ kinds_of ss → length rs ≡ length ss
as_many rs ss same = sym (length-map rs (λ r. r.kind)) ∙ ap length same ∙ length-map ss (λ s. session_kind s.config)

pub one_in : (rs : List Record) (ss : List Running) (place : ℕ) (c : SessionConfig) → kinds_in rs ≡ kinds_of ss
    → kinds_in (insert rs place (fresh c)) ≡ kinds_of (insert ss place (started c))
one_in rs ss place c same =
    map_inserted (λ (r : Record). r.kind) rs place (fresh c) ∙ ap (λ ks. insert ks place (session_kind c)) same
    ∙ sym (map_inserted (λ (s : Running). session_kind s.config) ss place (started c))

pub one_out : (rs : List Record) (ss : List Running) (place : ℕ) → kinds_in rs ≡ kinds_of ss
    → kinds_in (remove rs place) ≡ kinds_of (remove ss place)
one_out rs ss place same =
    map_removed (λ (r : Record). r.kind) rs place ∙ ap (λ ks. remove ks place) same
    ∙ sym (map_removed (λ (s : Running). session_kind s.config) ss place)

-- the records of new sessions are of their kinds
pub fresh_kinds : (cs : List SessionConfig) → kinds_in (map fresh cs) ≡ kinds_of (map started cs)
fresh_kinds [] = refl
fresh_kinds (c ∷ cs) = ap (λ ks. session_kind c ∷ ks) (fresh_kinds cs)

-- a session's record is of its kind
pub kind_there : (rs : List Record) (ss : List Running) (place : ℕ) (r : Record) (s : Running) → kinds_in rs ≡ kinds_of ss
    → slice_get rs place ≡ Some r → slice_get ss place ≡ Some s → r.kind ≡ session_kind s.config
kind_there [] ss place r s same kept there = absurd (cc)
kind_there (q ∷ rs) [] place r s same kept there = absurd (cc)
kind_there (q ∷ rs) (t ∷ ss) zero r s same kept there = cc
kind_there (q ∷ rs) (t ∷ ss) (suc place) r s same kept there = kind_there rs ss place r s (cc) kept there
