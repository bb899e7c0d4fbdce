-- Many packets handled by one call, and many outputs read by one call: each as by a call of its own, in their order.
use Rattle.std.specs.Prelude.{ℕ, zero, suc, ◌≤◌, ◌+◌, ◌==◌, ◌&&◌, ◌||◌, Bool, List, [], ◌∷◌, length, drop, min, nat_lt, take, Option, None}
use Rattle.std.specs.Prelude.{Some, ⊤}
use Rattle.std.specs.Prelude.{if◌then◌else◌}
use Rattle.std.specs.List.{list_all}
use Rattle.bfd_rules.specs.declared.outputs.Out.{Out}
use Rattle.bfd_script.specs.declared.line.entries.Line.{Line}
use Rattle.bfd_c.specs.declared.many.Arrived.{Arrived}
use Rattle.bfd_c.specs.declared.structs.Answered.{Answered}
use Rattle.bfd_c.specs.declared.structs.Output.{Output}
use Rattle.bfd_c.specs.Engines.{Instance, asked, instance_after}
use Rattle.bfd_c.specs.Lines.{packet_line}
use Rattle.bfd_c.specs.Sizes.{answered_size, output_size, packet_size, sized}
use Rattle.bfd_c.specs.Structs.{answer_for_c, output_of}

-- the event that one of many packets asks for
abbrev pub line_of_arrived : Arrived → Option Line
line_of_arrived a = packet_line a.packet a.payload.now

-- its payload is at most 52 bytes, which need no memory
abbrev pub IsShort : Arrived → Type 0
IsShort a = length a.payload.now ≤ 52

-- the packet at this place is short, if there is one
abbrev pub IsShortAt : ℕ → List Arrived → Type 0
IsShortAt place [] = ⊤
IsShortAt zero (a ∷ arrivals) = IsShort a
IsShortAt (suc place) (a ∷ arrivals) = IsShortAt place arrivals

-- the result of many packets: the engine, the places with the answers of those that were handled, how many these are, and the code
pub record Handed : Type 0 where
  pub engine : Instance
  pub answers : List Answered
  pub packets : ℕ
  pub code : ℕ

-- none of them was handled, for this code
abbrev pub none_handed : ℕ → List Answered → Instance → Handed
none_handed code answers e = record { engine = e; answers = answers; packets = 0; code = code }

-- one was handled, with this answer, before those that had this result
abbrev pub one_before : Answered → Handed → Handed
one_before answer behind = record behind { answers = answer ∷ behind.answers; packets = behind.packets + 1 }

-- after a packet that left outputs, no other is handled, so that the outputs can be read; else those behind it are
abbrev pub handed_behind : List Out → Answered → List Answered → Instance → Handed → Handed
handed_behind [] answer answers after behind = one_before answer behind
handed_behind (out ∷ outs) answer answers after behind = one_before answer (none_handed 0 answers after)

-- one packet, and then those behind it; if its values ask for no event, none is handled
abbrev pub handed_by : Option Line → Answered → List Answered → Instance → Handed → Handed
handed_by None place answers e behind = none_handed 3 (place ∷ answers) e
handed_by (Some line) place answers e behind =
    handed_behind (instance_after line e).left (answer_for_c (instance_after line e).discr (instance_after line e).answer) answers
    (instance_after line e) behind

-- the code when there is no memory for a packet
abbrev pub unhandled_code : Option Line → ℕ
unhandled_code None = 3
unhandled_code (Some line) = 2

-- packets one after another with places for their answers, when there is memory for the first so many
abbrev pub handed : ℕ → List Arrived → List Answered → Instance → Handed
handed memory [] places e = none_handed 0 places e
handed memory (a ∷ arrivals) [] e = none_handed 0 [] e
handed zero (a ∷ arrivals) (place ∷ places) e = none_handed (unhandled_code (line_of_arrived a)) (place ∷ places) e
handed (suc memory) (a ∷ arrivals) (place ∷ places) e =
    handed_by (line_of_arrived a) place places e (handed memory arrivals places (asked (line_of_arrived a) e).0)

-- whether each packet, and each place for an answer, has a struct of the size that is known
abbrev pub are_packets_sized : List Arrived → Bool
are_packets_sized arrivals = list_all (λ a. a.packet.size == packet_size) arrivals

abbrev pub are_answers_sized : List Answered → Bool
are_answers_sized places = list_all (λ place. place.size == answered_size) places

-- the same of a handle: what it holds, the places, how many were handled, and the code. None is handled if there are more than 64
-- packets, if a place is missing, or if a packet or its place has another size
abbrev pub handed_fields : Handed → Option Instance × (List Answered × (ℕ × ℕ))
handed_fields h = (Some h.engine, (h.answers, (h.packets, h.code)))

abbrev pub handed_to : ℕ → List Arrived → List Answered → Option Instance → Option Instance × (List Answered × (ℕ × ℕ))
handed_to memory arrivals places None = (None, (places, (0, 1)))
handed_to memory arrivals places (Some e) =
    if nat_lt 64 (length arrivals) || nat_lt (length places) (length arrivals) then (Some e, (places, (0, 3)))
    else sized (are_packets_sized arrivals && are_answers_sized (take (length arrivals) places)) (λ code. (Some e, (places, (0, code))))
    (handed_fields (handed memory arrivals places e))

-- outputs in these places, from the first on; the other places don't change
abbrev pub outputs_in : List Out → List Output → List Output
outputs_in [] places = places
outputs_in (out ∷ outs) [] = []
outputs_in (out ∷ outs) (place ∷ places) = output_of out ∷ outputs_in outs places

-- the same of places for outputs
abbrev pub are_outputs_sized : List Output → Bool
are_outputs_sized places = list_all (λ place. place.size == output_size) places

-- an engine of which as many outputs were read as there are places, or all; the places, how many were read, and the code
abbrev pub many_by : List Out → List Output → Instance → Instance × (List Output × (ℕ × ℕ))
many_by [] places e = (e, (places, (0, 4)))
many_by (out ∷ outs) places e = sized (are_outputs_sized (take (length (out ∷ outs)) places)) (λ code. (e, (places, (0, code)))) (
  record e { left = drop (length places) (out ∷ outs) },
  (outputs_in (out ∷ outs) places, (min (length places) (length (out ∷ outs)), 0)),
)

-- the same of a handle; without a place, or with more than 64, nothing is read
abbrev pub held_with : Instance × (List Output × (ℕ × ℕ)) → Option Instance × (List Output × (ℕ × ℕ))
held_with read = (Some read.0, read.1)

abbrev pub many_read : List Output → Option Instance → Option Instance × (List Output × (ℕ × ℕ))
many_read places None = (None, (places, (0, 1)))
many_read places (Some e) =
    if length places == 0 || nat_lt 64 (length places) then (Some e, (places, (0, 3))) else held_with (many_by e.left places e)
