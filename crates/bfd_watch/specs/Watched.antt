-- The watched text: the changes of a run's events, and the moves of a link group.
use Rattle.std.specs.Prelude.{ℕ, ◌+◌, Bool, true, false, List, [], ◌∷◌, ◌++◌, length, codes}
use Rattle.std.specs.List.{flat_map}
use Rattle.std.specs.Fmt.{decimal}
use Rattle.bfd_session.specs.Alone.{Outcome}
use Rattle.bfd_script.specs.Spelling.{line}
use Rattle.bfd_packet.specs.States.{state_name}
use Rattle.bfd_watch.specs.declared.change.Change.{Change}
use Rattle.bfd_watch.specs.Changes.{changes_in, changes_from}
use Rattle.bfd_watch.specs.Groups.{Group, group_after, count_up, is_group_up}

-- a change in the event of this number: `N change DISCR OLD NEW DIAG`
abbrev pub change_line : ℕ → Change → List ℕ
change_line number c =
    line (decimal number ∷ codes "change" ∷ decimal c.discr ∷ state_name c.«old» ∷ state_name c.«new» ∷ decimal c.diag ∷ [])

-- whether a group is up, in a word
abbrev pub up_word : Bool → List ℕ
up_word true = codes "up"
up_word false = codes "down"

-- a group that the event of this number has moved: `N group COUNT up|down`
abbrev pub group_line : ℕ → Group → List ℕ
group_line number g = line (decimal number ∷ codes "group" ∷ decimal (count_up g) ∷ up_word (is_group_up g) ∷ [])

-- a text that is present only if a group has gone up or down
abbrev pub if_moved : Bool → Bool → List ℕ → List ℕ
if_moved true true text = []
if_moved false false text = []
if_moved before after text = text

-- the lines of the event of this number, which has these changes and finds the group so: a line for each change, of members
-- and of others, and then the group's line if the event as a whole has moved it
abbrev pub watched_lines : ℕ → List Change → Group → List ℕ
watched_lines number changes g =
    flat_map (change_line number) changes
    ++ if_moved (is_group_up g) (is_group_up (group_after changes g)) (group_line number (group_after changes g))

-- the lines of all events from this number on, by the outcome of each
unfoldable pub watched_lines_from : ℕ → List Outcome → Group → List ℕ
watched_lines_from number [] g = []
watched_lines_from number (outcome ∷ outcomes) g =
    watched_lines number (changes_in number outcome.items) g
    ++ watched_lines_from (number + 1) outcomes (group_after (changes_in number outcome.items) g)

-- `watched CHANGES COUNT up|down`
abbrev pub watched_line : ℕ → Group → List ℕ
watched_line changes g = line (codes "watched" ∷ decimal changes ∷ decimal (count_up g) ∷ up_word (is_group_up g) ∷ [])

-- the watched text of a run whose events have these outcomes, one after another, with a group that is so at the start
abbrev pub watched : List Outcome → Group → List ℕ
watched outcomes g =
    watched_lines_from 1 outcomes g ++ watched_line (length (changes_from 1 outcomes)) (group_after (changes_from 1 outcomes) g)
