-- The changes that a history reports.
use Rattle.std.specs.Prelude.{ℕ, ◌+◌, List, [], ◌∷◌, ◌++◌, Option, None, Some}
use Rattle.std.specs.List.{filter_map}
use Rattle.bfd_rules.specs.declared.outputs.Out.{Out}
use Rattle.bfd_rules.specs.declared.outputs.Out.TheVariants.{Changed, Sent}
use Rattle.bfd_session.specs.declared.event.SessionConfig.{SessionConfig}
use Rattle.bfd_session.specs.Alone.{Outcome}
use Rattle.bfd_shard.specs.declared.entry.ShardEvent.{ShardEvent}
use Rattle.bfd_shard.specs.History.{last_tick, runs, outcome_of}
use Rattle.bfd_watch.specs.declared.change.Change.{Change}

-- the change that an output of the event of this number reports; a packet that is sent is no change
abbrev pub change_in : ℕ → Out → Option Change
change_in number (Changed discr before after diag) =
    Some (record { number = number; discr = discr; «old» = before; «new» = after; diag = diag })
change_in number (Sent discr datagram) = None

-- the changes that the outputs of one event report, in their order
abbrev pub changes_in : ℕ → List Out → List Change
changes_in number items = filter_map (change_in number) items

-- the changes of events of which the first has this number, by the outcome of each
unfoldable pub changes_from : ℕ → List Outcome → List Change
changes_from number [] = []
changes_from number (outcome ∷ outcomes) = changes_in number outcome.items ++ changes_from (number + 1) outcomes

-- the outcome of each event that comes after these of the past: it finds the sessions as the past has left them
unfoldable pub outcomes_after : List SessionConfig → List ShardEvent → List ShardEvent → List Outcome
outcomes_after configs past [] = []
outcomes_after configs past (event ∷ events) =
    outcome_of (last_tick past) event (runs past configs) ∷ outcomes_after configs (past ++ event ∷ []) events

-- the outcome of each event of a history
abbrev pub history_outcomes : List SessionConfig → List ShardEvent → List Outcome
history_outcomes configs events = outcomes_after configs [] events

-- the changes of a history of a shard with these sessions, in order, each with the number of its event, from 1
abbrev pub history_changes : List SessionConfig → List ShardEvent → List Change
history_changes configs events = changes_from 1 (history_outcomes configs events)
