-- A link group over the sessions of a script, and what is reported of it.
use Rattle.std.specs.Prelude.{ℕ, ◌==◌, ◌&&◌, Bool, not, Option, List, map, find}
use Rattle.std.specs.List.{list_any}
use Rattle.bfd_rules.specs.Quantities.{is_up}
use Rattle.bfd_session.specs.declared.event.SessionConfig.{SessionConfig}
use Rattle.bfd_session.specs.Kinds.{Running, discr_of}
use Rattle.bfd_script.specs.Reading.{Lists}
use Rattle.bfd_script.specs.Rows.{has_discr}
use Rattle.bfd_watch.specs.declared.group.Member.{Member}
use Rattle.bfd_watch.specs.Groups.{Group, group}
use Rattle.bfd_watch.specs.Watched.{watched}
use Rattle.bfd_instance.specs.World.{opened, world}

-- the session with this discriminator is Up
abbrev pub is_up_in : ℕ → List Running → Bool
is_up_in discr sessions = list_any (λ s. (discr == discr_of s.config) && is_up s.vars.state) sessions

-- a member of a group, as its session stands
abbrev pub member_in : List Running → ℕ → Member
member_in sessions discr = record { discr = discr; up = is_up_in discr sessions }

-- the group of these members, of which so many must be Up, as the sessions stand
abbrev pub group_in : ℕ → List ℕ → List Running → Group
group_in need members sessions = group need (map (member_in sessions) members)

-- the watched text of a replay of the script, with the group as the sessions stand at the start: a head is Up then (RFC 8562)
abbrev pub watched_of : ℕ → List ℕ → Lists → List ℕ
watched_of need members script = watched (world script) (group_in need members (opened script.configs script.pool).sessions)

-- the first of these members that names no session
abbrev pub first_unknown : List ℕ → List SessionConfig → Option ℕ
first_unknown members configs = find (λ discr. not (has_discr discr configs)) members
