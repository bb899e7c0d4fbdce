-- Link groups: sessions of which a number must be Up (the use that RFC 7130 makes of a group's member links, without its own
-- encapsulation).
use Rattle.std.specs.Prelude.{ℕ, Bool, ◌==◌, if◌then◌else◌, List, map, fold, count_by, nat_le}
use Rattle.bfd_rules.specs.Quantities.{is_up}
use Rattle.bfd_watch.specs.declared.change.Change.{Change}
use Rattle.bfd_watch.specs.declared.group.Member.{Member}

-- a group, as its callers see it: how many of its members must be Up, and its members
pub record Group : Type 0 where
  pub need : ℕ
  pub members : List Member

abbrev pub group : ℕ → List Member → Group
group need members = record { need = need; members = members }

-- a member after a change: it is Up if its own session has come Up, and isn't if that has left Up
abbrev pub heard : Member → Change → Member
heard member change = record member { up = if change.discr == member.discr then is_up change.«new» else member.up }

-- a member after changes, one after another
abbrev pub member_after : List Change → Member → Member
member_after changes member = fold heard member changes

-- a group after changes
abbrev pub group_after : List Change → Group → Group
group_after changes g = group g.need (map (member_after changes) g.members)

-- how many of its members are Up
abbrev pub count_up : Group → ℕ
count_up g = count_by (λ member. member.up) g.members

-- the group is up: at least as many as it needs
abbrev pub is_group_up : Group → Bool
is_group_up g = nat_le g.need (count_up g)
