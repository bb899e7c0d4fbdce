-- The watched text with one more event.
use Rattle.std.proofs.Common.{◌≡◌, ℕ, ◌+◌, refl, ap, List, [], ◌∷◌, ◌++◌, length, map, append_assoc, append-nil, arith}
use Rattle.std.proofs.lemmas.List.{map-id}
use Rattle.bfd_session.specs.Alone.{Outcome}
use Rattle.bfd_watch.specs.declared.change.Change.{Change}
use Rattle.bfd_watch.specs.declared.group.Member.{Member}
use Rattle.bfd_watch.specs.Changes.{changes_in, changes_from}
use Rattle.bfd_watch.specs.Groups.{Group, group, heard, member_after, group_after}
use Rattle.bfd_watch.specs.Watched.{watched_lines, watched_lines_from}
use Rattle.bfd_watch.proofs.ChangeLines.{from_more}

-- no change leaves a group as it is
pub none_heard : (g : Group) → group_after [] g ≡ g
none_heard g = ap (group g.need) (map-id g.members)

-- changes in two parts

member_twice : (cs ds : List Change) (m : Member) → member_after (cs ++ ds) m ≡ member_after ds (member_after cs m)
member_twice [] ds m = refl
member_twice (c ∷ cs) ds m = member_twice cs ds (heard m c)

members_twice : (cs ds : List Change) (ms : List Member)
    → map (member_after (cs ++ ds)) ms ≡ map (member_after ds) (map (member_after cs) ms)
members_twice cs ds [] = refl
members_twice cs ds (m ∷ ms) = cc (member_twice cs ds m, members_twice cs ds ms)

pub group_twice : (cs ds : List Change) (g : Group) → group_after (cs ++ ds) g ≡ group_after ds (group_after cs g)
group_twice cs ds g = cc (members_twice cs ds g.members)

-- one more event

first : (n : ℕ) (o : Outcome) (g : Group) → watched_lines_from n (o ∷ []) g
    ≡ watched_lines (n + 0) (changes_in (n + 0) o.items) (group_after [] g)
unfolding watched_lines_from
first n o g =
    let same : n ≡ n + 0 = omega arith in
    cc (append-nil (watched_lines n (changes_in n o.items) g), none_heard g)

more_from : (n : ℕ) (os : List Outcome) (o : Outcome) (g : Group) → watched_lines_from n (os ++ o ∷ []) g
    ≡ watched_lines_from n os g ++ watched_lines (n + length os) (changes_in (n + length os) o.items) (group_after (changes_from n os) g)
unfolding watched_lines_from changes_from
more_from n [] o g = first n o g
more_from n (x ∷ os) o g =
    let here : List Change = changes_in n x.items in
    let next : n + 1 + length os ≡ n + length (x ∷ os) = omega arith in
    cc (
      more_from (n + 1) os o (group_after here g),
      group_twice here (changes_from (n + 1) os) g,
      append_assoc (watched_lines n here g) (watched_lines_from (n + 1) os (group_after here g))
          (watched_lines (n + length (x ∷ os)) (changes_in (n + length (x ∷ os)) o.items)
          (group_after (here ++ changes_from (n + 1) os) g)),
    )

pub lines_more : (os : List Outcome) (o : Outcome) (g : Group) → watched_lines_from 1 (os ++ o ∷ []) g
    ≡ watched_lines_from 1 os g ++ watched_lines (length os + 1) (changes_in (length os + 1) o.items) (group_after (changes_from 1 os) g)
lines_more os o g =
    let number : 1 + length os ≡ length os + 1 = omega arith in
    cc (more_from 1 os o g)

pub group_more : (os : List Outcome) (o : Outcome) (g : Group) → group_after (changes_from 1 (os ++ o ∷ [])) g
    ≡ group_after (changes_in (length os + 1) o.items) (group_after (changes_from 1 os) g)
group_more os o g =
    let number : 1 + length os ≡ length os + 1 = omega arith in
    cc (from_more 1 os o, group_twice (changes_from 1 os) (changes_in (length os + 1) o.items) g)
