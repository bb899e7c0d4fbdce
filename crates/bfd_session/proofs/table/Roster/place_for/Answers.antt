-- As many discriminators are lower as the partition says.
use Rattle.std.proofs.Common.{tests}
use Rattle.bfd_session.proofs.Common.{◌≡◌, ◌∙◌, ℕ, ap, nat_lt, map, rules, discr_of}
use Rattle.std.proofs.lemmas.Fn.{always_returns_same}
use Rattle.bfd_demux.specs.Table.{how_many}
use Rattle.bfd_demux.proofs.Once.{how_many-map}
use Rattle.bfd_session.proofs.Changes.{discrs_up, lower_counted}
use Rattle.bfd_session.proofs.table.Roster.place_for.Goals as goal

pub returns-clause-value : goal.returns-clause-value
returns-clause-value c =
    let same : c.deref.result.now ≡ map discr_of c.args.self.now =
    c.deref.ensures.value ∙ c.self.invariant ∙ ap (map discr_of) c.self.view_is in
    lower_counted (λ (n : ℕ). n) c.deref.result.now c.args.discr c.partition_point.result c.partition_point.ensures.bound
    (rw same (discrs_up c.args.self.now c.requires))
    (c.partition_point.ensures.partitioned (λ n. nat_lt n c.args.discr) (always_returns_same _ _ _ (λ a r f k. search (rules, tests))))
    ∙ ap (how_many (λ (n : ℕ). nat_lt n c.args.discr)) same ∙ how_many-map (λ (n : ℕ). nat_lt n c.args.discr) discr_of c.args.self.now
