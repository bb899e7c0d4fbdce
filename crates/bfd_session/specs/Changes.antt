-- Sessions and reflectors that are added and removed.
use Rattle.std.specs.Prelude.{ℕ, not, nat_lt, ◌==◌, List}
use Rattle.std.specs.List.{filter, insert}
use Rattle.bfd_sbfd.specs.declared.reflecting.Reflector.{Reflector}
use Rattle.bfd_demux.specs.Table.{how_many}
use Rattle.bfd_session.specs.declared.event.SessionConfig.{SessionConfig}
use Rattle.bfd_session.specs.Kinds.{discr_of}
use Rattle.bfd_session.specs.Tables.{Members, members}

-- where a session with this discriminator stands: after those with a lower one
abbrev pub place_for : ℕ → List SessionConfig → ℕ
place_for discr configs = how_many (λ c. nat_lt (discr_of c) discr) configs

-- where a reflector with this discriminator stands
abbrev pub pool_place_for : ℕ → List Reflector → ℕ
pool_place_for discr pool = how_many (λ reflector. nat_lt reflector.discr discr) pool

-- the members with one more session
abbrev pub with_session : SessionConfig → Members → Members
with_session config m = members (insert m.configs (place_for (discr_of config) m.configs) config) m.pool

-- without the session of a discriminator
abbrev pub without_session : ℕ → Members → Members
without_session discr m = members (filter (λ c. not (discr_of c == discr)) m.configs) m.pool

-- the members with one more reflector
abbrev pub with_pooled : Reflector → Members → Members
with_pooled reflector m = members m.configs (insert m.pool (pool_place_for reflector.discr m.pool) reflector)

-- without the reflector of a discriminator
abbrev pub without_pooled : ℕ → Members → Members
without_pooled discr m = members m.configs (filter (λ reflector. not (reflector.discr == discr)) m.pool)
