-- The table: sessions and reflectors, each ascending by discriminator.
use Rattle.std.specs.Prelude.{ℕ, Bool, true, false, ◌==◌, nat_lt, List, [], ◌∷◌, ◌++◌, map, find, Option, Some, None, is_some}
use Rattle.std.specs.Prelude.{if◌then◌else◌}
use Rattle.std.specs.List.{list_any}
use Rattle.bfd_packet.specs.KeyChain.{KeyChain}
use Rattle.bfd_packet.specs.declared.keys.Key.{Key}
use Rattle.bfd_sbfd.specs.declared.reflecting.Reflector.{Reflector}
use Rattle.bfd_demux.specs.declared.row.RowKind.{RowKind}
use Rattle.bfd_demux.specs.Rows.{same_selector as same_kind}
use Rattle.bfd_session.specs.declared.event.SessionConfig.{SessionConfig}
use Rattle.bfd_session.specs.declared.event.SessionConfig.TheVariants.{PointToPoint}
use Rattle.bfd_session.specs.Kinds.{discr_of}
use Rattle.bfd_session.specs.Rows.{row_of, same_selector}

-- one more in an ascending list: it goes before the first with a greater number
abbrev pub insert_by : {X : Type 0} → (X → ℕ) → X → List X → List X
insert_by number x [] = x ∷ []
insert_by number x (y ∷ ys) = if nat_lt (number x) (number y) then x ∷ y ∷ ys else y ∷ insert_by number x ys

-- one of them has this number
abbrev pub has_number : {X : Type 0} → (X → ℕ) → ℕ → List X → Bool
has_number number n xs = list_any (λ x. n == number x) xs

-- each with its number
abbrev pub by_number : {X : Type 0} → (X → ℕ) → List X → List (ℕ × X)
by_number number xs = map (λ x. (number x, x)) xs

-- ---- reflectors

-- the discriminator of a reflector
abbrev pub reflector_discr : Reflector → ℕ
reflector_discr reflector = reflector.discr

-- a reflector has this discriminator
abbrev pub has_reflector : ℕ → List Reflector → Bool
has_reflector discr pool = has_number reflector_discr discr pool

-- one more reflector
abbrev pub pooled : Reflector → List Reflector → List Reflector
pooled reflector pool = insert_by reflector_discr reflector pool

-- reflectors, each with its discriminator
abbrev pub pool_by_discr : List Reflector → List (ℕ × Reflector)
pool_by_discr pool = by_number reflector_discr pool

-- ---- sessions

-- a session has this discriminator
abbrev pub has_discr : ℕ → List SessionConfig → Bool
has_discr discr configs = has_number discr_of discr configs

-- a session has this kind and these selecting addresses
abbrev pub has_selector : RowKind → List SessionConfig → Bool
has_selector kind configs = list_any (λ c. same_kind kind (row_of c).kind) configs

-- a session has the same selecting addresses as this one
abbrev pub has_place : SessionConfig → List SessionConfig → Bool
has_place config configs = list_any (same_selector config) configs

-- one more session
abbrev pub inserted : SessionConfig → List SessionConfig → List SessionConfig
inserted config configs = insert_by discr_of config configs

-- sessions, each with its discriminator
abbrev pub by_discr : List SessionConfig → List (ℕ × SessionConfig)
by_discr configs = by_number discr_of configs

-- ---- keys, which only a point-to-point session may have

-- a session that may have keys
abbrev pub is_point : Option SessionConfig → Bool
is_point (Some (PointToPoint c)) = true
is_point config = false

-- the session of this discriminator may have keys
abbrev pub has_point : ℕ → List SessionConfig → Bool
has_point discr configs = is_point (find (λ c. discr == discr_of c) configs)

-- the keys of this session
abbrev pub keys_in : Option SessionConfig → Option KeyChain
keys_in (Some (PointToPoint c)) = c.keys
keys_in config = None

-- the keys of the session of this discriminator
abbrev pub keys_of : ℕ → List SessionConfig → Option KeyChain
keys_of discr configs = keys_in (find (λ c. discr == discr_of c) configs)

-- the session of this discriminator has keys
abbrev pub has_keys : ℕ → List SessionConfig → Bool
has_keys discr configs = is_some (keys_of discr configs)

-- the session of this discriminator becomes another
abbrev pub changed : ℕ → (SessionConfig → SessionConfig) → List SessionConfig → List SessionConfig
changed discr f [] = []
changed discr f (c ∷ configs) = if discr == discr_of c then f c ∷ configs else c ∷ changed discr f configs

-- a session with these keys, if it may have some
abbrev pub keyed_with : KeyChain → SessionConfig → SessionConfig
keyed_with keys (PointToPoint c) = PointToPoint (record c { keys = Some keys })
keyed_with keys config = config

-- the session of this discriminator gets these keys
abbrev pub given : ℕ → KeyChain → List SessionConfig → List SessionConfig
given discr keys configs = changed discr (keyed_with keys) configs

-- one more key behind these, if there are some
abbrev pub one_more : Key → Option KeyChain → Option KeyChain
one_more key None = None
one_more key (Some keys) = Some (record keys { list = keys.list ++ key ∷ [] })

-- a session with one more key, if it has some
abbrev pub keyed_more : Key → SessionConfig → SessionConfig
keyed_more key (PointToPoint c) = PointToPoint (record c { keys = one_more key c.keys })
keyed_more key config = config

-- the session of this discriminator gets one more key
abbrev pub given_more : ℕ → Key → List SessionConfig → List SessionConfig
given_more discr key configs = changed discr (keyed_more key) configs
