-- Sessions in a list: which accepts what is asked of it, and what keeps their configurations.
use Rattle.bfd_session.proofs.Common.{◌≡◌, ℕ, List, [], ◌∷◌, map, get_or, refl, Event, Running, configs_of, CanTake, Stands}
use Rattle.std.proofs.lemmas.Option.{get_or_from_slice_get}
use Rattle.bfd_session.specs.Alone.{ticked}

-- the session at a place accepts what was asked of it
pub takes_at : (ss : List Running) (k : ℕ) (event : Event) (st : Stands ss k event) (d : Running) → CanTake (get_or ss k d).config event
takes_at ss k event st d = rw (get_or_from_slice_get ss k st.session d st.there) st.takes

-- a tick leaves the configurations
pub ticked_configs : (last : ℕ) (ss : List Running) → configs_of (map (ticked last) ss) ≡ configs_of ss
ticked_configs last [] = refl
ticked_configs last (s ∷ ss) = cc (ticked_configs last ss)
