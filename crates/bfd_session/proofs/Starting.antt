-- What a session starts with: a point-to-point one is Down, so without an Echo function.
use Rattle.bfd_session.proofs.Common.{◌≡◌, ◌&&◌, Bool, true, false, refl, None, IsTrue, ◌↔◌, List, [], ◌∷◌, map, Down, Config, Vars, begins}
use Rattle.bfd_session.proofs.Common.{Machine, initial, made, is_echo_wanted, SessionConfig, should_echo, point_of, IsPointSound, started}
use Rattle.bfd_session.proofs.Common.{configs_of, is_single}
use Rattle.bfd_rules.specs.Sound.{IsSound}
use Rattle.bfd_session.proofs.Renewing.{drawn_state}

made_down : (c : Config) → (made c).state ≡ Down
unfolding made
made_down c = drawn_state c.active (begins (initial c)) (initial c)

not_up : (single wanted : Bool) → (single && (false && wanted)) ≡ false
not_up true wanted = refl
not_up false wanted = refl

-- a session that is Down has no Echo function
pub down_silent : (c : Config) (v : Vars) → v.state ≡ Down → should_echo c v ≡ false
down_silent c v down = cc (not_up (is_single c.role) (is_echo_wanted v.echo_every v.remote_min_echo))

neither : (b : Bool) → b ≡ false → false ≡ true ↔ IsTrue b
neither true h = cc
neither false h = (λ x. x, λ x. x)

pub starts_sound : (m : Machine) (c : Config) → m.config ≡ c → m.vars ≡ made c → IsSound m.config m.vars
    → IsPointSound m.config (point_of m None 0)
starts_sound m c config vars sound = record {
  vars = sound;
  echoes = neither (should_echo m.config m.vars) (cc (down_silent c (made c) (made_down c)));
  moments = tt;
}

-- sessions that have started have the configurations that they were given
pub started_configs : (cs : List SessionConfig) → configs_of (map started cs) ≡ cs
started_configs [] = refl
started_configs (c ∷ cs) = cc (started_configs cs)
