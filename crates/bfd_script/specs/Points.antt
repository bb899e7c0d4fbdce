-- The table line `p2p DISCR single|multi IFACE LOCAL REMOTE active|passive TX RX MULT ECHO SEED`.
use Rattle.std.specs.Prelude.{◌≤◌, ◌<◌, ◌^◌, ℕ, ◌==◌, Bool, true, false, None, List, [], ◌∷◌, length, codes, IsTrue, Result, Ok, Err}
use Rattle.std.specs.Prelude.{if◌then◌else◌}
use Rattle.std.specs.Str.{bytes_eq}
use Rattle.bfd_rules.specs.Sound.{is_echo_interval}
use Rattle.bfd_rules.specs.declared.config.Role.{Role}
use Rattle.bfd_rules.specs.declared.config.Role.TheVariants.{Single, Multi}
use Rattle.bfd_session.specs.declared.event.SessionConfig.{SessionConfig}
use Rattle.bfd_session.specs.declared.event.SessionConfig.TheVariants.{PointToPoint}
use Rattle.bfd_script.specs.declared.fields.fault.LineFault.{LineFault}
use Rattle.bfd_script.specs.declared.fields.fault.LineFault.TheVariants.{UnknownWord, FieldCount, OutOfRange}
use Rattle.bfd_script.specs.declared.line.points.Ends.{Ends}
use Rattle.bfd_script.specs.declared.line.points.Timing.{Timing}
use Rattle.bfd_script.specs.Fields.{number_in}
use Rattle.bfd_script.specs.Gives.{◌>>=◌}
use Rattle.bfd_script.specs.Values.{IsAddress, address_of}

-- over how many hops
abbrev pub role_of : List ℕ → Result Role LineFault
role_of field =
    if bytes_eq field (codes "single") then Ok Single
    else if bytes_eq field (codes "multi") then Ok Multi
    else Err UnknownWord

-- whether the session sends before it has heard the peer (RFC 5880 section 6.1)
abbrev pub active_of : List ℕ → Result Bool LineFault
active_of field =
    if bytes_eq field (codes "active") then Ok true
    else if bytes_eq field (codes "passive") then Ok false
    else Err UnknownWord

-- the interval of the Echo function: 0, or 10,000 to 60,000,000 over a single hop
abbrev pub echo_of : Role → List ℕ → Result ℕ LineFault
echo_of role field = number_in 0 60000000 field >>= λ every. if is_echo_interval role every then Ok every else Err OutOfRange

-- the first five values
unfoldable pub ends_of : List ℕ → List ℕ → List ℕ → List ℕ → List ℕ → Result Ends LineFault
ends_of discr role iface local remote = do
  discr ← number_in 1 4294967295 discr
  role ← role_of role
  iface ← number_in 0 65535 iface
  local ← address_of local
  remote ← address_of remote
  Ok (record { discr = discr; role = role; iface = iface; local = local; remote = remote })

-- the last six values
unfoldable pub timing_of : Role → List ℕ → List ℕ → List ℕ → List ℕ → List ℕ → List ℕ → Result Timing LineFault
timing_of role mode tx rx mult echo seed = do
  active ← active_of mode
  tx ← number_in 10000 60000000 tx
  rx ← number_in 10000 60000000 rx
  mult ← number_in 1 255 mult
  echo ← echo_of role echo
  seed ← number_in 0 4294967295 seed
  Ok (record { active = active; tx = tx; rx = rx; mult = mult; echo = echo; seed = seed })

-- the last six of the values
abbrev pub timing_fields : Role → List (List ℕ) → Result Timing LineFault
timing_fields role (mode ∷ tx ∷ rx ∷ mult ∷ echo ∷ seed ∷ []) = timing_of role mode tx rx mult echo seed
timing_fields role values = Err FieldCount

-- the session of both parts
abbrev pub config_by : Ends → Timing → SessionConfig
config_by ends timing = PointToPoint (record {
  discr = ends.discr;
  role = ends.role;
  iface = ends.iface;
  local = ends.local;
  remote = ends.remote;
  active = timing.active;
  tx = timing.tx;
  rx = timing.rx;
  mult = timing.mult;
  echo = timing.echo;
  seed = timing.seed;
  keys = None;
})

-- the session of the first five values and the others
abbrev pub point_with : Ends → List (List ℕ) → Result SessionConfig LineFault
point_with ends rest = timing_fields ends.role rest >>= λ timing. Ok (config_by ends timing)

-- the session of the values
abbrev pub point_fields : List (List ℕ) → Result SessionConfig LineFault
point_fields (discr ∷ role ∷ iface ∷ local ∷ remote ∷ rest) = ends_of discr role iface local remote >>= λ ends. point_with ends rest
point_fields values = Err FieldCount

-- the session of a `p2p` line
abbrev pub p2p_row : List (List ℕ) → Result SessionConfig LineFault
p2p_row values = if length values == 11 then point_fields values else Err FieldCount

-- the first five values are in their ranges
pub record AreEnds (ends : Ends) : Type 0 where
  pub discr : 0 < ends.discr
  pub discr_below : ends.discr < 2 ^ 32
  pub iface : ends.iface < 65536
  pub local : IsAddress ends.local
  pub remote : IsAddress ends.remote

-- the last six values are in their ranges
pub record IsTiming (role : Role) (timing : Timing) : Type 0 where
  pub tx_least : 10000 ≤ timing.tx
  pub tx_most : timing.tx ≤ 60000000
  pub rx_least : 10000 ≤ timing.rx
  pub rx_most : timing.rx ≤ 60000000
  pub some_mult : 0 < timing.mult
  pub mult_below : timing.mult < 256
  pub echo_range : IsTrue (is_echo_interval role timing.echo)
  pub seed_below : timing.seed < 2 ^ 32
