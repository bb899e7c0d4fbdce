-- What a handle holds after a session or a reflector was added or removed, and the code. It is 7 if the discriminator is taken, 8 if
-- the selecting addresses are, 9 if there are 65,536 already, and 10 if none has the discriminator.
use Rattle.std.specs.Prelude.{ℕ, ◌==◌, ◌&&◌, nat_le, nat_lt, Option, None, Some, List, if◌then◌else◌}
use Rattle.bfd_rules.specs.Sound.{is_interval}
use Rattle.bfd_demux.specs.declared.fault.AddFault.{AddFault}
use Rattle.bfd_demux.specs.declared.fault.AddFault.TheVariants.{TooMany, ZeroDiscr, SameDiscr, SameAddresses, Memory}
use Rattle.bfd_sbfd.specs.declared.reflecting.Reflector.{Reflector}
use Rattle.bfd_session.specs.declared.event.SessionConfig.{SessionConfig}
use Rattle.bfd_instance.specs.World.{World, session_fault, knows_reflector, knows_session, reflector_fault, world_with_reflector}
use Rattle.bfd_instance.specs.World.{world_with, world_without_reflector, world_without}
use Rattle.bfd_c.specs.declared.records.kept.Record.{Record}
use Rattle.bfd_c.specs.Records.{records_with, records_without}
use Rattle.bfd_c.specs.declared.fields.Fields.{Fields}
use Rattle.bfd_c.specs.Engines.{Instance}
use Rattle.bfd_c.specs.Fields.{config_of}
use Rattle.bfd_c.specs.Sizes.{session_size, sized}

-- the code of the fault for which a session or a reflector isn't added
abbrev pub add_code : AddFault → ℕ
add_code TooMany = 9
add_code ZeroDiscr = 3
add_code SameDiscr = 7
add_code SameAddresses = 8
add_code Memory = 2

-- an engine whose world and records become these, unless there is a fault
abbrev pub unless : Option AddFault → World → List Record → Instance → Instance × ℕ
unless None w rs e = (record e { world = w; records = rs }, 0)
unless (Some fault) w rs e = (e, add_code fault)

-- an engine with one more session; without one, a value is outside its range
abbrev pub session_added : Option SessionConfig → Instance → Instance × ℕ
session_added None e = (e, 3)
session_added (Some config) e = unless (session_fault config e.world) (world_with config e.world) (records_with config e.world e.records) e

-- with the session of these fields
abbrev pub fields_added : Fields → Instance → Instance × ℕ
fields_added f e = sized (f.size == session_size) (λ code. (e, code)) (session_added (config_of f) e)

-- without the session of this discriminator
abbrev pub session_removed : ℕ → Instance → Instance × ℕ
session_removed discr e = if knows_session discr e.world then
    (record e { world = world_without discr e.world; records = records_without discr e.world e.records }, 0) else (e, 10)

-- the reflector of these values: its discriminator, its Required Min RX Interval, and 1 if it is Up
abbrev pub reflector_from_c : ℕ → ℕ → ℕ → Option Reflector
reflector_from_c discr rx up =
    if nat_le 1 discr && (is_interval rx && nat_lt up 2) then Some (record { discr = discr; rx = rx; up = up == 1 }) else None

-- the same with one more reflector, and without one
abbrev pub reflector_added : Option Reflector → Instance → Instance × ℕ
reflector_added None e = (e, 3)
reflector_added (Some reflector) e = unless (reflector_fault reflector e.world) (world_with_reflector reflector e.world) e.records e

abbrev pub reflector_removed : ℕ → Instance → Instance × ℕ
reflector_removed discr e = if knows_reflector discr e.world then
    (record e { world = world_without_reflector discr e.world }, 0) else (e, 10)
