-- A look at a session: it settles nothing and changes nothing.
use Rattle.std.specs.Prelude.{ℕ, Option, None, Some, List, slice_get}
use Rattle.bfd_session.specs.Due.{detects}
use Rattle.bfd_session.specs.Kinds.{Running, configs_of}
use Rattle.bfd_session.specs.Rows.{place_of}
use Rattle.bfd_session.specs.Showing.{shown}
use Rattle.bfd_c.specs.declared.records.looking.Look.{Look}
use Rattle.bfd_c.specs.declared.records.kept.Record.{Record}
use Rattle.bfd_instance.specs.World.{World}

-- what is seen of a session with this record: what it shows, when its Detection Time ends, its variables, and the record
abbrev pub look_at : Running → Record → Look
look_at s r = record { shown = shown s.config s.vars; ends = detects s; vars = s.vars; kept = r }

abbrev pub look_by : Option Running → Option Record → Option Look
look_by None r = None
look_by (Some s) None = None
look_by (Some s) (Some r) = Some (look_at s r)

abbrev pub look_in : Option ℕ → World → List Record → Option Look
look_in None w rs = None
look_in (Some place) w rs = look_by (slice_get w.sessions place) (slice_get rs place)

-- that of the session with this discriminator, if there is one
abbrev pub look_of : ℕ → World → List Record → Option Look
look_of discr w rs = look_in (place_of discr (configs_of w.sessions)) w rs
