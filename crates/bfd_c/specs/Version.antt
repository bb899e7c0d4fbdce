-- The version of the library: its major part times 65,536, and its minor part.
use Rattle.std.specs.Prelude.{ℕ, ◌+◌, ◌*◌}

abbrev pub version : ℕ
version = 2 * 65536 + 0
