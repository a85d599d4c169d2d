-- What stands in whose way.
use Rattle.std.specs.Prelude.{Bool, true, false}
use Rattle.row_locks.specs.declared.hold.Hold.{Hold}
use Rattle.row_locks.specs.declared.hold.Hold.TheVariants.{Free, Read, Written}

-- whether what is held so stands in the way of who would write, or only read
abbrev pub blocks : Hold → Bool → Bool
blocks Free write = false
blocks Read write = write
blocks Written write = true
