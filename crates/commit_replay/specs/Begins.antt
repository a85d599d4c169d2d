-- What a store begins with.
use Rattle.std.specs.Prelude.{Option, Some, None, Result, Ok, Err}
use Rattle.own_model.specs.Db.{Db}
use Rattle.disk_model.specs.declared.image.Image.{Image}
use Rattle.disk_model.specs.Lawful.{IsLawfulImage}

-- the database of an image; or it is of none; or memory was refused
abbrev pub Begins : {E : Type 0} → Image → Result (Option Db) E → Type 0
Begins image (Ok (Some db)) = IsLawfulImage image db
Begins image (Ok None) = (db : Db) → IsLawfulImage image db → ⊥
Begins image (Err refused) = Unit {0}
