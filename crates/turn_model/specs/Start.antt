-- What the opening of a store found, and left.
use Rattle.std.specs.Prelude.{ℕ, Bool, false}
use Rattle.own_base.specs.declared.number.Area.{Area}
use Rattle.own_base.specs.declared.number.Area.TheVariants.{A}
use Rattle.own_model.specs.Db.{Db, empty}

-- The database that was opened and how many commits had made it; in which area its journal stood, of which epoch, and where
-- it ended; and how many faults the disk had counted, at which moment it was, and whether it was honest, when the opening was done.
pub record Start : Type 0 where
  pub base : Db
  pub commits : ℕ
  pub area : Area
  pub epoch : ℕ
  pub end : ℕ
  pub faults : ℕ
  pub moment : ℕ
  pub honest : Bool

-- of no store
abbrev pub nothing : Start
nothing = record { base = empty; commits = 0; area = A; epoch = 0; end = 0; faults = 0; moment = 0; honest = false }
