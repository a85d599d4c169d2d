-- What becomes of an area that is filled.
use Rattle.std.specs.Prelude.{ℕ, ◌<◌, ◌⊎◌, List}
use Rattle.disk_model.specs.Area.{IsOpened, Says, Stored}

-- it isn't opened yet, or it says this
abbrev pub IsFilling : Stored → List ℕ → Type 0
IsFilling stored bytes = (¬ IsOpened bytes) ⊎ Says bytes stored

-- it says something, under a lower epoch than this
pub record SaysLess (bytes : List ℕ) (epoch : ℕ) : Type 0 where
  pub stored : Stored
  pub says : Says bytes stored
  pub lower : stored.epoch < epoch
