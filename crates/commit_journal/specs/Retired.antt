-- What becomes of an area that is retired.
use Rattle.std.specs.Prelude.{◌≡◌, ℕ, List}
use Rattle.disk_model.specs.Area.{IsOpened, epoch_of}

-- where it is still opened, it was so before, and of the same epoch
pub record IsRetiring (old new : List ℕ) : Type 0 where
  pub opened : IsOpened new → IsOpened old
  pub epoch : IsOpened new → epoch_of new ≡ epoch_of old
