-- Where a journal stands when the store of two areas is opened.
use Rattle.std.specs.Prelude.{◌≡◌, ◌⊎◌, ℕ, List, length}
use Rattle.own_base.specs.declared.number.Area.{Area}
use Rattle.own_base.specs.declared.number.Area.TheVariants.{A}
use Rattle.outer_world.specs.OtherArea.{bytes_in, other_of}
use Rattle.disk_model.specs.Area.{IsChosen, RepresentNothing, Stored, in_front}

-- two areas represent nothing, and it begins in A with epoch 1, behind the 16 bytes in front of an image, and the image of the
-- empty store with its gate, 14 bytes
pub record BeginsAt (a b : List ℕ) (area : Area) (epoch end : ℕ) : Type 0 where
  pub nothing : RepresentNothing a b
  pub in_area : area ≡ A
  pub of_epoch : epoch ≡ 1
  pub up_to : end ≡ 30

-- or it goes on in the area that is chosen of the two, with the epoch and the end of what that says
pub record GoesOnAt (a b : List ℕ) (area : Area) (epoch end : ℕ) : Type 0 where
  pub stored : Stored
  pub chosen : IsChosen stored (bytes_in area a b) (bytes_in (other_of area) a b)
  pub of_epoch : epoch ≡ stored.epoch
  pub up_to : end ≡ length (in_front stored)

-- the store of two areas is opened with a journal of this area, this epoch and this end of its records
abbrev pub OpensAt : List ℕ → List ℕ → Area → ℕ → ℕ → Type 0
OpensAt a b area epoch end = BeginsAt a b area epoch end ⊎ GoesOnAt a b area epoch end
