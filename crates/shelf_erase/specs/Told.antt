-- What changes tell of the row of a name.
use Rattle.std.specs.Prelude.{◌≡◌, ◌⊎◌, ℕ, ◌<◌, List, Option, None, Some, if◌then◌else◌}
use Rattle.std.specs.Ordering.{is_eq}
use Rattle.own_base.specs.declared.change.Change.{Change}
use Rattle.own_base.specs.declared.row_name.RowName.{RowName}
use Rattle.page_model.specs.Found.{found}
use Rattle.subject_model.specs.NameOrder.{name_cmp}

-- the change of that name
abbrev pub told : List Change → RowName → Option Change
told changes name = found (λ change. change.name) name_cmp name changes

-- a change is put: it is what is told of its row, and of each other row the same is told as before
pub record Puts (change : Change) (old new : List Change) : Type 0 where
  pub found : (name : RowName) → told new name ≡ (if is_eq (name_cmp change.name name) then Some change else told old name)

-- Of each row is told what is to be told of it, or what was told before; and of some rows what is to be told, if there is
-- anything.
pub record Tells (wanted : RowName → Option Change) (Is : RowName → Type 0) (old new : List Change) : Type 0 where
  pub either : (name : RowName) → (told new name ≡ told old name) ⊎ (told new name ≡ wanted name)
  pub these : (name : RowName) → Is name → (wanted name ≡ None) ⊎ (told new name ≡ wanted name)

-- of each row what is to be told
pub record AreTold (wanted : RowName → Option Change) (changes : List Change) : Type 0 where
  pub each : (name : RowName) → told changes name ≡ wanted name

-- a row is one of those that the first so many of some have
pub record OfFirst (IsOf : ℕ → RowName → Type 0) (count : ℕ) (name : RowName) : Type 0 where
  pub number : ℕ
  pub first : number < count
  pub is : IsOf number name
