-- What is held for a row.
use Rattle.std.specs.Prelude.{List}
use Rattle.std.specs.Arc.{arc_value}
use Rattle.own_base.specs.declared.row_name.RowName.{RowName}
use Rattle.own_base.specs.declared.row_name.Subject.{Subject}
use Rattle.owner_index.specs.declared.entry.Reach.{Reach}
use Rattle.owner_index.specs.declared.entry.Reach.TheVariants.{AsOwners, Apart}

-- the row's name, the subjects that own it, and those that reach it
pub record Entry : Type 0 where
  pub name : RowName
  pub owners : List Subject
  pub reach : List Subject

-- those that reach it: where none are kept apart, those that own it
abbrev pub reach_in : List Subject → Reach → List Subject
reach_in owners AsOwners = owners
reach_in owners (Apart shared) = arc_value shared
