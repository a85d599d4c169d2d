-- The two kinds of sets: by owner edges alone, or by all.
use Rattle.std.specs.Prelude.{List, Bool}
use Rattle.own_base.specs.declared.row_name.RowName.{RowName}
use Rattle.own_model.specs.declared.schema.Edge.{Edge}
use Rattle.own_model.specs.Db.{Db}
use Rattle.subject_model.specs.LocalEquation.{counts_for_owners, counts_for_reach}
use Rattle.subject_model.specs.Owners.{owners, reach}
use Rattle.owner_sets.specs.declared.which.Which.{Which}
use Rattle.owner_sets.specs.declared.which.Which.TheVariants.{Owners, Reach}

-- whether an edge counts
abbrev pub counts : Which → Edge → Bool
counts Owners = counts_for_owners
counts Reach = counts_for_reach

-- the subjects that are listed for a row
abbrev pub listed : Which → Db → RowName → List RowName
listed Owners = owners
listed Reach = reach
