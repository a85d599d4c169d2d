-- Which edges are followed from a row.
use Rattle.std.specs.Prelude.{Bool}
use Rattle.own_model.specs.declared.schema.Edge.{Edge}
use Rattle.subject_erase.specs.declared.followed.Followed.{Followed}
use Rattle.subject_erase.specs.declared.followed.Followed.TheVariants.{Strikes, Owners}

-- those that are ruled DELETE_ROW, or the owner edges
abbrev pub counts : Followed → Edge → Bool
counts Strikes edge = edge.strike
counts Owners edge = edge.owner
