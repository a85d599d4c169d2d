-- What is kept for the views of a store shows them.
use Rattle.std.specs.Prelude.{List}
use Rattle.own_model.specs.Db.{Db}
use Rattle.state_model.specs.Sound.{IsWellFormed}
use Rattle.view_deltas.specs.Kept.{StandsFor}
use Rattle.view_deltas.specs.declared.kept_view.KeptView.{KeptView}

-- for each view what is kept of the rows as they are, where the database is one that statements leave
abbrev pub ShowsViews : Db → List KeptView → Type 0
ShowsViews db kept = IsWellFormed db → StandsFor db kept
