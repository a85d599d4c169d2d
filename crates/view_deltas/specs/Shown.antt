-- What a view that isn't grouped shows of a row of its source.
use Rattle.std.specs.Prelude.{Option, None, Some, if◌then◌else◌}
use Rattle.own_model.specs.declared.bound.BoundSelect.{BoundSelect}
use Rattle.own_model.specs.Db.{Row}
use Rattle.query_model.specs.Query.{projected}
use Rattle.query_model.specs.Truth.{keeps}

-- its items, where WHERE keeps the row
unfoldable pub shown_of : BoundSelect → Row → Option Row
shown_of query row = if keeps query.cond row then Some (projected query.items row) else None
