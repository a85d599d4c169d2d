-- Values that fit columns.
use Rattle.std.specs.Prelude.{List, [], ◌∷◌}
use Rattle.own_model.specs.declared.schema.Column.{Column}
use Rattle.own_model.specs.Db.{Row}
use Rattle.state_model.specs.Rows.{IsOfKind, IsStorable}

-- one value for each column, of its kind, which a row can hold
abbrev pub AreFit : List Column → Row → Type 0
AreFit [] [] = Unit {0}
AreFit [] (value ∷ row) = ⊥
AreFit (column ∷ columns) [] = ⊥
AreFit (column ∷ columns) (value ∷ row) = IsOfKind column.kind value × IsStorable value × AreFit columns row
