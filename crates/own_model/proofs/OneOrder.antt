-- That the keys of each table rise has one proof at most.
use Rattle.std.specs.Prelude.{List, [], ◌∷◌}
use Rattle.std.specs.Coded.{Unit-prop, ×_prop}
use Rattle.std.specs.List.Sorted.{IsStrictlySortedBy-prop}
use Rattle.own_model.specs.declared.schema.TableDef.{TableDef}
use Rattle.own_model.specs.Db.{AreRising, Db, IsOrdered, Row}

pub rising-prop : (tables : List TableDef) (rows : List (List Row)) → IsProp (AreRising tables rows)
rising-prop [] [] = Unit-prop
rising-prop [] (own ∷ rows) = λ one other. absurd one
rising-prop (table ∷ tables) [] = λ one other. absurd one
rising-prop (table ∷ tables) (own ∷ rows) = ×_prop (IsStrictlySortedBy-prop _ _) (rising-prop tables rows)

pub ordered-prop : (db : Db) → IsProp (IsOrdered db)
ordered-prop db = λ one other i. record { rising = rising-prop db.schema.tables db.rows one.rising other.rising i }
