-- Each table has its list of rows.
use Rattle.std.proofs.Common.{◌≡◌, List, [], ◌∷◌, length, suc, refl, ap}
use Rattle.own_model.specs.declared.schema.TableDef.{TableDef}
use Rattle.own_model.specs.Db.{AreRising, Row}

-- so there are as many lists as tables
pub length-rising : (tables : List TableDef) (rows : List (List Row)) → AreRising tables rows → length rows ≡ length tables
length-rising [] [] rising = refl
length-rising [] (one ∷ rows) rising = absurd rising
length-rising (table ∷ tables) [] rising = absurd rising
length-rising (table ∷ tables) (one ∷ rows) rising = ap suc (length-rising tables rows rising.1)
