-- A database agrees with itself on all items.
use Rattle.std.proofs.Common.{List, [], ◌∷◌, refl}
use Rattle.std.specs.List.{AllByRecursion}
use Rattle.own_model.specs.declared.footprint.FootItem.{FootItem}
use Rattle.own_model.specs.Db.{Db}
use Rattle.run_model.specs.Agree.{Agree, AgreeOn}
use Rattle.run_model.proofs.TableRows.{agree_itself}

-- what is so of each is so of all of a list
pub each_of : {X : Type 0} (P : X → Type 0) → ((x : X) → P x) → (xs : List X) → AllByRecursion P xs
each_of P all [] = tt
each_of P all (x ∷ xs) = (all x, each_of P all xs)

pub agree-same : (items : List FootItem) (db : Db) → Agree items db db
agree-same items db = record { schema = refl; on = each_of (AgreeOn db db) (agree_itself db) items }
