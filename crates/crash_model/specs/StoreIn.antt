-- The store of two areas.
use Rattle.std.specs.Prelude.{ℕ, List}
use Rattle.own_model.specs.Db.{Db}
use Rattle.disk_model.specs.Judged.{IsDatabaseOf, IsJudged}
use Rattle.disk_model.specs.JudgedArea.{Judged}

-- two areas hold the store of this database, which so many commits made: they aren't damaged, and what they are judged to be tells of it
pub record IsStoreIn (a b : List ℕ) (db : Db) (number : ℕ) : Type 0 where
  pub judged : Judged
  pub is_judged : IsJudged a b judged
  pub is_of : IsDatabaseOf judged db number
