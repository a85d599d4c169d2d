-- What the bytes of two areas are judged to be: no store yet, a store, or damaged at the first place that is unlawful.
use Rattle.std.specs.Prelude.{◌≡◌, ℕ, List, ◌⊎◌}
use Rattle.own_base.specs.declared.number.Area.TheVariants.{A, B}
use Rattle.own_model.specs.Db.{Db, empty}
use Rattle.disk_model.specs.Area.{IsBelow, IsOpened, RepresentNothing, epoch_of}
use Rattle.disk_model.specs.JudgedArea.{Damaged, IsAreaJudged, Judged, Nothing, Store}
use Rattle.disk_model.specs.StoreOf.{IsStoreOf}

-- neither area is opened; or the one is judged that is opened, of two the one of the higher epoch; of two of one epoch, B is damaged
abbrev pub IsJudged : List ℕ → List ℕ → Judged → Type 0
IsJudged a b judged =
    (RepresentNothing a b × (judged ≡ Nothing))
    ⊎ ((IsOpened a × IsBelow b (epoch_of a) × IsAreaJudged A a judged)
    ⊎ ((IsOpened b × IsBelow a (epoch_of b) × IsAreaJudged B b judged)
    ⊎ (IsOpened a × IsOpened b × (epoch_of a ≡ epoch_of b) × (judged ≡ Damaged B 1))))

-- the database that a judgement tells of, and how many commits made it
abbrev pub IsDatabaseOf : Judged → Db → ℕ → Type 0
IsDatabaseOf Nothing db number = (db ≡ empty) × (number ≡ 0)
IsDatabaseOf (Store image commits) db number = IsStoreOf image commits db number
IsDatabaseOf (Damaged area offset) db number = ⊥
