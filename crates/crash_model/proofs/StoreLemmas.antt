-- Stores that two areas hold.
use Rattle.std.proofs.Common.{◌≡◌, ℕ, List, inl, refl, subst}
use Rattle.own_model.specs.Db.{Db, empty}
use Rattle.disk_model.specs.declared.commit.Commit.{Commit}
use Rattle.disk_model.specs.declared.image.Image.{Image}
use Rattle.disk_model.specs.Area.{Represent, RepresentNothing, Stored}
use Rattle.disk_model.specs.Judged.{IsDatabaseOf}
use Rattle.disk_model.specs.JudgedArea.{Judged, Nothing, Store}
use Rattle.disk_model.specs.StoreOf.{IsStoreOf, IsStoredAs}
use Rattle.disk_model.proofs.JudgedOnce.{judged-once, one-database}
use Rattle.disk_model.proofs.JudgedStores.{represented-judged}
use Rattle.crash_model.specs.StoreIn.{IsStoreIn}

-- what two areas represent is the store that they hold
pub represented-store : (a b : List ℕ) (stored : Stored) (image : Image) (commits : List Commit) (db : Db) (number : ℕ) → Represent a b stored → IsStoredAs stored image commits → IsStoreOf image commits db number
    → IsStoreIn a b db number
represented-store a b stored image commits db number represent are store =
    record { judged = Store image commits; is_judged = represented-judged a b stored image commits db number represent are store; is_of = store }

-- where they represent nothing it is the empty one
pub nothing-store : (a b : List ℕ) → RepresentNothing a b → IsStoreIn a b empty 0
nothing-store a b nothing = record { judged = Nothing; is_judged = inl (nothing, refl); is_of = (refl, refl) }

-- they hold one store at most
pub one-store : (a b : List ℕ) (one other : Db) (n m : ℕ) → IsStoreIn a b one n → IsStoreIn a b other m → (one ≡ other) × (n ≡ m)
one-store a b one other n m first second =
    let same : second.judged ≡ first.judged = judged-once a b second.judged first.judged second.is_judged first.is_judged in
    one-database first.judged one other n m first.is_of (subst (λ (judged : Judged). IsDatabaseOf judged other m) same second.is_of)
