-- What is found in two areas.
use Rattle.std.proofs.Common.{◌≡◌, inl, inr, ℕ, ◌<◌, List, sym, subst}
use Rattle.own_base.specs.declared.number.Area.{Area}
use Rattle.own_base.specs.declared.number.Area.TheVariants.{A, B}
use Rattle.own_model.specs.Db.{Db}
use Rattle.disk_model.specs.declared.image.Image.{Image}
use Rattle.disk_model.specs.Area.{IsBelow, IsOpened, epoch_of}
use Rattle.disk_model.specs.JudgedArea as found
use Rattle.disk_model.specs.Judged.{IsJudged}
use Rattle.disk_model.proofs.AreaLaws.{says_epoch}
use Rattle.crash_recover.specs.declared.judged.Judged.{Judged}
use Rattle.crash_recover.specs.declared.judged.Judged.TheVariants.{Damaged, Empty, Whole}
use Rattle.crash_recover.specs.declared.judged.LaidCommit.{LaidCommit}
use Rattle.crash_recover.specs.AreaFound.{Holds, IsAreaFound}
use Rattle.crash_recover.specs.Recovered.{IsFound, IsWhole}

-- an area that isn't opened is below any
pub shut_below : (other : List ℕ) (epoch : ℕ) → (IsOpened other → ⊥) → IsBelow other epoch
shut_below other epoch shut opened = absurd (shut opened)

-- one of a lower epoch
pub lower_below : (one other : List ℕ) (m n : ℕ) → m ≡ epoch_of one → n ≡ epoch_of other → n < m → IsBelow other (epoch_of one)
lower_below one other m n of_one of_other lower opened = subst (λ (m : ℕ). epoch_of other < m) of_one (subst (λ (n : ℕ). n < m) of_other lower)

below_of : (one other : List ℕ) (epoch : ℕ) (image : Image) (laid : List LaidCommit) (end : ℕ) (db : Db) (holds : Holds one epoch image laid end db) → IsBelow other (epoch_of one) → IsBelow other holds.stored.epoch
below_of one other epoch image laid end db holds below = subst (IsBelow other) (says_epoch one holds.stored holds.says) below

whole_in_a : (a b : List ℕ) (epoch : ℕ) (image : Image) (laid : List LaidCommit) (end : ℕ) (db : Db) → Holds a epoch image laid end db → IsBelow b (epoch_of a) → IsWhole a b A epoch image laid end db
whole_in_a a b epoch image laid end db holds below = record {
  stored = holds.stored;
  chosen = record { says = holds.says; below = below_of a b epoch image laid end db holds below };
  stored_as = holds.stored_as;
  of_epoch = holds.of_epoch;
  up_to = holds.up_to;
  offsets = holds.offsets;
  store = holds.store;
}

whole_in_b : (a b : List ℕ) (epoch : ℕ) (image : Image) (laid : List LaidCommit) (end : ℕ) (db : Db) → Holds b epoch image laid end db → IsBelow a (epoch_of b) → IsWhole a b B epoch image laid end db
whole_in_b a b epoch image laid end db holds below = record {
  stored = holds.stored;
  chosen = record { says = holds.says; below = below_of b a epoch image laid end db holds below };
  stored_as = holds.stored_as;
  of_epoch = holds.of_epoch;
  up_to = holds.up_to;
  offsets = holds.offsets;
  store = holds.store;
}

-- A is opened, and B isn't or is of a lower epoch
pub found_in_a : (a b : List ℕ) (judged : Judged) → IsOpened a → IsBelow b (epoch_of a) → IsAreaFound A a judged → IsFound a b judged
found_in_a a b Empty opened below is = absurd is
found_in_a a b (Whole area epoch image laid end db) opened below is =
    subst (λ (area : Area). IsWhole a b area epoch image laid end db) (sym is.0) (whole_in_a a b epoch image laid end db is.1 below)
found_in_a a b (Damaged area offset) opened below is =
    subst (λ (area : Area). IsJudged a b (found.Damaged area offset)) (sym is.0) (inr (inl (opened, below, is.1)))

-- B is opened, and A isn't or is of a lower epoch
pub found_in_b : (a b : List ℕ) (judged : Judged) → IsOpened b → IsBelow a (epoch_of b) → IsAreaFound B b judged → IsFound a b judged
found_in_b a b Empty opened below is = absurd is
found_in_b a b (Whole area epoch image laid end db) opened below is =
    subst (λ (area : Area). IsWhole a b area epoch image laid end db) (sym is.0) (whole_in_b a b epoch image laid end db is.1 below)
found_in_b a b (Damaged area offset) opened below is =
    subst (λ (area : Area). IsJudged a b (found.Damaged area offset)) (sym is.0) (inr (inr (inl (opened, below, is.1))))
