-- Changes each of whose names is below the next rise strictly.
use Rattle.std.proofs.Common.{◌≡◌, Bool, true, false, List, [], ◌∷◌, map, refl, arith}
use Rattle.std.specs.Prelude.{◌&&◌}
use Rattle.std.specs.List.{AllByRecursion}
use Rattle.std.specs.List.Sorted.{IsStrictlySortedBy}
use Rattle.std.specs.Ordering.{is_lt}
use Rattle.std.specs.declared.cmp.Ordering.{Ordering}
use Rattle.std.specs.declared.cmp.Ordering.TheVariants.{Less, Equal, Greater}
use Rattle.own_base.specs.declared.row_name.RowName.{RowName}
use Rattle.subject_model.proofs.RisingNames.{name_order}
use Rattle.disk_model.specs.declared.commit.Put.{Put}
use Rattle.subject_model.specs.NameOrder.{name_cmp}
use Rattle.disk_model.specs.Payload.{AreChanges}
use Rattle.rec_codec.specs.Reading.{are_changes, rises_from}

abbrev names_of : List Put → List RowName
names_of puts = map (λ put. put.name) puts

is_less : (o : Ordering) → is_lt o ≡ true → o ≡ Less
is_less Less is = refl
is_less Equal is = let never : false ≡ true = is in cc
is_less Greater is = let never : false ≡ true = is in cc

both_hold : (a b : Bool) → (a && b) ≡ true → (a ≡ true) × (b ≡ true)
both_hold true true is = (refl, refl)
both_hold true false is = absurd cc
both_hold false b is = absurd cc

below_all : (low first : RowName) (names : List RowName) → name_cmp low first ≡ Less → AllByRecursion (λ name. name_cmp first name ≡ Less) names → AllByRecursion (λ name. name_cmp low name ≡ Less) names
below_all low first [] below all = tt
below_all low first (name ∷ names) below all = (name_order.trans low first name below all.0, below_all low first names below all.1)

rise : (last : RowName) (puts : List Put) → rises_from last puts ≡ true → IsStrictlySortedBy name_cmp (last ∷ names_of puts)
unfolding rises_from IsStrictlySortedBy
rise last [] is = (tt, tt)
rise last (put ∷ puts) is =
    let two = both_hold (is_lt (name_cmp last put.name)) (rises_from put.name puts) is in
    let below = is_less (name_cmp last put.name) two.0 in
    let later = rise put.name puts two.1 in
    ((below, below_all last put.name (names_of puts) below later.0), later)

rises : (last : RowName) (puts : List Put) → IsStrictlySortedBy name_cmp (last ∷ names_of puts) → rises_from last puts ≡ true
unfolding rises_from IsStrictlySortedBy
rises last [] is = refl
rises last (put ∷ puts) is = let first : name_cmp last put.name ≡ Less = is.0.0 in rw (first, rises put.name puts is.1) refl

pub changes-found : (puts : List Put) → are_changes puts ≡ true → AreChanges puts
unfolding are_changes
changes-found [] is = absurd cc
changes-found (put ∷ puts) is = record { some = omega arith; rising = rise put.name puts is }

pub changes-only : (puts : List Put) → AreChanges puts → are_changes puts ≡ true
unfolding are_changes
changes-only [] is = let some = is.some in absurd (omega arith)
changes-only (put ∷ puts) is = rises put.name puts is.rising
