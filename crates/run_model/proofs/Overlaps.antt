-- Items that don't overlap.
use Rattle.std.proofs.Common.{◌≡◌, ◌==◌, List, [], ◌∷◌, Bool, true, false, ◌&&◌, ◌||◌, Option, Some, None, refl, sym, ap, ◌∙◌}
use Rattle.std.specs.BTreeMap.{is_at}
use Rattle.std.specs.List.{AllByRecursion as Each, list_any}
use Rattle.std.specs.Ordering.{ordering_reverse}
use Rattle.std.specs.declared.cmp.Ordering.{Ordering}
use Rattle.std.specs.declared.cmp.Ordering.TheVariants.{Less, Equal, Greater}
use Rattle.std.proofs.lemmas.Bool.{eqb-false, true_from_ne_false}
use Rattle.std.proofs.lemmas.Cmp.{alike_right}
use Rattle.own_base.specs.Key.{key_cmp}
use Rattle.own_base.specs.declared.number.TableNo.{TableNo}
use Rattle.own_base.specs.declared.value.Key.{Key}
use Rattle.own_model.specs.declared.footprint.FootItem.{FootItem}
use Rattle.own_model.specs.declared.schema.TableDef.{TableDef}
use Rattle.own_model.specs.Db.{Row, key_of}
use Rattle.own_model.specs.Stored.{has_key, is_equal}
use Rattle.own_model.proofs.KeyOrder.{key_order}
use Rattle.query_model.specs.Footprints.{item}
use Rattle.state_model.proofs.PutRows.{equal_is}
use Rattle.run_model.specs.Agree.{keys_meet, overlaps}

-- a test that no member passes fails for each
pub none_passes : {X : Type 0} (p : X → Bool) (xs : List X) → list_any p xs ≡ false → Each (λ x. p x ≡ false) xs
none_passes p [] none = tt
none_passes p (first ∷ rest) none = by (p first) refl none (none_passes p rest)
  where
    by : (b : Bool) → p first ≡ b → b || list_any p rest ≡ false → (list_any p rest ≡ false → Each (λ x. p x ≡ false) rest) → (p first ≡ false) × Each (λ x. p x ≡ false) rest
    by true is none more = cc
    by false is none more = (is, more none)

second_false : (at meets : Bool) → at ≡ true → (at && meets) && true ≡ false → meets ≡ false
second_false true true is apart = cc
second_false true false is apart = refl
second_false false meets is apart = cc

-- a row written doesn't meet an item of its table that it doesn't overlap
pub apart_key : (number : TableNo) (key : Option Key) (other : FootItem) → overlaps (item number key true) other ≡ false → other.table.0 ≡ number.0 → keys_meet key other.key ≡ false
apart_key number key other apart at =
    second_false (number.0 == other.table.0) (keys_meet key other.key) (true_from_ne_false _ (λ off. eqb-false _ _ off (sym at))) apart

reversed : (o : Ordering) → is_equal (ordering_reverse o) ≡ is_equal o
reversed Less = refl
reversed Equal = refl
reversed Greater = refl

-- whether two keys are the same, whichever is named first
pub keys_back : (one other : Key) → is_equal (key_cmp one other) ≡ is_equal (key_cmp other one)
keys_back one other = ap is_equal (key_order.antisymm one other) ∙ reversed (key_cmp other one)

-- and as the look-up of a key in a map tests it
pub at_key : (key other : Key) → is_at (key_cmp key) other ≡ is_equal (key_cmp other key)
at_key key other = equal_is (key_cmp key other) ∙ keys_back key other

-- a row that is named by a key has it
pub named_key : (table : TableDef) (key : Key) (row : Row) → has_key table key row ≡ keys_meet (Some (key_of table row)) (Some key)
named_key table key row = keys_back (key_of table row) key

-- tied keys meet the same items
pub tied_meet : (key tie : Key) → key_cmp key tie ≡ Equal → (other : Option Key) → keys_meet (Some key) other ≡ keys_meet (Some tie) other
tied_meet key tie tied None = refl
tied_meet key tie tied (Some own) = ap is_equal (alike_right key_order key tie own tied)
