-- The one row that a condition with `primary key = literal` can keep.
use Rattle.std.proofs.Common.{◌≡◌, ℕ, ◌==◌, List, [], ◌∷◌, Bool, true, false, cond, fold, Option, Some, None, Ordering, map, refl, sym, ap, ◌∙◌, subst}
use Rattle.std.proofs.lemmas.Bool.{eqb-true}
use Rattle.std.specs.declared.cmp.Ordering.TheVariants.{Less, Equal, Greater}
use Rattle.std.specs.List.{filter_map}
use Rattle.std.proofs.lemmas.List.Folds.{fold_stays}
use Rattle.own_base.specs.Key.{key_cmp}
use Rattle.own_base.specs.declared.number.ColNo.{ColNo}
use Rattle.own_base.specs.declared.value.Key.{Key}
use Rattle.own_base.specs.declared.value.Key.TheVariants as as_a_key
use Rattle.own_base.specs.declared.value.Value.{Value}
use Rattle.own_base.specs.declared.value.Value.TheVariants.{Null, Int, Text, Sum}
use Rattle.own_model.specs.declared.bound.BoundCond.{BoundCond, out-BoundCond}
use Rattle.own_model.specs.declared.bound.BoundCond.TheFolds.{fold-BoundCond, fold_out-BoundCond, map-BoundCond}
use Rattle.own_model.specs.declared.bound.BoundCond.TheOpen.{BoundCond-F}
use Rattle.own_model.specs.declared.bound.BoundOperand.{BoundOperand}
use Rattle.own_model.specs.declared.bound.BoundOperand.TheVariants.{Column, Literal}
use Rattle.own_model.specs.declared.condition.Cmp.{Cmp}
use Rattle.own_model.specs.declared.condition.Cmp.TheVariants.{Eq, Ne, Lt, Le, Gt, Ge}
use Rattle.own_model.specs.declared.truth.Truth.{Truth as Answer}
use Rattle.own_model.specs.declared.truth.Truth.TheVariants.{True, False, Unknown}
use Rattle.own_model.specs.Db.{Row, as_key}
use Rattle.query_model.specs.Footprints.{Pinned, compared_key, first_key, literal_key, pinned_by, pinned_step}
use Rattle.query_model.specs.Truth.{cell, compared, comparison, least, lesser, operand, takes, truth, truth_of, truth_step}
use Rattle.query_model.specs.Stored.{IsStored}

-- an AND that began Unknown isn't True
not_true : (parts : List Answer) → fold lesser Unknown parts ≡ True → ⊥
not_true [] holds = let never : Unknown ≡ True = holds in cc
not_true (True ∷ rest) holds = not_true rest holds
not_true (Unknown ∷ rest) holds = not_true rest holds
not_true (False ∷ rest) holds = let never : False ≡ True = sym (fold_stays lesser False (λ part. refl) rest) ∙ holds in cc

-- an AND that is True has no other part
all_true : (first : Answer) (rest : List Answer) → least (first ∷ rest) ≡ True → (first ≡ True) × (least rest ≡ True)
all_true True rest holds = (refl, holds)
all_true False rest holds = let never : False ≡ True = sym (fold_stays lesser False (λ part. refl) rest) ∙ holds in cc
all_true Unknown rest holds = absurd (not_true rest holds)

-- only what is equal is taken by `=`
taken_by_eq : (ordering : Ordering) → truth_of (takes Eq ordering) ≡ True → ordering ≡ Equal
taken_by_eq Less holds = cc
taken_by_eq Equal holds = refl
taken_by_eq Greater holds = cc

-- a value that equals a literal has its key
pub same_key : (key : Key) (value literal : Value) → IsStored value → literal_key literal ≡ Some key → comparison Eq (compared value literal) ≡ True → key_cmp (as_key value) key ≡ Equal
unfolding compared
same_key key (Int number) (Int other) stored pins holds = let is : as_a_key.Int other ≡ key = cc in subst (λ k. key_cmp (as_a_key.Int number) k ≡ Equal) is (taken_by_eq _ holds)
same_key key (Text bytes) (Text other) stored pins holds = let is : as_a_key.Text other ≡ key = cc in subst (λ k. key_cmp (as_a_key.Text bytes) k ≡ Equal) is (taken_by_eq _ holds)
same_key key (Int number) Null stored pins holds = cc
same_key key (Int number) (Text other) stored pins holds = cc
same_key key (Int number) (Sum other) stored pins holds = cc
same_key key (Text bytes) Null stored pins holds = cc
same_key key (Text bytes) (Int other) stored pins holds = cc
same_key key (Text bytes) (Sum other) stored pins holds = cc
same_key key Null literal stored pins holds = cc
same_key key (Sum number) literal stored pins holds = absurd stored

module _ (row : Row) (key_column : ℕ) (key : Key) (stored : IsStored (cell row key_column)) where
  -- a comparison with a literal, by whether its column is the key's
  literal_pins : (column : ColNo) (literal : Value) (b : Bool) → (column.0 == key_column) ≡ b → cond b (literal_key literal) None ≡ Some key
      → comparison Eq (compared (cell row column.0) literal) ≡ True → key_cmp (as_key (cell row key_column)) key ≡ Equal
  literal_pins column literal true is pins holds = same_key key (cell row key_column) literal stored pins (subst (λ n. comparison Eq (compared (cell row n) literal) ≡ True) (eqb-true _ _ is) holds)
  literal_pins column literal false is pins holds = cc

  -- a comparison that pins a key
  compare_pins : (column : ColNo) (sign : Cmp) (right : BoundOperand) → compared_key key_column column.0 sign right ≡ Some key
      → comparison sign (compared (cell row column.0) (operand row right)) ≡ True → key_cmp (as_key (cell row key_column)) key ≡ Equal
  compare_pins column Eq (Literal value) pins holds = literal_pins column value (column.0 == key_column) refl pins holds
  compare_pins column Eq (Column other) pins holds = cc
  compare_pins column Ne right pins holds = cc
  compare_pins column Lt right pins holds = cc
  compare_pins column Le right pins holds = cc
  compare_pins column Gt right pins holds = cc
  compare_pins column Ge right pins holds = cc

  -- what a condition pins, and whether it holds
  abbrev pins_of : BoundCond → Pinned
  pins_of = fold-BoundCond Pinned (pinned_step key_column)

  abbrev holds_of : BoundCond → Answer
  holds_of = fold-BoundCond Answer (truth_step row)

  -- a part that pins a key by itself is a comparison
  alone_layer : (layer : BoundCond-F BoundCond) → (pinned_step key_column (map-BoundCond BoundCond Pinned pins_of layer)).alone ≡ Some key
      → truth_step row (map-BoundCond BoundCond Answer holds_of layer) ≡ True → key_cmp (as_key (cell row key_column)) key ≡ Equal
  alone_layer (BoundCond-F.Every parts) pins holds = cc
  alone_layer (BoundCond-F.Some1 parts) pins holds = cc
  alone_layer (BoundCond-F.Not part) pins holds = cc
  alone_layer (BoundCond-F.Compare column sign right) pins holds = compare_pins column sign right pins holds
  alone_layer (BoundCond-F.IsNull column negated) pins holds = cc

  -- a part that pins a key by itself
  alone_pins : (part : BoundCond) → (pins_of part).alone ≡ Some key → holds_of part ≡ True → key_cmp (as_key (cell row key_column)) key ≡ Equal
  alone_pins part pins holds =
      alone_layer (out-BoundCond part) (ap (λ p. p.alone) (sym (fold_out-BoundCond Pinned (pinned_step key_column) part)) ∙ pins)
      (sym (fold_out-BoundCond Answer (truth_step row) part) ∙ holds)

  -- the first part that pins one
  first_pins : (parts : List BoundCond) → first_key (filter_map (λ part. part.alone) (map pins_of parts)) ≡ Some key → least (map holds_of parts) ≡ True
      → key_cmp (as_key (cell row key_column)) key ≡ Equal
  first_pins [] pins holds = cc
  first_pins (first ∷ rest) pins holds = by (λ pins. first_pins rest pins both.1) (pins_of first).alone refl pins
    where
      both : (holds_of first ≡ True) × (least (map holds_of rest) ≡ True)
      both = all_true (holds_of first) (map holds_of rest) holds

      by : (first_key (filter_map (λ part. part.alone) (map pins_of rest)) ≡ Some key → key_cmp (as_key (cell row key_column)) key ≡ Equal)
          → (o : Option Key) → (pins_of first).alone ≡ o → first_key (filter_map (λ part. part.alone) (map pins_of (first ∷ rest))) ≡ Some key
          → key_cmp (as_key (cell row key_column)) key ≡ Equal
      by more (Some found) is pins = let same : (pins_of first).alone ≡ Some key = is ∙ (rw is at pins) in alone_pins first same both.0
      by more None is pins = more (rw is at pins)

  -- a condition that pins a key is a comparison or an AND
  whole_layer : (layer : BoundCond-F BoundCond) → (pinned_step key_column (map-BoundCond BoundCond Pinned pins_of layer)).whole ≡ Some key
      → truth_step row (map-BoundCond BoundCond Answer holds_of layer) ≡ True → key_cmp (as_key (cell row key_column)) key ≡ Equal
  whole_layer (BoundCond-F.Every parts) pins holds = first_pins parts pins holds
  whole_layer (BoundCond-F.Some1 parts) pins holds = cc
  whole_layer (BoundCond-F.Not part) pins holds = cc
  whole_layer (BoundCond-F.Compare column sign right) pins holds = compare_pins column sign right pins holds
  whole_layer (BoundCond-F.IsNull column negated) pins holds = cc

  -- a row of which a condition is True has the key that the condition pins
  pub true_pins : (condition : BoundCond) → pinned_by key_column condition ≡ Some key → truth row condition ≡ True → key_cmp (as_key (cell row key_column)) key ≡ Equal
  unfolding pinned_by truth
  true_pins condition pins holds =
      whole_layer (out-BoundCond condition) (ap (λ p. p.whole) (sym (fold_out-BoundCond Pinned (pinned_step key_column) condition)) ∙ pins)
      (sym (fold_out-BoundCond Answer (truth_step row) condition) ∙ holds)
