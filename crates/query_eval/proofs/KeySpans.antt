-- What the bounds of a condition leave of a span.
use Rattle.std.proofs.Common.{◌≡◌, ℕ, zero, suc, ◌<◌, ◌≤◌, List, [], ◌∷◌, Bool, true, false, not, fold, map, length, get_or, inl, inr, refl, sym, ap, ◌∙◌, subst, arith}
use Rattle.std.specs.declared.cmp.Ordering.{Ordering}
use Rattle.std.specs.declared.cmp.Ordering.TheVariants.{Less, Equal, Greater}
use Rattle.std.proofs.lemmas.Bool.{cases_lt}
use Rattle.std.proofs.lemmas.List.Elements.{All-get_or}
use Rattle.std.proofs.lemmas.List.Folds.{fold_stays}
use Rattle.own_base.specs.Key.{key_cmp}
use Rattle.own_base.specs.declared.number.ColNo.{ColNo}
use Rattle.own_base.specs.declared.value.Value.{Value}
use Rattle.own_base.specs.declared.value.Value.TheVariants.{Null, Int, Text, Sum}
use Rattle.own_model.specs.declared.bound.BoundCond.{BoundCond}
use Rattle.own_model.specs.declared.bound.BoundCond.TheVariants.{Compare, Every}
use Rattle.own_model.specs.declared.bound.BoundOperand.{BoundOperand}
use Rattle.own_model.specs.declared.condition.Cmp.{Cmp}
use Rattle.own_model.specs.declared.condition.Cmp.TheVariants.{Eq, Lt, Le, Gt, Ge}
use Rattle.own_model.specs.declared.schema.TableDef.{TableDef}
use Rattle.own_model.specs.declared.truth.Truth.{Truth as Answer}
use Rattle.own_model.specs.declared.truth.Truth.TheVariants.{True, False, Unknown}
use Rattle.own_model.specs.Db.{Row, as_key, key_of}
use Rattle.query_model.specs.Stored.{AreStored, IsStored, IsStoredRow}
use Rattle.query_model.specs.Truth.{cell, compared, comparison, is_true, least, lesser, takes, truth, truth_of}
use Rattle.query_eval.specs.declared.key_range.Span.{Span}
use Rattle.query_eval.specs.KeyRange.{IsPlaceOf, IsSeen, IsSpanOf, Narrows, NarrowsBy, is_before, is_before_bound, is_compared, is_taken, row_in}
use Rattle.query_model.proofs.TruthByVariant.{truth-Compare, truth-Every}
use Rattle.query_eval.proofs.TableRows.{stored_cell}

-- what is True as a test is true
test_from : (b : Bool) → is_true (truth_of b) ≡ true → b ≡ true
test_from true is = refl
test_from false is = cc

-- stored values that a sign takes stand so as keys
taken_keys : (sign : Cmp) (left right : Value) → IsStored left → IsStored right → is_true (comparison sign (compared left right)) ≡ true → takes sign (key_cmp (as_key left) (as_key right)) ≡ true
unfolding compared
taken_keys sign (Int left) (Int right) stored key is = test_from _ is
taken_keys sign (Text left) (Text right) stored key is = test_from _ is
taken_keys sign (Int left) (Text right) stored key is = cc
taken_keys sign (Int left) Null stored key is = cc
taken_keys sign (Text left) (Int right) stored key is = cc
taken_keys sign (Text left) Null stored key is = cc
taken_keys sign (Int left) (Sum right) stored key is = absurd key
taken_keys sign (Text left) (Sum right) stored key is = absurd key
taken_keys sign Null right stored key is = cc
taken_keys sign (Sum left) right stored key is = absurd stored

-- what each sign takes is on one side of a bound
from_ge : (o : Ordering) → takes Ge o ≡ true → not (is_before_bound false o) ≡ true
from_ge Less is = cc
from_ge Equal is = refl
from_ge Greater is = refl

from_gt : (o : Ordering) → takes Gt o ≡ true → not (is_before_bound true o) ≡ true
from_gt Less is = cc
from_gt Equal is = cc
from_gt Greater is = refl

upto_le : (o : Ordering) → takes Le o ≡ true → is_before_bound true o ≡ true
upto_le Less is = refl
upto_le Equal is = refl
upto_le Greater is = cc

upto_lt : (o : Ordering) → takes Lt o ≡ true → is_before_bound false o ≡ true
upto_lt Less is = refl
upto_lt Equal is = cc
upto_lt Greater is = cc

from_eq : (o : Ordering) → takes Eq o ≡ true → takes Ge o ≡ true
from_eq Less is = cc
from_eq Equal is = refl
from_eq Greater is = cc

upto_eq : (o : Ordering) → takes Eq o ≡ true → takes Le o ≡ true
upto_eq Less is = cc
upto_eq Equal is = refl
upto_eq Greater is = cc

module _ (rows : List Row) (span left : Span) where
  -- the rows before a bound are passed over
  pub narrows_front : (before : Row → Bool) → IsPlaceOf before rows left.from → left.upto ≡ span.upto → Narrows (λ row. not (before row)) rows span left
  narrows_front before place upto passes implies is = record { begins = place.within; ends = rw upto is.ends; inside = inside }
    where
      inside : (k : ℕ) → k < length rows → passes (row_in rows k) ≡ true → (left.from ≤ k) × (k < left.upto)
      inside k within passed = elim (cases_lt k left.from) [
        | inl front ↦ let never : not true ≡ true = subst (λ b. not b ≡ true) (place.front k front) (implies k within passed) in cc
        | inr behind ↦ (behind, rw upto (is.inside k within passed).1)
      ]

  -- only those are looked at
  pub narrows_back : (before : Row → Bool) → IsPlaceOf before rows left.upto → left.from ≡ span.from → Narrows before rows span left
  narrows_back before place from passes implies is = record { begins = rw from is.begins; ends = place.within; inside = inside }
    where
      inside : (k : ℕ) → k < length rows → passes (row_in rows k) ≡ true → (left.from ≤ k) × (k < left.upto)
      inside k within passed = elim (cases_lt k left.upto) [
        | inl front ↦ (rw from (is.inside k within passed).0, front)
        | inr behind ↦ let never : true ≡ false = sym (implies k within passed) ∙ place.back k behind within in cc
      ]

-- what fewer rows pass narrows too
narrows_weaker : (wide holds : Row → Bool) (rows : List Row) (span left : Span) → ((k : ℕ) → k < length rows → holds (row_in rows k) ≡ true → wide (row_in rows k) ≡ true) → Narrows wide rows span left → Narrows holds rows span left
narrows_weaker wide holds rows span left weaker narrows passes implies is = narrows passes (λ k within passed. weaker k within (implies k within passed)) is

module _ (table : TableDef) (value : Value) (rows : List Row) (stored : AreStored rows) (key : IsStored value) where
  -- a row that a comparison takes, by its key
  taken_row : (sign : Cmp) (k : ℕ) → k < length rows → is_taken table.key.0 sign value (row_in rows k) ≡ true → takes sign (key_cmp (key_of table (row_in rows k)) (as_key value)) ≡ true
  unfolding key_of
  taken_row sign k within is = taken_keys sign (cell (row_in rows k) table.key.0) value (stored_cell table.key.0 (row_in rows k) (All-get_or IsStoredRow rows k [] within stored)) key is

  module _ (span left : Span) where
    -- by each sign
    pub narrows_ge : Narrows (λ row. not (is_before table value false row)) rows span left → Narrows (is_taken table.key.0 Ge value) rows span left
    narrows_ge = narrows_weaker (λ row. not (is_before table value false row)) (is_taken table.key.0 Ge value) rows span left (λ k within is. from_ge _ (taken_row Ge k within is))

    pub narrows_gt : Narrows (λ row. not (is_before table value true row)) rows span left → Narrows (is_taken table.key.0 Gt value) rows span left
    narrows_gt = narrows_weaker (λ row. not (is_before table value true row)) (is_taken table.key.0 Gt value) rows span left (λ k within is. from_gt _ (taken_row Gt k within is))

    pub narrows_le : Narrows (is_before table value true) rows span left → Narrows (is_taken table.key.0 Le value) rows span left
    narrows_le = narrows_weaker (is_before table value true) (is_taken table.key.0 Le value) rows span left (λ k within is. upto_le _ (taken_row Le k within is))

    pub narrows_lt : Narrows (is_before table value false) rows span left → Narrows (is_taken table.key.0 Lt value) rows span left
    narrows_lt = narrows_weaker (is_before table value false) (is_taken table.key.0 Lt value) rows span left (λ k within is. upto_lt _ (taken_row Lt k within is))

  -- `=` bounds at both ends
  pub narrows_eq : (span front left : Span) → Narrows (λ row. not (is_before table value false row)) rows span front → Narrows (is_before table value true) rows front left → Narrows (is_taken table.key.0 Eq value) rows span left
  narrows_eq span front left first second passes implies is =
      second passes (λ k within passed. upto_le _ (upto_eq _ (taken_row Eq k within (implies k within passed))))
      (first passes (λ k within passed. from_ge _ (from_eq _ (taken_row Eq k within (implies k within passed)))) is)

-- a comparison of a column with a value holds of what is seen where it holds of the row
pub narrows_seen : (column : ℕ) (sign : Cmp) (value : Value) (rows : List Row) (span left : Span) → Narrows (is_taken column sign value) rows span left → NarrowsBy column (is_taken column sign value) rows span left
narrows_seen column sign value rows span left narrows passes seen is =
    narrows passes (λ k within passed.
    let one = seen k within passed in
    subst (λ (own : Value). is_true (comparison sign (compared own value)) ≡ true) one.1 one.2) is

-- an AND that began Unknown isn't True
not_true : (parts : List Answer) → is_true (fold lesser Unknown parts) ≡ true → ⊥
not_true [] holds = cc
not_true (True ∷ rest) holds = not_true rest holds
not_true (Unknown ∷ rest) holds = not_true rest holds
not_true (False ∷ rest) holds = let never : false ≡ true = sym (ap is_true (fold_stays lesser False (λ part. refl) rest)) ∙ holds in cc

-- an AND that is True has no other part
all_true : (first : Answer) (rest : List Answer) → is_true (least (first ∷ rest)) ≡ true → (is_true first ≡ true) × (is_true (least rest) ≡ true)
all_true True rest holds = (refl, holds)
all_true False rest holds = let never : false ≡ true = sym (ap is_true (fold_stays lesser False (λ part. refl) rest)) ∙ holds in cc
all_true Unknown rest holds = absurd (not_true rest holds)

-- where an AND is True, so is each part
pub part_true : (row : Row) (parts : List BoundCond) (i : ℕ) (part : BoundCond) → i < length parts → is_true (least (map (truth row) parts)) ≡ true → is_true (truth row (get_or parts i part)) ≡ true
part_true row [] i part within holds = absurd (omega arith)
part_true row (first ∷ rest) zero part within holds = (all_true (truth row first) (map (truth row) rest) holds).0
part_true row (first ∷ rest) (suc i) part within holds = part_true row rest i part (omega arith) (all_true (truth row first) (map (truth row) rest) holds).1

-- one part more
pub narrows_part : (column : ℕ) (parts : List BoundCond) (rows : List Row) (span so_far left : Span) (i : ℕ) (part : BoundCond) → i < length parts → part ≡ get_or parts i part
    → NarrowsBy column (λ row. is_true (least (map (truth row) parts))) rows span so_far → NarrowsBy column (λ row. is_true (truth row part)) rows so_far left
    → NarrowsBy column (λ row. is_true (least (map (truth row) parts))) rows span left
narrows_part column parts rows span so_far left i part within at before narrows passes seen is =
    narrows passes
    (λ k inside passed.
    let one = seen k inside passed in
    (one.0, one.1, subst (λ p. is_true (truth one.0 p) ≡ true) (sym at) (part_true one.0 parts i part within one.2)))
    (before passes seen is)

-- what a comparison leaves
pub narrows_compare : (key : ℕ) (rows : List Row) (span left : Span) (part : BoundCond) (column : ColNo) (sign : Cmp) (right : BoundOperand) → part ≡ Compare column sign right
    → NarrowsBy key (is_compared column.0 sign right) rows span left → NarrowsBy key (λ row. is_true (truth row part)) rows span left
narrows_compare key rows span left part column sign right at narrows passes seen is =
    narrows passes
    (λ k within passed.
    let one = seen k within passed in
    (one.0, one.1, sym (ap is_true (ap (truth one.0) at ∙ truth-Compare one.0 column sign right)) ∙ one.2)) is

-- what an AND leaves
pub narrows_every : (key : ℕ) (rows : List Row) (span left : Span) (condition : BoundCond) (parts items : List BoundCond) → condition ≡ Every parts → items ≡ parts
    → NarrowsBy key (λ row. is_true (least (map (truth row) items))) rows span left → NarrowsBy key (λ row. is_true (truth row condition)) rows span left
narrows_every key rows span left condition parts items at same narrows passes seen is =
    narrows passes
    (λ k within passed.
    let one = seen k within passed in
    (one.0, one.1, rw same (sym (ap is_true (ap (truth one.0) at ∙ truth-Every one.0 parts)) ∙ one.2))) is

-- all rows
pub whole_span : (passes : Row → Bool) (rows : List Row) (span : Span) → span.from ≡ 0 → span.upto ≡ length rows → IsSpanOf passes rows span
whole_span passes rows span from upto = record { begins = omega arith; ends = omega arith; inside = λ k within passed. (omega arith, omega arith) }
