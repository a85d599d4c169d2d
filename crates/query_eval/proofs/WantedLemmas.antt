-- What a condition wants in a column.
use Rattle.std.proofs.Common.{◌≡◌, ℕ, ◌<◌, List, Bool, true, map, length, get_or, sym, ap, ◌∙◌, subst}
use Rattle.own_base.specs.declared.number.ColNo.{ColNo}
use Rattle.own_base.specs.declared.value.Value.{Value}
use Rattle.own_model.specs.declared.bound.BoundCond.{BoundCond}
use Rattle.own_model.specs.declared.bound.BoundCond.TheVariants.{Compare, Every}
use Rattle.own_model.specs.declared.bound.BoundOperand.{BoundOperand}
use Rattle.own_model.specs.declared.bound.BoundOperand.TheVariants.{Literal}
use Rattle.own_model.specs.declared.condition.Cmp.{Cmp}
use Rattle.own_model.specs.declared.condition.Cmp.TheVariants.{Eq}
use Rattle.own_model.specs.Db.{Row}
use Rattle.query_model.specs.Stored.{IsStored}
use Rattle.query_model.specs.Truth.{cell, compared, comparison, is_true, least, operand, truth}
use Rattle.query_model.proofs.TruthByVariant.{truth-Compare, truth-Every}
use Rattle.query_eval.specs.Candidates.{IsWanted}
use Rattle.query_eval.proofs.KeySpans.{part_true}

-- by a comparison
pub wanted-compare : (part : BoundCond) (own column : ColNo) (sign : Cmp) (right : BoundOperand) (value : Value) → part ≡ Compare own sign right → own.0 ≡ column.0 → sign ≡ Eq → IsStored value → right ≡ Literal value
    → IsWanted (λ row. is_true (truth row part)) column.0 value
wanted-compare part own column sign right value is same equal stored literal = record {
  stored = stored;
  taken = λ row holds.
      let told : is_true (comparison sign (compared (cell row own.0) (operand row right))) ≡ true = sym (ap is_true (ap (truth row) is ∙ truth-Compare row own sign right)) ∙ holds in
      let valued : is_true (comparison sign (compared (cell row own.0) value)) ≡ true = subst (λ (operand_is : BoundOperand). is_true (comparison sign (compared (cell row own.0) (operand row operand_is))) ≡ true) literal told in
      let signed : is_true (comparison Eq (compared (cell row own.0) value)) ≡ true = subst (λ (by : Cmp). is_true (comparison by (compared (cell row own.0) value)) ≡ true) equal valued in
      subst (λ (number : ℕ). is_true (comparison Eq (compared (cell row number) value)) ≡ true) same signed;
}

-- by a part of an AND
pub wanted-part : (parts : List BoundCond) (i : ℕ) (part : BoundCond) (column : ℕ) (value : Value) → i < length parts → part ≡ get_or parts i part → IsWanted (λ row. is_true (truth row part)) column value
    → IsWanted (λ row. is_true (least (map (truth row) parts))) column value
wanted-part parts i part column value within at want = record {
  stored = want.stored;
  taken = λ row holds. want.taken row (subst (λ (p : BoundCond). is_true (truth row p) ≡ true) (sym at) (part_true row parts i part within holds));
}

-- by an AND
pub wanted-every : (condition : BoundCond) (parts items : List BoundCond) (column : ℕ) (value : Value) → condition ≡ Every parts → items ≡ parts → IsWanted (λ row. is_true (least (map (truth row) items))) column value
    → IsWanted (λ row. is_true (truth row condition)) column value
wanted-every condition parts items column value is same want = record {
  stored = want.stored;
  taken = λ row holds. want.taken row (rw same (sym (ap is_true (ap (truth row) is ∙ truth-Every row parts)) ∙ holds));
}
