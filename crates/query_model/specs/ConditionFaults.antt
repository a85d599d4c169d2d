-- What is wrong with a condition, and what it means.
use Rattle.std.specs.Prelude.{List, [], ◌∷◌, ◌++◌, Option, None, Some, if◌then◌else◌}
use Rattle.std.specs.List.{flat_map}
use Rattle.std.specs.Option.{option_map_or}
use Rattle.own_base.specs.declared.number.ColNo.{ColNo}
use Rattle.own_model.specs.declared.bound.BoundCond.{BoundCond}
use Rattle.own_model.specs.declared.bound.BoundCond.TheVariants as bound
use Rattle.own_model.specs.declared.bound.BoundOperand.{BoundOperand}
use Rattle.own_model.specs.declared.bound.BoundOperand.TheVariants as right_side
use Rattle.own_model.specs.declared.condition.Cond.{Cond}
use Rattle.own_model.specs.declared.condition.Cond.TheFolds.{fold-Cond}
use Rattle.own_model.specs.declared.condition.Cond.TheOpen.{Cond-F}
use Rattle.own_model.specs.declared.condition.Operand.{Operand}
use Rattle.own_model.specs.declared.condition.Operand.TheVariants.{Column, Literal}
use Rattle.own_model.specs.declared.refusal.Refusal.{Refusal}
use Rattle.own_model.specs.declared.refusal.Refusal.TheVariants.{WrongKind}
use Rattle.own_model.specs.declared.schema.Kind.{Kind}
use Rattle.own_model.specs.declared.select.ColRef.{ColRef}
use Rattle.query_model.specs.Kinds.{are_compared, kind_of}
use Rattle.query_model.specs.Scope.{Scope, column_meant, no_column, number_meant}

-- a column that the scope has, by a reference
abbrev pub column_no : Scope → ColRef → ColNo
column_no scope reference = record { 0 = number_meant scope reference }

-- the kind of the column that a reference means
abbrev pub kind_meant : Scope → ColRef → Option Kind
kind_meant scope reference = option_map_or (λ named. Some named.kind) (column_meant scope reference) None

-- the kind of the right side of a comparison; NULL has none
abbrev pub operand_kind : Scope → Operand → Option Kind
operand_kind scope (Column reference) = kind_meant scope reference
operand_kind scope (Literal value) = kind_of value

abbrev pub operand_faults : Scope → Operand → List Refusal
operand_faults scope (Column reference) = no_column scope reference
operand_faults scope (Literal value) = []

-- a number and a text aren't compared; the left column is named
abbrev pub unlike : ColRef → Option Kind → Option Kind → List Refusal
unlike left (Some kind) (Some other) = if are_compared kind other then [] else WrongKind left.column ∷ []
unlike left _ _ = []

abbrev pub together : List (List Refusal) → List Refusal
together parts = flat_map (λ faults. faults) parts

-- one condition, with the faults of its parts
abbrev pub fault_step : Scope → Cond-F (List Refusal) → List Refusal
fault_step scope (Cond-F.Every parts) = together parts
fault_step scope (Cond-F.Some1 parts) = together parts
fault_step scope (Cond-F.Not part) = part
fault_step scope (Cond-F.Compare left sign right) = no_column scope left ++ operand_faults scope right ++ unlike left (kind_meant scope left) (operand_kind scope right)
fault_step scope (Cond-F.IsNull column negated) = no_column scope column

-- the faults of a condition, in the text's order
unfoldable pub condition_faults : Scope → Cond → List Refusal
condition_faults scope = fold-Cond (List Refusal) (fault_step scope)

-- those of WHERE
abbrev pub where_faults : Scope → Option Cond → List Refusal
where_faults scope None = []
where_faults scope (Some cond) = condition_faults scope cond

abbrev pub bound_operand : Scope → Operand → BoundOperand
bound_operand scope (Column reference) = right_side.Column (column_no scope reference)
bound_operand scope (Literal value) = right_side.Literal value

-- one condition, with the meaning of its parts
abbrev pub bound_step : Scope → Cond-F BoundCond → BoundCond
bound_step scope (Cond-F.Every parts) = bound.Every parts
bound_step scope (Cond-F.Some1 parts) = bound.Some1 parts
bound_step scope (Cond-F.Not part) = bound.Not part
bound_step scope (Cond-F.Compare left sign right) = bound.Compare (column_no scope left) sign (bound_operand scope right)
bound_step scope (Cond-F.IsNull column negated) = bound.IsNull (column_no scope column) negated

-- what a condition means
unfoldable pub bound_condition : Scope → Cond → BoundCond
bound_condition scope = fold-Cond BoundCond (bound_step scope)

abbrev pub bound_where : Scope → Option Cond → Option BoundCond
bound_where scope None = None
bound_where scope (Some cond) = Some (bound_condition scope cond)
