-- Why an expression gives no value.
use Rattle.std.specs.Prelude.{◌≡◌, Option, None, IsSome}
use Rattle.own_base.specs.declared.value.Value.{Value}
use Rattle.pred_eval.specs.declared.expression.ValueFault.{ValueFault}
use Rattle.pred_eval.specs.declared.expression.ValueFault.TheVariants.{Range, Memory}

-- the number leaves the range, or memory was refused to a value that is in it
abbrev pub IsFaultOf : Option Value → ValueFault → Type 0
IsFaultOf value Range = value ≡ None
IsFaultOf value Memory = IsSome value
