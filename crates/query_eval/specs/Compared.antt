-- A value that rows are compared by.
use Rattle.own_base.specs.declared.value.Value.{Value}
use Rattle.own_base.specs.declared.value.Value.TheVariants as value
use Rattle.query_eval.specs.declared.group_value.Compared.{Compared}
use Rattle.query_eval.specs.declared.group_value.Compared.TheVariants.{Null, Int, Other}

-- the value itself
abbrev pub compared_value : Compared → Value
compared_value Null = value.Null
compared_value (Int number) = value.Int number
compared_value (Other lent) = lent.now
