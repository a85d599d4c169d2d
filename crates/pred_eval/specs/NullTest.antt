-- A test for NULL.
use Rattle.std.specs.Prelude.{Bool, not, if◌then◌else◌}
use Rattle.own_base.specs.declared.value.Value.{Value}
use Rattle.own_model.specs.declared.truth.Truth.{Truth}
use Rattle.query_model.specs.Truth.{is_null, truth_of}

-- whether it is NULL, or with true whether it isn't
abbrev pub null_truth : Value → Bool → Truth
null_truth value negated = truth_of (if negated then not (is_null value) else is_null value)
