-- Which kinds go together.
use Rattle.std.specs.Prelude.{Bool, true, false, not, Option, None, Some, if◌then◌else◌}
use Rattle.std.specs.Option.{option_map_or}
use Rattle.own_base.specs.declared.value.Value.{Value}
use Rattle.own_base.specs.declared.value.Value.TheVariants as value
use Rattle.own_base.specs.declared.value.Key.{Key}
use Rattle.own_base.specs.declared.value.Key.TheVariants as key
use Rattle.own_model.specs.declared.schema.Kind.{Kind}
use Rattle.own_model.specs.declared.schema.Kind.TheVariants.{Int, Text, Sum}

-- whether a kind is of texts; the others are of numbers
abbrev pub is_text : Kind → Bool
is_text Int = false
is_text Text = true
is_text Sum = false

-- whether values of two kinds are compared: both numbers, or both texts
abbrev pub are_compared : Kind → Kind → Bool
are_compared left right = if is_text left then is_text right else not (is_text right)

-- the kind of a value; NULL has none
abbrev pub kind_of : Value → Option Kind
kind_of value.Null = None
kind_of (value.Int number) = Some Int
kind_of (value.Text bytes) = Some Text
kind_of (value.Sum number) = Some Sum

abbrev pub key_kind : Key → Kind
key_kind (key.Int number) = Int
key_kind (key.Text bytes) = Text

-- whether a value goes with a kind; NULL goes with each
abbrev pub goes_with : Kind → Value → Bool
goes_with kind value = option_map_or (are_compared kind) (kind_of value) true
