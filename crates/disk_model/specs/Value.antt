-- Values and primary keys as bytes.
use Rattle.std.specs.Prelude.{◌≡◌, [], ◌∷◌}
use Rattle.own_base.specs.declared.value.Key.{Key}
use Rattle.own_base.specs.declared.value.Key.TheVariants as key
use Rattle.own_base.specs.declared.value.Value.{Value}
use Rattle.own_base.specs.declared.value.Value.TheVariants.{Null, Int, Text, Sum}
use Rattle.disk_model.specs.Number.{Format, IsSigned}
use Rattle.disk_model.specs.Text.{IsShortText}

-- a byte for the kind, and a number or a text behind it; a sum stands in no table
abbrev pub IsValue : Format Value
IsValue value [] rest = ⊥
IsValue Null (kind ∷ bytes) rest = (kind ≡ 0) × (bytes ≡ rest)
IsValue (Int number) (kind ∷ bytes) rest = (kind ≡ 1) × IsSigned number bytes rest
IsValue (Text text) (kind ∷ bytes) rest = (kind ≡ 2) × IsShortText text bytes rest
IsValue (Sum number) (kind ∷ bytes) rest = ⊥

-- a key as a value, which isn't NULL
abbrev pub as_value : Key → Value
as_value (key.Int number) = Int number
as_value (key.Text text) = Text text

abbrev pub IsKey : Format Key
IsKey key bytes rest = IsValue (as_value key) bytes rest
