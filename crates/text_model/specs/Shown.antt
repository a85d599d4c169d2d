-- How a reply shows a value.
use Rattle.std.specs.Prelude.{ℕ, ◌+◌, ◌/◌, ◌%◌, List, [], ◌∷◌, ◌++◌, nat_lt, ◌==◌, ◌||◌, codes, if◌then◌else◌}
use Rattle.std.specs.Fmt.{signed_decimal}
use Rattle.std.specs.List.{flat_map}
use Rattle.own_base.specs.declared.value.Key.{Key}
use Rattle.own_base.specs.declared.value.Key.TheVariants as key
use Rattle.own_base.specs.declared.value.Value.{Value}
use Rattle.own_base.specs.declared.value.Value.TheVariants.{Null, Int, Text, Sum}
use Rattle.own_model.specs.declared.reply.Cell.{Cell}
use Rattle.own_model.specs.declared.reply.Cell.TheVariants.{Shown, Hidden}

-- 0 to 9 and a to f
abbrev pub hex_digit : ℕ → ℕ
hex_digit digit = if nat_lt digit 10 then 48 + digit else 87 + digit

-- A byte of a text: a quote is doubled; a byte below 32, 127 and the backslash is a backslash and two hexadecimal digits.
abbrev pub shown_byte : ℕ → List ℕ
shown_byte byte = if byte == 39 then 39 ∷ 39 ∷ []
    else if nat_lt byte 32 || byte == 127 || byte == 92 then 92 ∷ hex_digit (byte / 16) ∷ hex_digit (byte % 16) ∷ []
    else byte ∷ []

-- a text in single quotes
unfoldable pub shown_text : List ℕ → List ℕ
shown_text bytes = 39 ∷ (flat_map shown_byte bytes ++ 39 ∷ [])

-- NULL, a number in decimal, or a text
unfoldable pub shown_value : Value → List ℕ
shown_value Null = codes "NULL"
shown_value (Int number) = signed_decimal number
shown_value (Text bytes) = shown_text bytes
shown_value (Sum number) = signed_decimal number

-- a key as the value that it is
unfoldable pub shown_key : Key → List ℕ
shown_key (key.Int number) = signed_decimal number
shown_key (key.Text bytes) = shown_text bytes

-- a value that GDPR GET shows, or the word for one that it hides
unfoldable pub shown_cell : Cell → List ℕ
shown_cell (Shown value) = shown_value value
shown_cell Hidden = codes "HIDDEN"
