-- How the reader judges a token: the value that it has, or the fault that it is.
use Rattle.std.specs.Prelude.{ℕ, ◌^◌, ◌-◌, ℤ, Bool, true, false, ◌==◌, if◌then◌else◌, nat_le, List, [], ◌∷◌, map, length, Option, None, Some, Result, Ok, Err}
use Rattle.std.specs.Char.{to_ascii_lowercase}
use Rattle.own_base.specs.Name.{is_spelled}
use Rattle.own_model.specs.declared.limit.LimitName.TheVariants as limit
use Rattle.own_model.specs.declared.select.Item.{Item}
use Rattle.sql_lex.specs.declared.token.TokenKind.TheVariants.{Name, Number, Quoted}
use Rattle.grammar_model.specs.Limits.{Limits, fits, no_limits}
use Rattle.grammar_model.specs.Parts.{slot_item}
use Rattle.grammar_model.specs.Terminal.{Terminal, Written, Slot}
use Rattle.grammar_model.specs.Values.{digits_after, signed}
use Rattle.sql_reader.specs.declared.fault.RuleFault.{RuleFault}
use Rattle.sql_reader.specs.declared.fault.RuleFault.TheVariants.{Syntax, Limit}

abbrev pub is_name : Terminal → Bool
is_name (Written Name bytes start) = true
is_name _ = false

abbrev pub is_quoted : Terminal → Bool
is_quoted (Written Quoted bytes start) = true
is_quoted _ = false

-- a name, in lower case
abbrev pub folded : Limits → List ℕ → Result (List ℕ) RuleFault
folded limits name = if is_spelled name then (if fits limits.name (length name) then Ok name else Err (Limit limit.Name)) else Err Syntax

abbrev pub name_of : Limits → Terminal → Result (List ℕ) RuleFault
name_of limits (Written Name bytes start) = folded limits (map to_ascii_lowercase bytes)
name_of limits _ = Err Syntax

abbrev pub ranged : Bool → ℕ → Result ℤ RuleFault
ranged negative number = if nat_le number (if negative then 2 ^ 63 else 2 ^ 63 - 1) then Ok (signed negative number) else Err Syntax

abbrev pub number_of : Bool → Terminal → Result ℤ RuleFault
number_of negative (Written Number digits start) = ranged negative (digits_after 0 digits)
number_of negative _ = Err Syntax

-- one byte more of a value
abbrev pub with_byte : ℕ → Option (List ℕ) → Option (List ℕ)
with_byte byte None = None
with_byte byte (Some value) = Some (byte ∷ value)

-- What stands between the quotes, of the bytes after the first: a quote closes the text, or is doubled and represents
-- one; after the one that closes it nothing may come. With true, the byte before was a quote.
abbrev pub inside : Bool → List ℕ → Option (List ℕ)
inside false [] = None
inside false (byte ∷ bytes) = if byte == 39 then inside true bytes else with_byte byte (inside false bytes)
inside true [] = Some []
inside true (byte ∷ bytes) = if byte == 39 then with_byte 39 (inside false bytes) else None

-- what stands between the quotes, where the bytes are a text in quotes
abbrev pub unquoted : List ℕ → Option (List ℕ)
unquoted [] = None
unquoted (byte ∷ bytes) = if byte == 39 then inside false bytes else None

abbrev pub short_text : Limits → Option (List ℕ) → Result (List ℕ) RuleFault
short_text limits None = Err Syntax
short_text limits (Some value) = if fits limits.text (length value) then Ok value else Err (Limit limit.Text)

abbrev pub text_of : Limits → Terminal → Result (List ℕ) RuleFault
text_of limits (Written Quoted bytes start) = short_text limits (unquoted bytes)
text_of limits _ = Err Syntax

-- above the limit an item is barred where it would begin: at a name, whatever its length
abbrev pub barred : Result (List ℕ) RuleFault → Result Item RuleFault
barred (Ok name) = Err (Limit limit.Items)
barred (Err fault) = Err Syntax

-- above the limit, in the place of an item: a slot alone, and the limit where an item would begin
abbrev pub slot_of : Terminal → Result Item RuleFault
slot_of Slot = Ok slot_item
slot_of (Written kind bytes start) = barred (name_of no_limits (Written kind bytes start))
