-- Which values a name, a number and a text represent.
use Rattle.std.specs.Prelude.{◌≡◌, ◌≤◌, ℕ, zero, suc, ◌+◌, ◌*◌, ◌-◌, ◌^◌, ℤ, pos, negsuc, Bool, true, false, if◌then◌else◌, IsTrue, List, [], ◌∷◌, length, map}
use Rattle.std.specs.Char.{to_ascii_lowercase}
use Rattle.own_base.specs.Name.{is_spelled}
use Rattle.own_model.specs.declared.select.Item.{Item}
use Rattle.sql_lex.specs.declared.token.TokenKind.TheVariants.{Name, Number, Quoted}
use Rattle.sql_lex.specs.Tokens.{quoted}
use Rattle.grammar_model.specs.Limits.{Limits, fits}
use Rattle.grammar_model.specs.Parts.{slot_item}
use Rattle.grammar_model.specs.Terminal.{Terminal, Written, Slot}

-- the terminal is a name, and in lower case it is this one
pub record NameIs (limits : Limits) (name : List ℕ) (terminal : Terminal) : Type 0 where
  pub bytes : List ℕ
  pub start : ℕ
  pub is : terminal ≡ Written Name bytes start
  pub lower : name ≡ map to_ascii_lowercase bytes
  pub spelled : IsTrue (is_spelled name)
  pub short : IsTrue (fits limits.name (length name))

-- the number that digits write after those of a number
abbrev pub digits_after : ℕ → List ℕ → ℕ
digits_after number [] = number
digits_after number (digit ∷ digits) = digits_after (10 * number + (digit - 48)) digits

-- a number with its sign
abbrev pub signed : Bool → ℕ → ℤ
signed false number = pos number
signed true zero = pos 0
signed true (suc number) = negsuc number

-- the terminal is a number, and with its sign it is this one, of i64
pub record NumberIs (negative : Bool) (number : ℤ) (terminal : Terminal) : Type 0 where
  pub digits : List ℕ
  pub start : ℕ
  pub is : terminal ≡ Written Number digits start
  pub value : number ≡ signed negative (digits_after 0 digits)
  pub in_range : digits_after 0 digits ≤ (if negative then 2 ^ 63 else 2 ^ 63 - 1)

-- the terminal is a text in quotes, and this is what stands between them
pub record TextIs (limits : Limits) (value : List ℕ) (terminal : Terminal) : Type 0 where
  pub start : ℕ
  pub is : terminal ≡ Written Quoted (quoted value) start
  pub short : IsTrue (fits limits.text (length value))

-- the terminal is a slot, which counts as this item
pub record SlotIs (item : Item) (terminal : Terminal) : Type 0 where
  pub is : terminal ≡ Slot
  pub value : item ≡ slot_item
