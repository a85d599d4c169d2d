-- What is read from the front of bytes: a value and the bytes after it, or nothing.
use Rattle.std.specs.Prelude.{◌≡◌, ℕ, ℤ, zero, suc, List, [], ◌∷◌, length, take, drop, Option, Some, None, Result, Ok, Err, true, false, nat_lt, nat_le, ◌&&◌, ◌==◌, if◌then◌else◌}
use Rattle.std.specs.Int.{Width, w32, w64, byte_len, cast_signed, from_be_bytes}
use Rattle.std.specs.Str.{is_utf8}
use Rattle.own_base.specs.declared.row_name.RowName.{RowName}
use Rattle.own_base.specs.declared.value.Key.{Key}
use Rattle.own_base.specs.declared.value.Key.TheVariants as key
use Rattle.own_base.specs.declared.value.Value.{Value}
use Rattle.own_base.specs.declared.value.Value.TheVariants.{Null, Int, Text, Sum}
use Rattle.own_model.specs.declared.limit.TheConstants.{TABLE_COLUMNS, TEXT_BYTES}
use Rattle.own_model.specs.declared.schema.CreateText.{CreateText}
use Rattle.own_model.specs.Db.{Row}
use Rattle.disk_model.specs.declared.commit.Put.{Put}
use Rattle.disk_fields.specs.declared.unread.Unread.{Unread}
use Rattle.disk_fields.specs.declared.unread.Unread.TheVariants.{Memory, Malformed}

-- a value and the bytes after it
abbrev pub Found : Type 0 → Type 0
Found A = Option (A × List ℕ)

infixl 10 ◌>>=◌
abbrev pub ◌>>=◌ : {A B : Type 0} → Option A → (A → Option B) → Option B
(Some x) >>= f = f x
None >>= f = None

-- What a function returned, seen by view, is what is read, unless memory was refused.
abbrev pub IsMissed : {Y : Type 0} → Unread → Option Y → Type 0
IsMissed Memory read = Unit {0}
IsMissed Malformed read = read ≡ None

abbrev pub Gives : {X Y : Type 0} → (X → Y) → Result X Unread → Option Y → Type 0
Gives view (Ok x) read = read ≡ Some (view x)
Gives view (Err e) read = IsMissed e read

-- where no byte is left behind what was read
abbrev pub all_of : {A : Type 0} → Found A → Option A
all_of read = read >>= λ x. if length x.1 == 0 then Some x.0 else None

abbrev pub number_at : Width → List ℕ → Found ℕ
number_at w bytes = if nat_lt (length bytes) (byte_len w) then None else Some (from_be_bytes w (take (byte_len w) bytes), drop (byte_len w) bytes)

unfoldable pub signed_at : List ℕ → Found ℤ
signed_at bytes = do
  number ← number_at w64 bytes
  Some (cast_signed w64 number.0, number.1)

-- the first so many bytes, where there are so many, no more than `most`, and they are a text
abbrev pub text_in : ℕ → ℕ → List ℕ → Found (List ℕ)
text_in most count bytes =
    if nat_lt most count then None
    else if nat_lt (length bytes) count then None
    else if is_utf8 (take count bytes) then Some (take count bytes, drop count bytes)
    else None

unfoldable pub text_at : ℕ → List ℕ → Found (List ℕ)
text_at most bytes = do
  count ← number_at w32 bytes
  text_in most count.0 count.1

unfoldable pub value_at : List ℕ → Found Value
value_at [] = None
value_at (zero ∷ rest) = Some (Null, rest)
value_at (suc zero ∷ rest) = do
  number ← signed_at rest
  Some (Int number.0, number.1)
value_at (suc (suc zero) ∷ rest) = do
  text ← text_at TEXT_BYTES rest
  Some (Text text.0, text.1)
value_at (suc (suc (suc kind)) ∷ rest) = None

-- a value that may be a key
abbrev pub key_from : Value → Option Key
key_from (Int number) = Some (key.Int number)
key_from (Text text) = Some (key.Text text)
key_from Null = None
key_from (Sum number) = None

unfoldable pub key_at : List ℕ → Found Key
key_at bytes = do
  value ← value_at bytes
  key ← key_from value.0
  Some (key, value.1)

-- so many, one behind another
unfoldable pub items_at : {A : Type 0} → (List ℕ → Found A) → ℕ → List ℕ → Found (List A)
items_at reading zero bytes = Some ([], bytes)
items_at reading (suc count) bytes = do
  first ← reading bytes
  others ← items_at reading count first.1
  Some (first.0 ∷ others.0, others.1)

unfoldable pub list_at : {A : Type 0} → (List ℕ → Found A) → List ℕ → Found (List A)
list_at reading bytes = do
  count ← number_at w32 bytes
  items_at reading count.0 count.1

unfoldable pub row_at : List ℕ → Found Row
row_at bytes = do
  count ← number_at w32 bytes
  if nat_le 1 count.0 && nat_le count.0 TABLE_COLUMNS then list_at value_at bytes else None

unfoldable pub name_at : List ℕ → Found RowName
name_at bytes = do
  table ← number_at w32 bytes
  key ← key_at table.1
  Some (record { table = record { 0 = table.0 }; key = key.0 }, key.1)

unfoldable pub state_at : List ℕ → Found (Option Row)
state_at [] = None
state_at (zero ∷ rest) = Some (None, rest)
state_at (suc zero ∷ rest) = do
  row ← row_at rest
  Some (Some row.0, row.1)
state_at (suc (suc kind) ∷ rest) = None

unfoldable pub put_at : List ℕ → Found Put
put_at bytes = do
  name ← name_at bytes
  state ← state_at name.1
  Some (record { name = name.0; after = state.0 }, state.1)

abbrev pub most_bytes : ℕ
most_bytes = 4294967295

unfoldable pub create_at : List ℕ → Found CreateText
create_at [] = None
create_at (zero ∷ rest) = None
create_at (suc zero ∷ rest) = do
  text ← text_at most_bytes rest
  Some (record { view = false; text = text.0 }, text.1)
create_at (suc (suc zero) ∷ rest) = do
  text ← text_at most_bytes rest
  Some (record { view = true; text = text.0 }, text.1)
create_at (suc (suc (suc kind)) ∷ rest) = None
