-- The bytes of each format, as functions of what they represent. That no other bytes are of the format is a law.
use Rattle.std.specs.Prelude.{ℕ, List, [], ◌∷◌, ◌++◌, length, Option, None, Some}
use Rattle.std.specs.Int.{w64, bytes_high_first, cast_unsigned}
use Rattle.std.specs.List.{flat_map}
use Rattle.own_base.specs.declared.row_name.RowName.{RowName}
use Rattle.own_base.specs.declared.value.Key.{Key}
use Rattle.own_base.specs.declared.value.Value.{Value}
use Rattle.own_base.specs.declared.value.Value.TheVariants.{Null, Int, Text, Sum}
use Rattle.own_model.specs.declared.schema.CreateText.{CreateText}
use Rattle.own_model.specs.Db.{Row}
use Rattle.disk_model.specs.declared.commit.Commit.{Commit}
use Rattle.disk_model.specs.declared.commit.Commit.TheVariants.{CreateTable, CreateView, Changes, Forget}
use Rattle.disk_model.specs.declared.commit.Put.{Put}
use Rattle.disk_model.specs.declared.image.Image.{Image}
use Rattle.disk_model.specs.Image.{create_kind}
use Rattle.disk_model.specs.Value.{as_value}

-- so many bytes of a number, the highest first
abbrev pub number_spelling : ℕ → ℕ → List ℕ
number_spelling count number = bytes_high_first count number

abbrev pub text_spelling : List ℕ → List ℕ
text_spelling text = number_spelling 4 (length text) ++ text

abbrev pub value_spelling : Value → List ℕ
value_spelling Null = 0 ∷ []
value_spelling (Int number) = 1 ∷ number_spelling 8 (cast_unsigned w64 number)
value_spelling (Text text) = 2 ∷ text_spelling text
value_spelling (Sum number) = []

abbrev pub key_spelling : Key → List ℕ
key_spelling key = value_spelling (as_value key)

abbrev pub list_spelling : {A : Type 0} → (A → List ℕ) → List A → List ℕ
list_spelling spelling items = number_spelling 4 (length items) ++ flat_map spelling items

abbrev pub row_spelling : Row → List ℕ
row_spelling row = list_spelling value_spelling row

abbrev pub name_spelling : RowName → List ℕ
name_spelling name = number_spelling 4 name.table.0 ++ key_spelling name.key

abbrev pub state_spelling : Option Row → List ℕ
state_spelling None = 0 ∷ []
state_spelling (Some row) = 1 ∷ row_spelling row

abbrev pub put_spelling : Put → List ℕ
put_spelling put = name_spelling put.name ++ state_spelling put.after

abbrev pub payload_spelling : Commit → List ℕ
payload_spelling (CreateTable text) = 1 ∷ text_spelling text
payload_spelling (CreateView text) = 2 ∷ text_spelling text
payload_spelling (Changes puts) = 3 ∷ list_spelling put_spelling puts
payload_spelling (Forget name) = 4 ∷ name_spelling name

abbrev pub create_spelling : CreateText → List ℕ
create_spelling create = create_kind create.view ∷ text_spelling create.text

abbrev pub image_spelling : Image → List ℕ
image_spelling image =
    1 ∷ (number_spelling 8 image.commits ++ (list_spelling create_spelling image.creates ++ flat_map (list_spelling row_spelling) image.tables))
