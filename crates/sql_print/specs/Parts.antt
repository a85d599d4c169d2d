-- Parts of statements that stand after the first words.
use Rattle.std.specs.Prelude.{List, ℕ, Bool, Option, [], ◌∷◌, ◌++◌, codes, if◌then◌else◌}
use Rattle.own_base.specs.declared.value.Value.{Value}
use Rattle.own_model.specs.declared.select.ColRef.{ColRef}
use Rattle.own_model.specs.declared.select.Select.{Select}
use Rattle.text_model.specs.Canonical.{join_words, order_words, tuple_words, where_words}
use Rattle.text_model.specs.Words.{Words, bracketed, column_words, listed, names_words, words_of}

-- a select from its FROM on
abbrev pub source_words : Select → Words
source_words select = codes "FROM" ∷ select.from ∷ (words_of join_words select.join ++ (where_words select.cond
    ++ (words_of (λ column. codes "GROUP" ∷ codes "BY" ∷ column_words column) select.group ++ words_of order_words select.order)))

-- the columns that an INSERT names, if it does
abbrev pub columns_words : Option (List (List ℕ)) → Words
columns_words columns = words_of (λ columns. bracketed (names_words columns)) columns

-- an INSERT from its VALUES on
abbrev pub values_words : List (List Value) → Words
values_words rows = codes "VALUES" ∷ listed tuple_words rows

-- whether a table's rows are data subjects
abbrev pub subject_words : Bool → Words
subject_words subject = if subject then codes "DATA_SUBJECT" ∷ [] else []

-- a test for NULL
abbrev pub null_test_words : ColRef → Bool → Words
null_test_words column negated = column_words column ++ codes "IS" ∷ ((if negated then codes "NOT" ∷ [] else []) ++ codes "NULL" ∷ [])
