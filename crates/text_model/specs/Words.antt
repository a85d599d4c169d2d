-- The words of which a canonical text is made: the tokens of a statement, where a number keeps its sign.
use Rattle.std.specs.Prelude.{ℕ, List, [], ◌∷◌, ◌++◌, Option, None, Some, codes}
use Rattle.std.specs.Fmt.{signed_decimal}
use Rattle.std.specs.List.{flat_map, join_with_byte}
use Rattle.own_base.specs.declared.value.Key.{Key}
use Rattle.own_base.specs.declared.value.Key.TheVariants as key
use Rattle.own_base.specs.declared.value.Value.{Value}
use Rattle.own_base.specs.declared.value.Value.TheVariants.{Null, Int, Text, Sum}
use Rattle.own_model.specs.declared.select.ColRef.{ColRef}
use Rattle.sql_lex.specs.Tokens.{quoted}

abbrev pub Words : Type 0
Words = List (List ℕ)

-- the words in a row, with one space between
unfoldable pub spaced : Words → List ℕ
spaced words = join_with_byte 32 words

-- one word
abbrev pub word : List ℕ → Words
word bytes = bytes ∷ []

-- no words where there is nothing
abbrev pub words_of : {A : Type 0} → (A → Words) → Option A → Words
words_of words None = []
words_of words (Some found) = words found

-- the parts, with a separator before each
abbrev pub others : {A : Type 0} → List ℕ → (A → Words) → List A → Words
others separator words parts = flat_map (λ part. separator ∷ words part) parts

-- the parts, with a separator between
abbrev pub separated : {A : Type 0} → List ℕ → (A → Words) → List A → Words
separated separator words [] = []
separated separator words (first ∷ rest) = words first ++ others separator words rest

-- the parts, with a comma between
abbrev pub listed : {A : Type 0} → (A → Words) → List A → Words
listed words parts = separated (codes ",") words parts

-- in brackets
abbrev pub bracketed : Words → Words
bracketed words = codes "(" ∷ (words ++ codes ")" ∷ [])

-- names, with a comma between
abbrev pub names_words : List (List ℕ) → Words
names_words names = listed word names

-- a column, with its table before it where that is named
unfoldable pub column_words : ColRef → Words
column_words column = words_of (λ table. table ∷ codes "." ∷ []) column.table ++ column.column ∷ []

-- a number with its sign, or a text in quotes
unfoldable pub literal_word : Value → List ℕ
literal_word Null = codes "NULL"
literal_word (Int number) = signed_decimal number
literal_word (Text bytes) = quoted bytes
literal_word (Sum number) = signed_decimal number

-- the key of a data subject
unfoldable pub key_word : Key → List ℕ
key_word (key.Int number) = signed_decimal number
key_word (key.Text bytes) = quoted bytes

abbrev pub literal_words : Value → Words
literal_words value = word (literal_word value)
