-- The words that can't be names.
use Rattle.std.specs.Prelude.{ℕ, Bool, List, [], ◌∷◌, ◌==◌, codes, filter, length}
use Rattle.std.specs.List.{list_any}
use Rattle.std.specs.Str.{str_eq_ignore_ascii_case}

-- the keywords, in capitals
unfoldable pub keywords : List (List ℕ)
keywords =
    codes "ACCESSED_BY" ∷ codes "ACCESSES" ∷ codes "AND" ∷ codes "ANON" ∷ codes "AS" ∷ codes "ASC" ∷ codes "BEGIN"
    ∷ codes "BY" ∷ codes "CHECKPOINT" ∷ codes "COMMIT" ∷ codes "COMPLIANCE" ∷ codes "CREATE" ∷ codes "CTX"
    ∷ codes "DATA_SUBJECT" ∷ codes "DEL" ∷ codes "DELETE" ∷ codes "DELETE_ROW" ∷ codes "DESC" ∷ codes "EXPLAIN"
    ∷ codes "FOREIGN" ∷ codes "FORGET" ∷ codes "FROM" ∷ codes "GDPR" ∷ codes "GET" ∷ codes "GROUP" ∷ codes "INNER"
    ∷ codes "INSERT" ∷ codes "INT" ∷ codes "INTO" ∷ codes "IS" ∷ codes "JOIN" ∷ codes "KEY" ∷ codes "NOT"
    ∷ codes "NULL" ∷ codes "ON" ∷ codes "ONLY" ∷ codes "OR" ∷ codes "ORDER" ∷ codes "OWNED_BY" ∷ codes "OWNS"
    ∷ codes "PRIMARY" ∷ codes "REFERENCES" ∷ codes "ROLLBACK" ∷ codes "SELECT" ∷ codes "SET" ∷ codes "START"
    ∷ codes "TABLE" ∷ codes "TEXT" ∷ codes "TRANSACTION" ∷ codes "UNIQUE" ∷ codes "UPDATE" ∷ codes "VALUES"
    ∷ codes "VIEW" ∷ codes "WHERE" ∷ []

-- a keyword, in any case
abbrev pub is_keyword : List ℕ → Bool
is_keyword word = list_any (λ keyword. str_eq_ignore_ascii_case keyword word) keywords

-- those of so many letters
abbrev pub of_length : ℕ → List (List ℕ) → List (List ℕ)
of_length letters words = filter (λ word. length word == letters) words
