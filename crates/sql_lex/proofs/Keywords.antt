-- The keywords by how many letters they have.
use Rattle.std.proofs.Common.{◌≡◌, ℕ, zero, suc, ◌<◌, ◌≤◌, List, [], ◌∷◌, Bool, true, false, cond, refl, sym, ap, ◌∙◌, map, length, arith}
use Rattle.std.specs.Prelude.{codes, ◌==◌, ◌||◌, bytes_eq, nat_lt, slice_index_or}
use Rattle.std.specs.Char.{to_ascii_lowercase}
use Rattle.std.specs.List.{list_all, list_any}
use Rattle.std.specs.Str.{str_eq_ignore_ascii_case, str_to_ascii_lowercase}
use Rattle.std.proofs.lemmas.Bool.{and_parts, eq-eqb, false≢true, ne_eqb}
use Rattle.std.proofs.lemmas.Bool.Decides.{nat_tests}
use Rattle.std.proofs.lemmas.List.{length-map}
use Rattle.std.proofs.lemmas.Slice.Eq.{bytes_eq-Decides}
use Rattle.sql_lex.specs.Keywords.{is_keyword, keywords, of_length}

-- those of none, of one, and so on
abbrev pub table : List (List (List ℕ))
table =
    []
    ∷ []
    ∷ (codes "AS" ∷ codes "BY" ∷ codes "IS" ∷ codes "ON" ∷ codes "OR" ∷ [])
    ∷ (codes "AND" ∷ codes "ASC" ∷ codes "CTX" ∷ codes "DEL" ∷ codes "GET" ∷ codes "INT" ∷ codes "KEY" ∷ codes "NOT" ∷ codes "SET" ∷ [])
    ∷ (codes "ANON" ∷ codes "DESC" ∷ codes "FROM" ∷ codes "GDPR" ∷ codes "INTO" ∷ codes "JOIN" ∷ codes "NULL" ∷ codes "ONLY" ∷ codes "OWNS" ∷ codes "TEXT" ∷ codes "VIEW" ∷ [])
    ∷ (codes "BEGIN" ∷ codes "GROUP" ∷ codes "INNER" ∷ codes "ORDER" ∷ codes "START" ∷ codes "TABLE" ∷ codes "WHERE" ∷ [])
    ∷ (codes "COMMIT" ∷ codes "CREATE" ∷ codes "DELETE" ∷ codes "FORGET" ∷ codes "INSERT" ∷ codes "SELECT" ∷ codes "UNIQUE" ∷ codes "UPDATE" ∷ codes "VALUES" ∷ [])
    ∷ (codes "EXPLAIN" ∷ codes "FOREIGN" ∷ codes "PRIMARY" ∷ [])
    ∷ (codes "ACCESSES" ∷ codes "OWNED_BY" ∷ codes "ROLLBACK" ∷ [])
    ∷ []
    ∷ (codes "CHECKPOINT" ∷ codes "COMPLIANCE" ∷ codes "DELETE_ROW" ∷ codes "REFERENCES" ∷ [])
    ∷ (codes "ACCESSED_BY" ∷ codes "TRANSACTION" ∷ [])
    ∷ (codes "DATA_SUBJECT" ∷ [])
    ∷ []

-- no keyword has more letters
none_past : (words : List (List ℕ)) → list_all (λ word. nat_lt (length word) 13) words ≡ true → (letters : ℕ) → 13 ≤ letters → of_length letters words ≡ []
none_past [] short letters long = refl
none_past (word ∷ words) short letters long =
    let both = and_parts (nat_lt (length word) 13) (list_all (λ word. nat_lt (length word) 13) words) short in
    let below : length word < 13 = grind (arith, nat_tests, both) in
    rw (ne_eqb (length word) letters (λ same. absurd (omega (arith, same)))) (none_past words both.1 letters long)

pub from_table : (letters : ℕ) → slice_index_or table letters [] ≡ of_length letters keywords
unfolding keywords
from_table zero = refl
from_table (suc zero) = refl
from_table (suc (suc zero)) = refl
from_table (suc (suc (suc zero))) = refl
from_table (suc (suc (suc (suc zero)))) = refl
from_table (suc (suc (suc (suc (suc zero))))) = refl
from_table (suc (suc (suc (suc (suc (suc zero)))))) = refl
from_table (suc (suc (suc (suc (suc (suc (suc zero))))))) = refl
from_table (suc (suc (suc (suc (suc (suc (suc (suc zero)))))))) = refl
from_table (suc (suc (suc (suc (suc (suc (suc (suc (suc zero))))))))) = refl
from_table (suc (suc (suc (suc (suc (suc (suc (suc (suc (suc zero)))))))))) = refl
from_table (suc (suc (suc (suc (suc (suc (suc (suc (suc (suc (suc zero))))))))))) = refl
from_table (suc (suc (suc (suc (suc (suc (suc (suc (suc (suc (suc (suc zero)))))))))))) = refl
from_table (suc (suc (suc (suc (suc (suc (suc (suc (suc (suc (suc (suc (suc more))))))))))))) = sym (none_past keywords refl (suc (suc (suc (suc (suc (suc (suc (suc (suc (suc (suc (suc (suc more))))))))))))) (omega arith))

-- the same bytes are one list
bytes_same : (xs ys : List ℕ) → bytes_eq xs ys ≡ true → xs ≡ ys
bytes_same xs ys is = (bytes_eq-Decides xs ys).0 is

-- a word of another length is another word
other_length : (one other : List ℕ) → (length one ≡ length other → ⊥) → str_eq_ignore_ascii_case one other ≡ false
other_length one other apart = by (str_eq_ignore_ascii_case one other) refl
  where
    by : (b : Bool) → str_eq_ignore_ascii_case one other ≡ b → b ≡ false
    by true is =
        let letters : str_to_ascii_lowercase one ≡ str_to_ascii_lowercase other = bytes_same (str_to_ascii_lowercase one) (str_to_ascii_lowercase other) is in
        absurd (apart (sym (length-map one to_ascii_lowercase) ∙ (ap length letters ∙ length-map other to_ascii_lowercase)))
    by false is = refl

-- so only words of its length have to be compared with a word
any_of_length : (word : List ℕ) (words : List (List ℕ)) → list_any (λ one. str_eq_ignore_ascii_case one word) (of_length (length word) words) ≡ list_any (λ one. str_eq_ignore_ascii_case one word) words
any_of_length word [] = refl
any_of_length word (one ∷ words) = by (any_of_length word words) (length one == length word) refl
  where
    test : List ℕ → Bool
    test one = str_eq_ignore_ascii_case one word

    by : list_any test (of_length (length word) words) ≡ list_any test words → (b : Bool) → (length one == length word) ≡ b → list_any test (cond b (one ∷ of_length (length word) words) (of_length (length word) words)) ≡ (test one || list_any test words)
    by rest true is = ap (λ others. test one || others) rest
    by rest false is = rest ∙ sym (ap (λ b. b || list_any test words) (other_length one word (λ same. false≢true (sym is ∙ eq-eqb (length one) (length word) same))))

any_lent : {W : Type 0} (now : W → List ℕ) (test : List ℕ → Bool) (words : List W) → list_any (λ word. test (now word)) words ≡ list_any test (map now words)
any_lent now test [] = refl
any_lent now test (word ∷ words) = ap (λ rest. test (now word) || rest) (any_lent now test words)

-- a word is a keyword where it is one of those of its length
pub keyword_is : {W : Type 0} (now : W → List ℕ) (word : List ℕ) (words : List W) → map now words ≡ of_length (length word) keywords → list_any (λ one. str_eq_ignore_ascii_case (now one) word) words ≡ is_keyword word
keyword_is now word words same =
    any_lent now (λ one. str_eq_ignore_ascii_case one word) words
    ∙ (ap (list_any (λ one. str_eq_ignore_ascii_case one word)) same ∙ any_of_length word keywords)
