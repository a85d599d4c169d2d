-- What a token is.
use Rattle.std.specs.Prelude.{◌≡◌, ◌<◌, ◌≤◌, ◌+◌, ◌-◌, ℕ, Bool, false, ◌==◌, ◌&&◌, IsTrue, length, take, drop, slice_index, List, [], ◌∷◌, ◌++◌, codes, if◌then◌else◌}
use Rattle.std.specs.Char.{is_ascii_digit}
use Rattle.std.specs.List.{flat_map, list_all, list_any}
use Rattle.std.specs.Str.{bytes_eq}
use Rattle.sql_lex.specs.declared.token.TokenKind.{TokenKind}
use Rattle.sql_lex.specs.declared.token.TokenKind.TheVariants.{Name, Keyword, Number, Quoted, Mark}
use Rattle.sql_lex.specs.Bytes.{begins_word, continues_word, first_passes}
use Rattle.sql_lex.specs.Keywords.{is_keyword}

-- a letter or `_`, and then letters, digits or `_`
abbrev pub is_word : List ℕ → Bool
is_word [] = false
is_word (first ∷ rest) = begins_word first && list_all continues_word rest

-- a run of digits
abbrev pub is_number : List ℕ → Bool
is_number [] = false
is_number (first ∷ rest) = is_ascii_digit first && list_all is_ascii_digit rest

-- how a text stands between its quotes: each quote in it is doubled
abbrev pub doubled : List ℕ → List ℕ
doubled = flat_map (λ byte. if byte == 39 then 39 ∷ 39 ∷ [] else byte ∷ [])

-- a text in its quotes
abbrev pub quoted : List ℕ → List ℕ
quoted value = 39 ∷ doubled value ++ 39 ∷ []

-- the marks
unfoldable pub marks : List (List ℕ)
marks =
    codes "(" ∷ codes ")" ∷ codes "," ∷ codes "." ∷ codes "=" ∷ codes "<>" ∷ codes "!=" ∷ codes "<" ∷ codes "<="
    ∷ codes ">" ∷ codes ">=" ∷ codes "+" ∷ codes "-" ∷ codes "*" ∷ []

abbrev pub is_mark : List ℕ → Bool
is_mark bytes = list_any (λ mark. bytes_eq mark bytes) marks

-- how the tokens of each kind are spelled
abbrev pub IsSpelled : TokenKind → List ℕ → Type 0
IsSpelled Name bytes = IsTrue (is_word bytes) × (is_keyword bytes ≡ false)
IsSpelled Keyword bytes = IsTrue (is_word bytes) × IsTrue (is_keyword bytes)
IsSpelled Number bytes = IsTrue (is_number bytes)
IsSpelled Quoted bytes = (value : List ℕ) × (bytes ≡ quoted value)
IsSpelled Mark bytes = IsTrue (is_mark bytes)

-- a token that is spelled so goes on over a byte
abbrev pub goes_on : TokenKind → List ℕ → ℕ → Bool
goes_on Name token next = continues_word next
goes_on Keyword token next = continues_word next
goes_on Number token next = is_ascii_digit next
goes_on Quoted token next = next == 39
goes_on Mark token next = is_mark (token ++ next ∷ [])

-- the bytes begin with a token, which ends where these bytes follow
pub record Begins (kind : TokenKind) (bytes token after : List ℕ) : Type 0 where
  pub split : bytes ≡ token ++ after
  pub spelled : IsSpelled kind token
  pub whole : first_passes (goes_on kind token) after ≡ false

-- a text begins with a token of that many bytes, of which the first and the last are ASCII
pub record Scans (bytes : List ℕ) (kind : TokenKind) (len : ℕ) : Type 0 where
  pub some : 0 < len
  pub within : len ≤ length bytes
  pub begins : Begins kind bytes (take len bytes) (drop len bytes)
  pub first : slice_index bytes 0 < 128
  pub last : slice_index bytes (len - 1) < 128

-- after an opening quote: that many bytes go up to and with the quote that closes the text
pub record Closes (bytes : List ℕ) (len : ℕ) : Type 0 where
  pub value : List ℕ
  pub after : List ℕ
  pub split : bytes ≡ doubled value ++ 39 ∷ after
  pub whole : first_passes (λ byte. byte == 39) after ≡ false
  pub ends : len ≡ length (doubled value) + 1
