-- The first byte of a token tells its kind.
use Rattle.std.proofs.Common.{◌≡◌, ◌<◌, ◌+◌, ◌-◌, ℕ, Bool, true, false, List, [], ◌∷◌, ◌++◌, length, get_or, drop, refl, sym, ap, ◌∙◌, subst, arith, append_assoc}
use Rattle.std.specs.Prelude.{◌==◌}
use Rattle.std.specs.Char.{is_ascii_digit}
use Rattle.std.proofs.lemmas.Bool.{false≢true}
use Rattle.std.proofs.lemmas.Bool.Decides.{Decides-eqb}
use Rattle.std.proofs.lemmas.List.{length-append, take-append-drop, get_or_append_left}
use Rattle.std.proofs.Math.Seq.{take-append_seam, drop-append_seam, get_or-append_seam}
use Rattle.sql_lex.specs.declared.token.TokenKind.{TokenKind}
use Rattle.sql_lex.specs.declared.token.TokenKind.TheVariants.{Name, Keyword, Number, Quoted, Mark}
use Rattle.sql_lex.specs.Bytes.{begins_word, first_passes}
use Rattle.sql_lex.specs.Tokens.{doubled, quoted, is_word, is_number, IsSpelled, goes_on, Begins, Scans, Closes}
use Rattle.sql_lex.proofs.Marks.{both, begins_no_other, mark-first}

-- what the first byte of a token of each kind is
abbrev pub begins_kind : TokenKind → ℕ → Bool
begins_kind Name byte = begins_word byte
begins_kind Keyword byte = begins_word byte
begins_kind Number byte = is_ascii_digit byte
begins_kind Quoted byte = byte == 39
begins_kind Mark byte = begins_no_other byte

word-first : (token : List ℕ) → is_word token ≡ true → first_passes begins_word token ≡ true
word-first [] word = absurd (false≢true word)
word-first (byte ∷ token) word = (both _ _ word).0

number-first : (token : List ℕ) → is_number token ≡ true → first_passes is_ascii_digit token ≡ true
number-first [] number = absurd (false≢true number)
number-first (byte ∷ token) number = (both _ _ number).0

spelled-first : (kind : TokenKind) (token : List ℕ) → IsSpelled kind token → first_passes (begins_kind kind) token ≡ true
spelled-first Name token spelled = word-first token (search spelled.0)
spelled-first Keyword token spelled = word-first token (search spelled.0)
spelled-first Number token spelled = number-first token (search spelled)
spelled-first Quoted token spelled = ap (first_passes (λ byte. byte == 39)) spelled.1
spelled-first Mark token spelled = mark-first token (search spelled)

first_passes-append : (test : ℕ → Bool) (token after : List ℕ) → first_passes test token ≡ true → first_passes test (token ++ after) ≡ true
first_passes-append test [] after first = absurd (false≢true first)
first_passes-append test (byte ∷ token) after first = first

-- the bytes begin as a token of the kind does
pub begins-first : (kind : TokenKind) (bytes token after : List ℕ) → Begins kind bytes token after → first_passes (begins_kind kind) bytes ≡ true
begins-first kind bytes token after begins =
    ap (first_passes (begins_kind kind)) begins.split ∙ first_passes-append (begins_kind kind) token after (spelled-first kind token begins.spelled)

-- the first byte, by its index
pub first_passes-index : (test : ℕ → Bool) (bytes : List ℕ) → 0 < length bytes → first_passes test bytes ≡ test (get_or bytes 0 0)
first_passes-index test [] some = absurd (omega arith)
first_passes-index test (byte ∷ bytes) some = refl

-- a token that the bytes begin with
pub scans-front : (kind : TokenKind) (bytes token after : List ℕ) → bytes ≡ token ++ after → 0 < length token → IsSpelled kind token → first_passes (goes_on kind token) after ≡ false → get_or token 0 0 < 128 → get_or token (length token - 1) 0 < 128 → Scans bytes kind (length token)
scans-front kind bytes token after split some spelled whole first last =
    let front = take-append_seam token after in
    let back = drop-append_seam token after in
    subst (λ b. Scans b kind (length token)) (sym split)
    (record {
      some = some;
      within = omega (arith, length-append token after);
      begins = record {
        split = sym (take-append-drop (length token) (token ++ after));
        spelled = subst (IsSpelled kind) (sym front) spelled;
        whole = (λ i. first_passes (goes_on kind (front i)) (back i)) ∙ whole;
      };
      first = subst (λ b. b < 128) (sym (get_or_append_left token after 0 0 some)) first;
      last = subst (λ b. b < 128) (sym (get_or_append_left token after 0 (length token - 1) (omega arith))) last;
    })

-- the last byte of a text in quotes is a quote
quoted-last : (value : List ℕ) → get_or (quoted value) (length (quoted value) - 1) 0 ≡ 39
quoted-last value =
    let place : length (quoted value) - 1 ≡ length (39 ∷ doubled value) = omega (arith, length-append (doubled value) (39 ∷ [])) in
    ap (λ n. get_or (quoted value) n 0) place ∙ get_or-append_seam (39 ∷ doubled value) 39 [] 0

-- after a quote a text that is closed is a token
pub quoted-scans : (bytes rest : List ℕ) (len : ℕ) → 0 < length bytes → get_or bytes 0 0 ≡ 39 → rest ≡ drop 1 bytes → Closes rest len → Scans bytes Quoted (1 + len)
quoted-scans [] rest len some quote behind closes = absurd (omega arith)
quoted-scans (byte ∷ bytes) rest len some quote behind closes =
    subst (Scans (byte ∷ bytes) Quoted) (omega (arith, closes.ends, length-append (doubled closes.value) (39 ∷ [])))
    (scans-front Quoted (byte ∷ bytes) (quoted closes.value) closes.after
    (λ i. quote i ∷ (sym behind ∙ closes.split ∙ sym (append_assoc (doubled closes.value) (39 ∷ []) closes.after)) i)
    (omega arith) (closes.value, refl) closes.whole (omega arith) (subst (λ b. b < 128) (sym (quoted-last closes.value)) (omega arith)))

-- a text in quotes at the front is closed after its first quote
pub quoted-closes : (bytes rest token after : List ℕ) → rest ≡ drop 1 bytes → Begins Quoted bytes token after → (len : ℕ) × Closes rest len
quoted-closes bytes rest token after behind begins =
    let value = begins.spelled.0 in (
      length (doubled value) + 1,
      record {
        value = value;
        after = after;
        split = behind ∙ ap (drop 1) (begins.split ∙ ap (λ l. l ++ after) begins.spelled.1) ∙ append_assoc (doubled value) (39 ∷ []) after;
        whole = begins.whole;
        ends = refl;
      },
    )

first-is : (kind : TokenKind) (bytes token after : List ℕ) → 0 < length bytes → Begins kind bytes token after → begins_kind kind (get_or bytes 0 0) ≡ true
first-is kind bytes token after some begins = sym (first_passes-index (begins_kind kind) bytes some) ∙ begins-first kind bytes token after begins

-- at a quote only a text in quotes can begin
pub only-quoted : (bytes : List ℕ) → 0 < length bytes → get_or bytes 0 0 ≡ 39 → ((token after : List ℕ) → Begins Quoted bytes token after → ⊥) → (kind : TokenKind) (token after : List ℕ) → Begins kind bytes token after → ⊥
only-quoted bytes some quote none Name token after begins = false≢true (ap begins_word (sym quote) ∙ first-is Name bytes token after some begins)
only-quoted bytes some quote none Keyword token after begins = false≢true (ap begins_word (sym quote) ∙ first-is Keyword bytes token after some begins)
only-quoted bytes some quote none Number token after begins = false≢true (ap is_ascii_digit (sym quote) ∙ first-is Number bytes token after some begins)
only-quoted bytes some quote none Quoted token after begins = none token after begins
only-quoted bytes some quote none Mark token after begins = false≢true (ap begins_no_other (sym quote) ∙ first-is Mark bytes token after some begins)

-- where neither a word nor a number nor a text in quotes begins, only a mark can
pub only-mark : (bytes : List ℕ) → 0 < length bytes → begins_word (get_or bytes 0 0) ≡ false → is_ascii_digit (get_or bytes 0 0) ≡ false → (get_or bytes 0 0 ≡ 39 → ⊥) → ((token after : List ℕ) → Begins Mark bytes token after → ⊥) → (kind : TokenKind) (token after : List ℕ) → Begins kind bytes token after → ⊥
only-mark bytes some word digit quote none Name token after begins = false≢true (sym word ∙ first-is Name bytes token after some begins)
only-mark bytes some word digit quote none Keyword token after begins = false≢true (sym word ∙ first-is Keyword bytes token after some begins)
only-mark bytes some word digit quote none Number token after begins = false≢true (sym digit ∙ first-is Number bytes token after some begins)
only-mark bytes some word digit quote none Quoted token after begins = quote ((Decides-eqb (get_or bytes 0 0) 39).0 (first-is Quoted bytes token after some begins))
only-mark bytes some word digit quote none Mark token after begins = none token after begins
