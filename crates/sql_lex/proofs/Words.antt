-- Runs of bytes that pass a test: words and numbers.
use Rattle.std.proofs.Common.{◌≡◌, ◌<◌, ◌≤◌, ◌-◌, ℕ, Bool, true, false, List, [], ◌∷◌, length, get_or, take, drop, refl, sym, ap, ◌∙◌, arith, zero, suc, add-zero}
use Rattle.std.specs.Prelude.{◌&&◌}
use Rattle.std.specs.Char.{is_ascii_digit}
use Rattle.std.specs.List.{list_all}
use Rattle.std.proofs.lemmas.Bool.{false≢true}
use Rattle.std.proofs.lemmas.List.{take-append-drop, length-take-le, length-drop, get_or-drop, get_or-take}
use Rattle.sql_lex.specs.declared.token.TokenKind.{TokenKind}
use Rattle.sql_lex.specs.declared.token.TokenKind.TheVariants.{Name, Keyword, Number}
use Rattle.sql_lex.specs.Bytes.{begins_word, continues_word, first_passes}
use Rattle.sql_lex.specs.Keywords.{is_keyword}
use Rattle.sql_lex.specs.Tokens.{is_word, is_number, IsSpelled, goes_on, Scans}

-- the first `len` bytes pass, and the next doesn't
pub record IsRun (test : ℕ → Bool) (bytes : List ℕ) (len : ℕ) : Type 0 where
  pub within : len ≤ length bytes
  pub each : (k : ℕ) → k < len → test (get_or bytes k 0) ≡ true
  pub ends : len < length bytes → test (get_or bytes len 0) ≡ false

-- each of a list passes, where each does by its index
list_all-each : (test : ℕ → Bool) (bytes : List ℕ) → ((k : ℕ) → k < length bytes → test (get_or bytes k 0) ≡ true) → list_all test bytes ≡ true
list_all-each test [] each = refl
list_all-each test (byte ∷ bytes) each =
    let rest = list_all-each test bytes (λ k within. each (suc k) (omega arith)) in
    let first : test byte ≡ true = each 0 (omega arith) in
    simp (first, rest)

-- the bytes of a run all pass
pub run-passes : (test : ℕ → Bool) (bytes : List ℕ) (len : ℕ) → IsRun test bytes len → list_all test (take len bytes) ≡ true
run-passes test bytes len run =
    list_all-each test (take len bytes) (λ k within.
    let below : k < len = omega (arith, length-take-le len bytes run.within) in
    ap test (get_or-take len bytes k 0 below) ∙ run.each k below)

-- what follows a run doesn't begin with a byte that passes
pub run-stops : (test : ℕ → Bool) (bytes : List ℕ) (len : ℕ) → IsRun test bytes len → first_passes test (drop len bytes) ≡ false
run-stops test bytes len run =
    first_passes-get test (drop len bytes) (λ some. ap test (get_or-drop len bytes 0 0 ∙ ap (λ n. get_or bytes n 0) (add-zero len)) ∙ run.ends (omega (arith, length-drop len bytes)))
  where
    first_passes-get : (test : ℕ → Bool) (bytes : List ℕ) → (0 < length bytes → test (get_or bytes 0 0) ≡ false) → first_passes test bytes ≡ false
    first_passes-get test [] fails = refl
    first_passes-get test (byte ∷ bytes) fails = fails (omega arith)

-- a byte of a word is ASCII
word_byte-ascii : (byte : ℕ) → continues_word byte ≡ true → byte < 128
word_byte-ascii byte passes = grind (arith, passes)

-- a digit is ASCII
digit-ascii : (byte : ℕ) → is_ascii_digit byte ≡ true → byte < 128
digit-ascii byte passes = grind (arith, passes)

-- what begins a word may stand in it
begins-continues : (byte : ℕ) → begins_word byte ≡ true → continues_word byte ≡ true
begins-continues byte passes = grind (arith, passes)

-- a run whose first byte passes isn't empty
pub run-some : (test : ℕ → Bool) (bytes : List ℕ) (len : ℕ) → IsRun test bytes len → first_passes test bytes ≡ true → 0 < len
run-some test [] len run first = absurd (false≢true first)
run-some test (byte ∷ bytes) zero run first = absurd (false≢true (sym (run.ends (omega arith)) ∙ first))
run-some test (byte ∷ bytes) (suc len) run first = omega arith

-- both parts of a test that holds
pub both : (a b : Bool) → (a && b) ≡ true → (a ≡ true) × (b ≡ true)
both true b holds = (refl, holds)
both false b holds = absurd (false≢true holds)

-- a token that is a run, with its first and last byte
pub run-scans : (kind : TokenKind) (test : ℕ → Bool) (bytes : List ℕ) (len : ℕ) → IsRun test bytes len → 0 < len → ((byte : ℕ) → test byte ≡ true → byte < 128) → IsSpelled kind (take len bytes) → first_passes (goes_on kind (take len bytes)) (drop len bytes) ≡ false → Scans bytes kind len
run-scans kind test bytes len run some ascii spelled whole =
    record {
      some = some;
      within = run.within;
      begins = record { split = sym (take-append-drop len bytes); spelled = spelled; whole = whole };
      first = ascii _ (run.each 0 some);
      last = ascii _ (run.each (len - 1) (omega arith));
    }

begins_first : (bytes : List ℕ) → first_passes begins_word bytes ≡ true → first_passes continues_word bytes ≡ true
begins_first [] begins = begins
begins_first (byte ∷ bytes) begins = begins-continues byte begins

-- a run of a word's bytes that begins as a word is a word
word-spelled : (bytes : List ℕ) (len : ℕ) → first_passes begins_word bytes ≡ true → 0 < len → list_all continues_word (take len bytes) ≡ true → is_word (take len bytes) ≡ true
word-spelled [] len begins some all = absurd (false≢true begins)
word-spelled (byte ∷ bytes) zero begins some all = absurd (omega arith)
word-spelled (byte ∷ bytes) (suc len) begins some all =
    let rest = (both (continues_word byte) (list_all continues_word (take len bytes)) all).1 in
    (λ i. begins i && rest i)

number-spelled : (bytes : List ℕ) (len : ℕ) → first_passes is_ascii_digit bytes ≡ true → 0 < len → list_all is_ascii_digit (take len bytes) ≡ true → is_number (take len bytes) ≡ true
number-spelled [] len begins some all = absurd (false≢true begins)
number-spelled (byte ∷ bytes) zero begins some all = absurd (omega arith)
number-spelled (byte ∷ bytes) (suc len) begins some all = all

pub keyword-scans : (bytes : List ℕ) (len : ℕ) → IsRun continues_word bytes len → first_passes begins_word bytes ≡ true → is_keyword (take len bytes) ≡ true → Scans bytes Keyword len
keyword-scans bytes len run begins keyword =
    let some = run-some _ bytes len run (begins_first bytes begins) in
    run-scans Keyword continues_word bytes len run some word_byte-ascii
    (search (word-spelled bytes len begins some (run-passes _ bytes len run)), search keyword)
    (run-stops _ bytes len run)

pub name-scans : (bytes : List ℕ) (len : ℕ) → IsRun continues_word bytes len → first_passes begins_word bytes ≡ true → is_keyword (take len bytes) ≡ false → Scans bytes Name len
name-scans bytes len run begins keyword =
    let some = run-some _ bytes len run (begins_first bytes begins) in
    run-scans Name continues_word bytes len run some word_byte-ascii
    (search (word-spelled bytes len begins some (run-passes _ bytes len run)), keyword)
    (run-stops _ bytes len run)

pub number-scans : (bytes : List ℕ) (len : ℕ) → IsRun is_ascii_digit bytes len → first_passes is_ascii_digit bytes ≡ true → Scans bytes Number len
number-scans bytes len run begins =
    let some = run-some _ bytes len run begins in
    run-scans Number is_ascii_digit bytes len run some digit-ascii
    (search (number-spelled bytes len begins some (run-passes _ bytes len run)))
    (run-stops _ bytes len run)
