-- The marks, by their length and their first byte.
use Rattle.std.proofs.Common.{◌≡◌, ◌<◌, ◌≤◌, ℕ, Bool, true, false, List, [], ◌∷◌, length, take, refl, sym, ap, ◌∙◌, subst, arith}
use Rattle.std.specs.Prelude.{◌==◌, ◌||◌, ◌&&◌, not, nat_lt, nat_le}
use Rattle.std.specs.Char.{is_ascii_digit}
use Rattle.std.specs.List.{list_all, list_any}
use Rattle.std.specs.Str.{bytes_eq}
use Rattle.std.proofs.lemmas.Bool.{false≢true}
use Rattle.std.proofs.lemmas.Slice.Eq.{bytes_eq-Decides}
use Rattle.sql_lex.specs.declared.token.TokenKind.TheVariants.{Mark}
use Rattle.sql_lex.specs.Bytes.{begins_word, first_passes}
use Rattle.sql_lex.specs.Tokens.{marks, is_mark, goes_on, Begins, Scans}

-- both parts of a test that holds
pub both : (a b : Bool) → (a && b) ≡ true → (a ≡ true) × (b ≡ true)
both true b holds = (refl, holds)
both false b holds = absurd (false≢true holds)

-- a test that isn't true is false
pub not_true : (a : Bool) → (a ≡ true → ⊥) → a ≡ false
not_true true h = absurd (h refl)
not_true false h = refl

-- what each of a list passes, one of them passes
pub passes_among : (test : List ℕ → Bool) (all : List (List ℕ)) (bytes : List ℕ) → list_all test all ≡ true → list_any (λ mark. bytes_eq mark bytes) all ≡ true → test bytes ≡ true
passes_among test [] bytes each among = absurd (false≢true among)
passes_among test (mark ∷ all) bytes each among =
    let parts = both (test mark) (list_all test all) each in
    let others = λ (h : list_any (λ mark. bytes_eq mark bytes) all ≡ true). passes_among test all bytes parts.1 h in
    by_first (bytes_eq mark bytes) refl others
  where
    by_first : (b : Bool) → bytes_eq mark bytes ≡ b → (list_any (λ mark. bytes_eq mark bytes) all ≡ true → test bytes ≡ true) → test bytes ≡ true
    by_first true same others = ap test (sym ((bytes_eq-Decides mark bytes).0 same)) ∙ (both (test mark) (list_all test all) each).0
    by_first false other others = others (sym (ap (λ b. b || list_any (λ mark. bytes_eq mark bytes) all) other) ∙ among)

-- one or two bytes of ASCII, of which the first begins no other kind of token
abbrev is_short : List ℕ → Bool
is_short bytes = nat_lt 0 (length bytes) && nat_le (length bytes) 2

abbrev pub begins_no_other : ℕ → Bool
begins_no_other byte = not (begins_word byte) && not (is_ascii_digit byte) && not (byte == 39)

mark-short : (bytes : List ℕ) → is_mark bytes ≡ true → is_short bytes ≡ true
unfolding marks
mark-short bytes mark = passes_among is_short marks bytes refl mark

pub mark-first : (bytes : List ℕ) → is_mark bytes ≡ true → first_passes begins_no_other bytes ≡ true
unfolding marks
mark-first bytes mark = passes_among (first_passes begins_no_other) marks bytes refl mark

mark-ascii : (bytes : List ℕ) → is_mark bytes ≡ true → list_all (λ byte. nat_lt byte 128) bytes ≡ true
unfolding marks
mark-ascii bytes mark = passes_among (list_all (λ byte. nat_lt byte 128)) marks bytes refl mark

-- a mark has one or two bytes
pub mark-length : (bytes : List ℕ) → is_mark bytes ≡ true → (0 < length bytes) × (length bytes ≤ 2)
mark-length [] mark = absurd (false≢true (mark-short [] mark))
mark-length (a ∷ []) mark = (omega arith, omega arith)
mark-length (a ∷ b ∷ []) mark = (omega arith, omega arith)
mark-length (a ∷ b ∷ c ∷ bytes) mark = absurd (grind (arith, mark-short (a ∷ b ∷ c ∷ bytes) mark))

ascii : (byte : ℕ) → nat_lt byte 128 ≡ true → byte < 128
ascii byte passes = grind (arith, passes)

-- three bytes are no mark
long-no_mark : (a b c : ℕ) → is_mark (a ∷ b ∷ c ∷ []) ≡ false
long-no_mark a b c = not_true (is_mark (a ∷ b ∷ c ∷ [])) (λ mark. absurd (omega (arith, (mark-length (a ∷ b ∷ c ∷ []) mark).1)))

-- two bytes at the front are a mark
pub two-scans : (bytes : List ℕ) → 2 ≤ length bytes → is_mark (take 2 bytes) ≡ true → Scans bytes Mark 2
two-scans [] long mark = absurd (omega arith)
two-scans (a ∷ []) long mark = absurd (omega arith)
two-scans (a ∷ b ∷ rest) long mark =
    record {
      some = omega arith;
      within = long;
      begins = record { split = refl; spelled = search mark; whole = stops rest };
      first = ascii a (both _ _ (mark-ascii (a ∷ b ∷ []) mark)).0;
      last = ascii b (both _ _ (both _ _ (mark-ascii (a ∷ b ∷ []) mark)).1).0;
    }
  where
    stops : (rest : List ℕ) → first_passes (goes_on Mark (a ∷ b ∷ [])) rest ≡ false
    stops [] = refl
    stops (c ∷ rest) = long-no_mark a b c

-- one byte at the front is a mark, and two aren't
pub one-scans : (bytes : List ℕ) → 1 ≤ length bytes → (2 ≤ length bytes → is_mark (take 2 bytes) ≡ false) → is_mark (take 1 bytes) ≡ true → Scans bytes Mark 1
one-scans [] long single mark = absurd (omega arith)
one-scans (a ∷ rest) long single mark =
    record {
      some = omega arith;
      within = long;
      begins = record { split = refl; spelled = search mark; whole = stops rest single };
      first = ascii a (both _ _ (mark-ascii (a ∷ []) mark)).0;
      last = ascii a (both _ _ (mark-ascii (a ∷ []) mark)).0;
    }
  where
    stops : (rest : List ℕ) → (2 ≤ length (a ∷ rest) → is_mark (take 2 (a ∷ rest)) ≡ false) → first_passes (goes_on Mark (a ∷ [])) rest ≡ false
    stops [] single = refl
    stops (b ∷ rest) single = single (omega arith)

-- neither two bytes at the front are a mark, nor is one
pub no-mark : (bytes token after : List ℕ) → (2 ≤ length bytes → is_mark (take 2 bytes) ≡ false) → (1 ≤ length bytes → is_mark (take 1 bytes) ≡ false) → Begins Mark bytes token after → ⊥
no-mark bytes [] after two one begins = absurd (omega (arith, (mark-length [] (search begins.spelled)).0))
no-mark bytes (a ∷ []) after two one begins =
    false≢true (sym (subst (λ l. 1 ≤ length l → is_mark (take 1 l) ≡ false) begins.split one (omega arith)) ∙ search begins.spelled)
no-mark bytes (a ∷ b ∷ []) after two one begins =
    false≢true (sym (subst (λ l. 2 ≤ length l → is_mark (take 2 l) ≡ false) begins.split two (omega arith)) ∙ search begins.spelled)
no-mark bytes (a ∷ b ∷ c ∷ token) after two one begins = omega (arith, (mark-length (a ∷ b ∷ c ∷ token) (search begins.spelled)).1)
