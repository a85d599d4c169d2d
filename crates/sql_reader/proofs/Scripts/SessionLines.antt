-- Which session a session line names.
use Rattle.std.proofs.Common.{◌≡◌, ◌<◌, ◌≤◌, ◌+◌, ◌-◌, ℕ, suc, true, false, List, [], ◌∷◌, length, drop, Some, None, refl, sym, ap, ◌∙◌, arith}
use Rattle.std.specs.Prelude.{nat_lt, ◌&&◌, ◌/◌, ◌%◌, if◌then◌else◌}
use Rattle.std.specs.Str.{bytes_eq}
use Rattle.std.proofs.lemmas.Bool.{agree_below_at, lt-ltb, le-ltb}
use Rattle.std.proofs.lemmas.Slice.Eq.{bytes_eq-Decides}
use Rattle.std.specs.Fmt.{decimal, digits}
use Rattle.std.specs.List.{find, list_all, range_with_len}
use Rattle.own_model.specs.declared.limit.TheConstants.{SESSIONS}
use Rattle.sql_lex.specs.Bytes.{is_space}
use Rattle.script_model.specs.Piece.{starts}
use Rattle.script_model.specs.Session.{session_of, names}

-- a number of at most two digits
abbrev pub two_digits : ℕ → List ℕ
two_digits number = if nat_lt number 10 then (48 + number % 10) ∷ [] else (48 + number / 10) ∷ (48 + number % 10) ∷ []

pub one_digit : (number : ℕ) → number < 10 → (48 + number % 10) ∷ [] ≡ two_digits number
one_digit number small = sym (ap (λ b. if b then (48 + number % 10) ∷ [] else (48 + number / 10) ∷ (48 + number % 10) ∷ []) (lt-ltb number 10 small))

pub both_digits : (number : ℕ) → 10 ≤ number → (48 + number / 10) ∷ (48 + number % 10) ∷ [] ≡ two_digits number
both_digits number great = sym (ap (λ b. if b then (48 + number % 10) ∷ [] else (48 + number / 10) ∷ (48 + number % 10) ∷ []) (le-ltb number 10 great))

-- the numbers of the sessions in decimal
pub decimal-session : (session : ℕ) → session ≤ SESSIONS → decimal session ≡ two_digits session
unfolding digits
decimal-session session within = (bytes_eq-Decides (decimal session) (two_digits session)).0 (agree_below_at (λ n. bytes_eq (decimal n) (two_digits n)) (λ n. true) 17 session refl (omega arith))

-- a line is the session's number, and then white space alone
pub names_by : (line number : List ℕ) (session : ℕ) → session ≤ SESSIONS → number ≡ two_digits session → (starts line number && list_all is_space (drop (length number) line)) ≡ names line session
names_by line number session within is = ap (λ l. starts line l && list_all is_space (drop (length l) line)) (is ∙ sym (decimal-session session within))

-- none of the sessions below this one is named
pub record PassedTo (line : List ℕ) (next : ℕ) : Type 0 where
  pub some : 1 ≤ next
  pub within : next ≤ SESSIONS + 1
  pub same : session_of line ≡ find (names line) (range_with_len next (SESSIONS + 1 - next))

pub PassedTo-start : (line : List ℕ) → PassedTo line 1
unfolding session_of
PassedTo-start line = record { some = omega arith; within = omega arith; same = refl }

left : (line : List ℕ) (next : ℕ) → PassedTo line next → next ≤ SESSIONS → session_of line ≡ (if names line next then Some next else find (names line) (range_with_len (next + 1) (SESSIONS + 1 - (next + 1))))
left line next passed more =
    let count : SESSIONS + 1 - next ≡ suc (SESSIONS + 1 - (next + 1)) = omega arith in
    passed.same ∙ ap (λ n. find (names line) (range_with_len next n)) count

-- the session is named
pub PassedTo-named : (line : List ℕ) (next : ℕ) → PassedTo line next → next ≤ SESSIONS → names line next ≡ true → Some next ≡ session_of line
PassedTo-named line next passed more named = sym (left line next passed more ∙ ap (λ b. if b then Some next else find (names line) (range_with_len (next + 1) (SESSIONS + 1 - (next + 1)))) named)

-- the session isn't named
pub PassedTo-more : (line : List ℕ) (next : ℕ) → PassedTo line next → next ≤ SESSIONS → names line next ≡ false → PassedTo line (next + 1)
PassedTo-more line next passed more other =
    record {
      some = omega arith;
      within = omega arith;
      same = left line next passed more ∙ ap (λ b. if b then Some next else find (names line) (range_with_len (next + 1) (SESSIONS + 1 - (next + 1)))) other;
    }

-- no session is named
pub PassedTo-end : (line : List ℕ) (next : ℕ) → PassedTo line next → SESSIONS < next → None ≡ session_of line
PassedTo-end line next passed past =
    let none : SESSIONS + 1 - next ≡ 0 = omega (arith, passed.within) in
    sym (passed.same ∙ ap (λ n. find (names line) (range_with_len next n)) none)
