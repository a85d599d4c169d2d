-- Reading a text: whether there is one at the front of the bytes.
use Rattle.std.proofs.Common.{◌≡◌, ℕ, ◌≤◌, Bool, true, false, List, length, take, drop, refl}
use Rattle.std.specs.Prelude.{Some, None, IsUtf8}
use Rattle.std.specs.Int.{w32}
use Rattle.std.specs.Str.{is_utf8}
use Rattle.std.proofs.lemmas.Bool.{le-ltb}
use Rattle.std.proofs.lemmas.Str.{IsUtf8-from_is_utf8, is_utf8-from_IsUtf8}
use Rattle.disk_fields.specs.Reading.{number_at, text_at}

not_utf8 : (bytes : List ℕ) → ¬ (IsUtf8 bytes) → (b : Bool) → is_utf8 bytes ≡ b → is_utf8 bytes ≡ false
not_utf8 bytes none true is = absurd (none (IsUtf8-from_is_utf8 bytes is))
not_utf8 bytes none false is = is

pub is_text : (most n : ℕ) (bytes rest front back : List ℕ) → number_at w32 bytes ≡ Some (n, rest) → n ≤ most → n ≤ length rest
    → front ≡ take n rest → back ≡ drop n rest → IsUtf8 front → text_at most bytes ≡ Some (front, back)
unfolding text_at
is_text most n bytes rest front back number few long front-is back-is encoded =
    let utf8 : is_utf8 (take n rest) ≡ true = rw (← front-is) (is_utf8-from_IsUtf8 front encoded) in
    rw (number, le-ltb most n few, le-ltb (length rest) n long, utf8, front-is, back-is) refl

pub is_no_text : (most n : ℕ) (bytes rest front : List ℕ) → number_at w32 bytes ≡ Some (n, rest) → n ≤ most → n ≤ length rest
    → front ≡ take n rest → ¬ (IsUtf8 front) → text_at most bytes ≡ None
unfolding text_at
is_no_text most n bytes rest front number few long front-is none =
    let no : is_utf8 (take n rest) ≡ false = rw (← front-is) (not_utf8 front none (is_utf8 front) refl) in
    rw (number, le-ltb most n few, le-ltb (length rest) n long, no) refl
