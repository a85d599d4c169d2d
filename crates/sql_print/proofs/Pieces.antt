-- A text that is written in pieces, up to each byte that is written otherwise.
use Rattle.std.proofs.Common.{◌≡◌, ◌≢◌, ℕ, true, false, List, [], ◌∷◌, ◌++◌, get_or, All, refl, sym, ap, ◌∙◌, arith, suc, inl, inr, append_assoc}
use Rattle.std.specs.Prelude.{Bool, ◌==◌, ◌||◌, ◌/◌, ◌%◌, nat_lt, if◌then◌else◌}
use Rattle.std.specs.List.{flat_map}
use Rattle.std.proofs.lemmas.Bool.{true≢false}
use Rattle.std.proofs.lemmas.Bool.Decides.{eqb_tells}
use Rattle.text_model.specs.Shown.{hex_digit, shown_byte}
use Rattle.sql_print.specs.Escapes.{is_escaped}
use Rattle.std.proofs.lemmas.Grind.{flat_map-append}

-- bytes that are written as they are
pub flat_map-same : (write : ℕ → List ℕ) (bytes : List ℕ) → All (λ byte. write byte ≡ byte ∷ []) bytes → flat_map write bytes ≡ bytes
flat_map-same write [] same = refl
flat_map-same write (byte ∷ bytes) same = (λ i. same 0 0 (omega arith) i ++ flat_map-same write bytes (λ k d within. same (suc k) d (omega arith)) i)

-- the pieces so far, one more, and what is written in place of the byte after it
pub one_more_piece : (write : ℕ → List ℕ) (begun front back rest all : List ℕ) (byte : ℕ) → begun ++ flat_map write rest ≡ all → rest ≡ front ++ byte ∷ back → All (λ byte. write byte ≡ byte ∷ []) front
    → ((begun ++ front) ++ write byte) ++ flat_map write back ≡ all
one_more_piece write begun front back rest all byte so_far split same =
    append_assoc (begun ++ front) (write byte) (flat_map write back) ∙ append_assoc begun front (write byte ++ flat_map write back)
    ∙ ap (λ l. begun ++ l) (ap (λ l. l ++ (write byte ++ flat_map write back)) (sym (flat_map-same write front same)) ∙ sym (flat_map-append write front (byte ∷ back)) ∙ ap (flat_map write) (sym split))
    ∙ so_far

-- the last piece
pub last_piece : (write : ℕ → List ℕ) (begun rest all : List ℕ) → begun ++ flat_map write rest ≡ all → All (λ byte. write byte ≡ byte ∷ []) rest → begun ++ rest ≡ all
last_piece write begun rest all so_far same = ap (λ l. begun ++ l) (sym (flat_map-same write rest same)) ∙ so_far

-- a byte of a text in quotes
abbrev pub double_quote : ℕ → List ℕ
double_quote byte = if byte == 39 then 39 ∷ 39 ∷ [] else byte ∷ []

-- a byte that is no quote represents itself
pub no_quote-same : (bytes : List ℕ) → All (λ byte. byte ≢ 39) bytes → All (λ byte. double_quote byte ≡ byte ∷ []) bytes
no_quote-same bytes plain = λ k d within.
    elim (eqb_tells (get_or bytes k d) 39) [
      | inl h ↦ absurd (plain k d within h.1)
      | inr h ↦ ap (λ b. if b then 39 ∷ 39 ∷ [] else get_or bytes k d ∷ []) h.0
    ]

-- the same, by what the two tests answer
shown-same : (byte : ℕ) (quote other : Bool) → (quote || other) ≡ false → (if quote then 39 ∷ 39 ∷ [] else if other then 92 ∷ hex_digit (byte / 16) ∷ hex_digit (byte % 16) ∷ [] else byte ∷ []) ≡ byte ∷ []
shown-same byte true other plain = absurd (true≢false plain)
shown-same byte false true plain = absurd (true≢false plain)
shown-same byte false false plain = refl

-- a byte that isn't escaped is shown as it is
pub no_escape-same : (bytes : List ℕ) → All (λ byte. is_escaped byte ≡ false) bytes → All (λ byte. shown_byte byte ≡ byte ∷ []) bytes
no_escape-same bytes plain = λ k d within. let byte = get_or bytes k d in shown-same byte (byte == 39) (nat_lt byte 32 || byte == 127 || byte == 92) (plain k d within)
