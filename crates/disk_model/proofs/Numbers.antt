-- A number and its bytes.
use Rattle.std.proofs.Common.{◌≡◌, ℕ, zero, suc, ◌^◌, ◌<◌, List, [], ◌∷◌, ◌++◌, get_or, refl, sym, ap, subst, ◌∙◌, arith, rules}
use Rattle.std.specs.Prelude.{ℤ, pos, negsuc}
use Rattle.std.specs.Int.{w32, w64, byte_at, cast_signed, cast_unsigned, from_be_bytes, to_be_bytes}
use Rattle.std.specs.Int.RustNames.{FitsSigned}
use Rattle.std.proofs.lemmas.Nat.{be_bytes_4, be_bytes_8, from_be_bytes-to_be_bytes_4, from_be_bytes-to_be_bytes_8}
use Rattle.std.proofs.Math.Facts.{sfits_to_z}
use Rattle.std.proofs.lemmas.Int.{of_z-to_z, to_z-of_z}
use Rattle.disk_model.specs.Number.{IsNumber, IsSigned}
use Rattle.disk_model.specs.Spelling.{number_spelling}

four_bytes : (a b c d : ℕ) → a < 256 → b < 256 → c < 256 → d < 256 → (i : ℕ) → get_or (a ∷ b ∷ c ∷ d ∷ []) i 0 < 256
four_bytes a b c d ha hb hc hd zero = ha
four_bytes a b c d ha hb hc hd (suc zero) = hb
four_bytes a b c d ha hb hc hd (suc (suc zero)) = hc
four_bytes a b c d ha hb hc hd (suc (suc (suc zero))) = hd
four_bytes a b c d ha hb hc hd (suc (suc (suc (suc i)))) = omega arith

-- what four bytes say is what `from_be_bytes` gives
pub four_say : (a b c d n : ℕ) (rest : List ℕ) → a < 256 → b < 256 → c < 256 → d < 256 → from_be_bytes w32 (a ∷ b ∷ c ∷ d ∷ []) ≡ n → IsNumber 4 n (a ∷ b ∷ c ∷ d ∷ rest) rest
four_say a b c d n rest ha hb hc hd is = (ha, (hb, (hc, (hd, (omega arith, refl)))))

pub number4-spelled : (n : ℕ) (bytes rest : List ℕ) → IsNumber 4 n bytes rest → (bytes ≡ number_spelling 4 n ++ rest) × (n < 2 ^ 32)
number4-spelled n [] rest is = absurd is
number4-spelled n (a ∷ []) rest is = absurd is.1
number4-spelled n (a ∷ b ∷ []) rest is = absurd is.1.1
number4-spelled n (a ∷ b ∷ c ∷ []) rest is = absurd is.1.1.1
number4-spelled n (a ∷ b ∷ c ∷ d ∷ bytes) rest is =
    let ha : a < 256 = is.0 in
    let hb : b < 256 = is.1.0 in
    let hc : c < 256 = is.1.1.0 in
    let hd : d < 256 = is.1.1.1.0 in
    let said = is.1.1.1.1.0 in
    let value : n ≡ from_be_bytes w32 (a ∷ b ∷ c ∷ d ∷ []) = omega arith in
    let back : to_be_bytes w32 n ≡ a ∷ b ∷ c ∷ d ∷ [] = be_bytes_4 (a ∷ b ∷ c ∷ d ∷ []) n refl (four_bytes a b c d ha hb hc hd) value in
    (ap (λ (tail : List ℕ). a ∷ b ∷ c ∷ d ∷ tail) is.1.1.1.1.1 ∙ ap (λ (front : List ℕ). front ++ rest) (sym back), omega arith)

pub number4-of_spelling : (n : ℕ) (rest : List ℕ) → n < 2 ^ 32 → IsNumber 4 n (number_spelling 4 n ++ rest) rest
number4-of_spelling n rest fits =
    four_say (byte_at 3 n) (byte_at 2 n) (byte_at 1 n) (byte_at 0 n) n rest (omega arith) (omega arith) (omega arith) (omega arith) (from_be_bytes-to_be_bytes_4 n fits)

eight_bytes : (a b c d e f g h : ℕ) → a < 256 → b < 256 → c < 256 → d < 256 → e < 256 → f < 256 → g < 256 → h < 256
    → (i : ℕ) → get_or (a ∷ b ∷ c ∷ d ∷ e ∷ f ∷ g ∷ h ∷ []) i 0 < 256
eight_bytes a b c d e f g h ha hb hc hd he hf hg hh zero = ha
eight_bytes a b c d e f g h ha hb hc hd he hf hg hh (suc i) = seven i
  where
    seven : (i : ℕ) → get_or (b ∷ c ∷ d ∷ e ∷ f ∷ g ∷ h ∷ []) i 0 < 256
    seven zero = hb
    seven (suc zero) = hc
    seven (suc (suc zero)) = hd
    seven (suc (suc (suc i))) = four_bytes e f g h he hf hg hh i

pub eight_say : (a b c d e f g h n : ℕ) (rest : List ℕ) → a < 256 → b < 256 → c < 256 → d < 256 → e < 256 → f < 256 → g < 256 → h < 256
    → from_be_bytes w64 (a ∷ b ∷ c ∷ d ∷ e ∷ f ∷ g ∷ h ∷ []) ≡ n → IsNumber 8 n (a ∷ b ∷ c ∷ d ∷ e ∷ f ∷ g ∷ h ∷ rest) rest
eight_say a b c d e f g h n rest ha hb hc hd he hf hg hh is = (ha, (hb, (hc, (hd, (he, (hf, (hg, (hh, (omega arith, refl)))))))))

pub number8-spelled : (n : ℕ) (bytes rest : List ℕ) → IsNumber 8 n bytes rest → (bytes ≡ number_spelling 8 n ++ rest) × (n < 2 ^ 64)
number8-spelled n [] rest is = absurd is
number8-spelled n (a ∷ []) rest is = absurd is.1
number8-spelled n (a ∷ b ∷ []) rest is = absurd is.1.1
number8-spelled n (a ∷ b ∷ c ∷ []) rest is = absurd is.1.1.1
number8-spelled n (a ∷ b ∷ c ∷ d ∷ []) rest is = absurd is.1.1.1.1
number8-spelled n (a ∷ b ∷ c ∷ d ∷ e ∷ []) rest is = absurd is.1.1.1.1.1
number8-spelled n (a ∷ b ∷ c ∷ d ∷ e ∷ f ∷ []) rest is = absurd is.1.1.1.1.1.1
number8-spelled n (a ∷ b ∷ c ∷ d ∷ e ∷ f ∷ g ∷ []) rest is = absurd is.1.1.1.1.1.1.1
number8-spelled n (a ∷ b ∷ c ∷ d ∷ e ∷ f ∷ g ∷ h ∷ bytes) rest is =
    let ha : a < 256 = is.0 in
    let hb : b < 256 = is.1.0 in
    let hc : c < 256 = is.1.1.0 in
    let hd : d < 256 = is.1.1.1.0 in
    let he : e < 256 = is.1.1.1.1.0 in
    let hf : f < 256 = is.1.1.1.1.1.0 in
    let hg : g < 256 = is.1.1.1.1.1.1.0 in
    let hh : h < 256 = is.1.1.1.1.1.1.1.0 in
    let said = is.1.1.1.1.1.1.1.1.0 in
    let value : n ≡ from_be_bytes w64 (a ∷ b ∷ c ∷ d ∷ e ∷ f ∷ g ∷ h ∷ []) = omega arith in
    let back : to_be_bytes w64 n ≡ a ∷ b ∷ c ∷ d ∷ e ∷ f ∷ g ∷ h ∷ [] = be_bytes_8 (a ∷ b ∷ c ∷ d ∷ e ∷ f ∷ g ∷ h ∷ []) n refl (eight_bytes a b c d e f g h ha hb hc hd he hf hg hh) value in
    (ap (λ (tail : List ℕ). a ∷ b ∷ c ∷ d ∷ e ∷ f ∷ g ∷ h ∷ tail) is.1.1.1.1.1.1.1.1.1 ∙ ap (λ (front : List ℕ). front ++ rest) (sym back), omega arith)

pub number8-of_spelling : (n : ℕ) (rest : List ℕ) → n < 2 ^ 64 → IsNumber 8 n (number_spelling 8 n ++ rest) rest
number8-of_spelling n rest fits =
    eight_say (byte_at 7 n) (byte_at 6 n) (byte_at 5 n) (byte_at 4 n) (byte_at 3 n) (byte_at 2 n) (byte_at 1 n) (byte_at 0 n) n rest
    (omega arith) (omega arith) (omega arith) (omega arith) (omega arith) (omega arith) (omega arith) (omega arith) (from_be_bytes-to_be_bytes_8 n fits)

-- a signed number and its bytes
pub signed-spelled : (n : ℤ) (bytes rest : List ℕ) → IsSigned n bytes rest → bytes ≡ number_spelling 8 (cast_unsigned w64 n) ++ rest
signed-spelled n bytes rest is =
    let number = number8-spelled is.0 bytes rest is.1 in
    let back : cast_unsigned w64 n ≡ is.0 = ap (cast_unsigned w64) is.2 ∙ of_z-to_z w64 is.0 number.1 in
    number.0 ∙ ap (λ (bits : ℕ). number_spelling 8 bits ++ rest) (sym back)

bits_below : (n : ℤ) → FitsSigned w64 n → cast_unsigned w64 n < 2 ^ 64
bits_below (pos k) fits = let small = fits.sfits in omega arith
bits_below (negsuc k) fits = omega arith

pub signed-of_spelling : (n : ℤ) (rest : List ℕ) → FitsSigned w64 n → IsSigned n (number_spelling 8 (cast_unsigned w64 n) ++ rest) rest
signed-of_spelling n rest fits = (cast_unsigned w64 n, (number8-of_spelling (cast_unsigned w64 n) rest (bits_below n fits)), sym (to_z-of_z w64 n fits))

signed_fits : (bits : ℕ) → bits < 2 ^ 64 → FitsSigned w64 (cast_signed w64 bits)
signed_fits bits below = sfits_to_z {w = w64} (search rules)

pub signed-typed : (n : ℤ) (bytes rest : List ℕ) → IsSigned n bytes rest → FitsSigned w64 n
signed-typed n bytes rest is = subst (FitsSigned w64) (sym is.2) (signed_fits is.0 (number8-spelled is.0 bytes rest is.1).1)
