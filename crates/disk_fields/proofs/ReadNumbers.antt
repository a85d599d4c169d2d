-- A number or a text that is read is the one of the format, and what is of the format is read.
use Rattle.std.proofs.Common.{◌≡◌, ℕ, ℤ, zero, suc, ◌<◌, ◌≤◌, Bool, true, false, cond, ltb, List, [], ◌∷◌, ◌++◌, length, get_or, take, drop, refl, sym, subst, ◌∙◌, arith, take-append-drop, length-append, length-take}
use Rattle.std.specs.Prelude.{Option, Some, None}
use Rattle.std.specs.List.{AllByRecursion}
use Rattle.std.specs.Int.{w32, w64, cast_signed, from_be_bytes}
use Rattle.std.specs.Str.{is_utf8}
use Rattle.std.proofs.lemmas.Bool.{le-ltb, ltb-false}
use Rattle.std.proofs.lemmas.List.{take_at, drop_at}
use Rattle.std.proofs.lemmas.Str.{IsUtf8-from_is_utf8, is_utf8-from_IsUtf8}
use Rattle.disk_model.specs.Number.{Format, IsNumber, IsSigned}
use Rattle.disk_model.specs.Text.{IsText}
use Rattle.disk_model.proofs.Numbers.{eight_say, four_say}
use Rattle.disk_fields.specs.Reading.{◌>>=◌, Found, number_at, signed_at, text_at, text_in}

-- bytes that a program may hold
abbrev pub AreBytes : List ℕ → Type 0
AreBytes bytes = AllByRecursion (λ byte. byte < 256) bytes

pub are_bytes : (bytes : List ℕ) → ((i : ℕ) → get_or bytes i 0 < 256) → AreBytes bytes
are_bytes [] each = tt
are_bytes (byte ∷ bytes) each = (each 0, are_bytes bytes (λ i. each (suc i)))

bytes-drop : (n : ℕ) (bytes : List ℕ) → AreBytes bytes → AreBytes (drop n bytes)
bytes-drop zero bytes all = all
bytes-drop (suc n) [] all = tt
bytes-drop (suc n) (byte ∷ bytes) all = bytes-drop n bytes all.1

-- what is read is of the format, and what is of the format is read
pub record IsReadBy {A : Type 0} (format : Format A) (reading : List ℕ → Found A) : Type 0 where
  pub found : (bytes : List ℕ) (x : A × List ℕ) → AreBytes bytes → reading bytes ≡ Some x → format x.0 bytes x.1 × AreBytes x.1
  pub only : (x : A) (bytes rest : List ℕ) → format x bytes rest → reading bytes ≡ Some (x, rest)

-- a step that found something
pub bind_some : {A B : Type 0} (r : Option A) (f : A → Option B) (y : B) → (r >>= f) ≡ Some y → (x : A) × (r ≡ Some x) × (f x ≡ Some y)
bind_some (Some x) f y is = (x, refl, is)
bind_some None f y is = absurd cc

abbrev pub done : {A : Type 0} → A → Option A
done x = Some x

pub some_is : {A : Type 0} (x y : A) → done x ≡ done y → x ≡ y
some_is x y is = cc

-- a test that didn't stop it
pub not_stopped : {A : Type 0} (b : Bool) (r : Option A) (y : A) → cond b None r ≡ Some y → (b ≡ false) × (r ≡ Some y)
not_stopped true r y is = absurd cc
not_stopped false r y is = (refl, is)

pub let_through : {A : Type 0} (b : Bool) (r : Option A) (y : A) → cond b r None ≡ Some y → (b ≡ true) × (r ≡ Some y)
let_through true r y is = (refl, is)
let_through false r y is = absurd cc

four_read : (a b c d : ℕ) (bytes : List ℕ) → number_at w32 (a ∷ b ∷ c ∷ d ∷ bytes) ≡ Some (from_be_bytes w32 (a ∷ b ∷ c ∷ d ∷ []), bytes)
four_read a b c d bytes = let long : ltb (length (a ∷ b ∷ c ∷ d ∷ bytes)) 4 ≡ false = le-ltb _ _ (omega arith) in rw long refl

number4_found : (bytes : List ℕ) (x : ℕ × List ℕ) → AreBytes bytes → number_at w32 bytes ≡ Some x → IsNumber 4 x.0 bytes x.1 × AreBytes x.1
number4_found [] x all is = absurd cc
number4_found (a ∷ []) x all is = absurd cc
number4_found (a ∷ b ∷ []) x all is = absurd cc
number4_found (a ∷ b ∷ c ∷ []) x all is = absurd cc
number4_found (a ∷ b ∷ c ∷ d ∷ bytes) x all is =
    let same = some_is _ x (sym (four_read a b c d bytes) ∙ is) in
    let said : IsNumber 4 (from_be_bytes w32 (a ∷ b ∷ c ∷ d ∷ [])) (a ∷ b ∷ c ∷ d ∷ bytes) bytes = four_say a b c d _ bytes all.0 all.1.0 all.1.1.0 all.1.1.1.0 refl in
    subst (λ (x : ℕ × List ℕ). IsNumber 4 x.0 (a ∷ b ∷ c ∷ d ∷ bytes) x.1 × AreBytes x.1) same (said, all.1.1.1.1)

number4_only : (n : ℕ) (bytes rest : List ℕ) → IsNumber 4 n bytes rest → number_at w32 bytes ≡ Some (n, rest)
number4_only n [] rest is = absurd is
number4_only n (a ∷ []) rest is = absurd is.1
number4_only n (a ∷ b ∷ []) rest is = absurd is.1.1
number4_only n (a ∷ b ∷ c ∷ []) rest is = absurd is.1.1.1
number4_only n (a ∷ b ∷ c ∷ d ∷ bytes) rest is =
    let said = is.1.1.1.1.0 in
    let value : from_be_bytes w32 (a ∷ b ∷ c ∷ d ∷ []) ≡ n = omega arith in
    four_read a b c d bytes ∙ rw (value, is.1.1.1.1.1) refl

pub number4 : IsReadBy (IsNumber 4) (number_at w32)
number4 = record { found = number4_found; only = number4_only }

eight_read : (a b c d e f g h : ℕ) (bytes : List ℕ) → number_at w64 (a ∷ b ∷ c ∷ d ∷ e ∷ f ∷ g ∷ h ∷ bytes) ≡ Some (from_be_bytes w64 (a ∷ b ∷ c ∷ d ∷ e ∷ f ∷ g ∷ h ∷ []), bytes)
eight_read a b c d e f g h bytes = let long : ltb (length (a ∷ b ∷ c ∷ d ∷ e ∷ f ∷ g ∷ h ∷ bytes)) 8 ≡ false = le-ltb _ _ (omega arith) in rw long refl

number8_found : (bytes : List ℕ) (x : ℕ × List ℕ) → AreBytes bytes → number_at w64 bytes ≡ Some x → IsNumber 8 x.0 bytes x.1 × AreBytes x.1
number8_found [] x all is = absurd cc
number8_found (a ∷ []) x all is = absurd cc
number8_found (a ∷ b ∷ []) x all is = absurd cc
number8_found (a ∷ b ∷ c ∷ []) x all is = absurd cc
number8_found (a ∷ b ∷ c ∷ d ∷ []) x all is = absurd cc
number8_found (a ∷ b ∷ c ∷ d ∷ e ∷ []) x all is = absurd cc
number8_found (a ∷ b ∷ c ∷ d ∷ e ∷ f ∷ []) x all is = absurd cc
number8_found (a ∷ b ∷ c ∷ d ∷ e ∷ f ∷ g ∷ []) x all is = absurd cc
number8_found (a ∷ b ∷ c ∷ d ∷ e ∷ f ∷ g ∷ h ∷ bytes) x all is =
    let same = some_is _ x (sym (eight_read a b c d e f g h bytes) ∙ is) in
    let later = all.1.1.1.1 in
    let said : IsNumber 8 (from_be_bytes w64 (a ∷ b ∷ c ∷ d ∷ e ∷ f ∷ g ∷ h ∷ [])) (a ∷ b ∷ c ∷ d ∷ e ∷ f ∷ g ∷ h ∷ bytes) bytes =
    eight_say a b c d e f g h _ bytes all.0 all.1.0 all.1.1.0 all.1.1.1.0 later.0 later.1.0 later.1.1.0 later.1.1.1.0 refl in
    subst (λ (x : ℕ × List ℕ). IsNumber 8 x.0 (a ∷ b ∷ c ∷ d ∷ e ∷ f ∷ g ∷ h ∷ bytes) x.1 × AreBytes x.1) same (said, later.1.1.1.1)

number8_only : (n : ℕ) (bytes rest : List ℕ) → IsNumber 8 n bytes rest → number_at w64 bytes ≡ Some (n, rest)
number8_only n [] rest is = absurd is
number8_only n (a ∷ []) rest is = absurd is.1
number8_only n (a ∷ b ∷ []) rest is = absurd is.1.1
number8_only n (a ∷ b ∷ c ∷ []) rest is = absurd is.1.1.1
number8_only n (a ∷ b ∷ c ∷ d ∷ []) rest is = absurd is.1.1.1.1
number8_only n (a ∷ b ∷ c ∷ d ∷ e ∷ []) rest is = absurd is.1.1.1.1.1
number8_only n (a ∷ b ∷ c ∷ d ∷ e ∷ f ∷ []) rest is = absurd is.1.1.1.1.1.1
number8_only n (a ∷ b ∷ c ∷ d ∷ e ∷ f ∷ g ∷ []) rest is = absurd is.1.1.1.1.1.1.1
number8_only n (a ∷ b ∷ c ∷ d ∷ e ∷ f ∷ g ∷ h ∷ bytes) rest is =
    let said = is.1.1.1.1.1.1.1.1.0 in
    let value : from_be_bytes w64 (a ∷ b ∷ c ∷ d ∷ e ∷ f ∷ g ∷ h ∷ []) ≡ n = omega arith in
    eight_read a b c d e f g h bytes ∙ rw (value, is.1.1.1.1.1.1.1.1.1) refl

pub number8 : IsReadBy (IsNumber 8) (number_at w64)
number8 = record { found = number8_found; only = number8_only }

signed_found : (bytes : List ℕ) (x : ℤ × List ℕ) → AreBytes bytes → signed_at bytes ≡ Some x → IsSigned x.0 bytes x.1 × AreBytes x.1
unfolding signed_at
signed_found bytes x all is =
    let number = bind_some (number_at w64 bytes) (λ number. Some (cast_signed w64 number.0, number.1)) x is in
    let own = number8_found bytes number.0 all number.1 in
    subst (λ (x : ℤ × List ℕ). IsSigned x.0 bytes x.1 × AreBytes x.1) (some_is _ x number.2) ((number.0.0, own.0, refl), own.1)

signed_only : (n : ℤ) (bytes rest : List ℕ) → IsSigned n bytes rest → signed_at bytes ≡ Some (n, rest)
unfolding signed_at
signed_only n bytes rest is = rw (number8_only is.0 bytes rest is.1, ← is.2) refl

pub signed : IsReadBy IsSigned signed_at
signed = record { found = signed_found; only = signed_only }

-- a text of at most so many bytes
abbrev pub IsTextUpTo : ℕ → Format (List ℕ)
IsTextUpTo most text bytes rest = (length text ≤ most) × IsText text bytes rest

text_found : (most : ℕ) (bytes : List ℕ) (x : List ℕ × List ℕ) → AreBytes bytes → text_at most bytes ≡ Some x → IsTextUpTo most x.0 bytes x.1 × AreBytes x.1
unfolding text_at
text_found most bytes x all is =
    let number = bind_some (number_at w32 bytes) (λ count. text_in most count.0 count.1) x is in
    let n = number.0.0 in
    let middle = number.0.1 in
    let own = number4_found bytes number.0 all number.1 in
    let few = not_stopped (ltb most n) _ x number.2 in
    let long = not_stopped (ltb (length middle) n) _ x few.1 in
    let through = let_through (is_utf8 (take n middle)) (Some (take n middle, drop n middle)) x long.1 in
    let most_is : n ≤ most = ltb-false most n few.0 in
    let long_is : n ≤ length middle = ltb-false (length middle) n long.0 in
    let count : length (take n middle) ≡ n = omega (arith, length-take n middle) in
    let text : IsText (take n middle) bytes (drop n middle) =
    (middle, subst (λ (count : ℕ). IsNumber 4 count bytes middle) (sym count) own.0, IsUtf8-from_is_utf8 (take n middle) through.0, sym (take-append-drop n middle)) in
    subst (λ (x : List ℕ × List ℕ). IsTextUpTo most x.0 bytes x.1 × AreBytes x.1) (some_is _ x through.1) ((omega arith, text), bytes-drop n middle own.1)

text_only : (most : ℕ) (text bytes rest : List ℕ) → IsTextUpTo most text bytes rest → text_at most bytes ≡ Some (text, rest)
unfolding text_at
text_only most text bytes rest is =
    let middle = is.1.0 in
    let number = number4_only (length text) bytes middle is.1.1 in
    let parts : middle ≡ text ++ rest = is.1.3 in
    let few : ltb most (length text) ≡ false = le-ltb most (length text) is.0 in
    let long : ltb (length (text ++ rest)) (length text) ≡ false = le-ltb _ _ (omega (arith, length-append text rest)) in
    rw (number, parts, few, long, take_at text rest (length text) refl, drop_at text rest (length text) refl, is_utf8-from_IsUtf8 text is.1.2) refl

pub text : (most : ℕ) → IsReadBy (IsTextUpTo most) (text_at most)
text most = record { found = text_found most; only = text_only most }
