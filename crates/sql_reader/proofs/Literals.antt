-- The values of names, numbers and texts.
use Rattle.std.proofs.Common.{◌≡◌, ◌≢◌, ◌<◌, ◌≤◌, ◌+◌, ◌-◌, ◌*◌, ℕ, true, false, List, [], ◌∷◌, ◌++◌, length, get_or, drop, All, refl, sym, ap, ◌∙◌, arith, suc, inl, inr, append_assoc}
use Rattle.std.specs.Char.{to_ascii_lowercase}
use Rattle.std.specs.Prelude.{◌==◌, ◌&&◌, if◌then◌else◌, map, Option, None, Some}
use Rattle.std.specs.List.{list_all}
use Rattle.std.proofs.lemmas.List.{append-nil}
use Rattle.std.proofs.lemmas.Bool.Decides.{eqb_tells}
use Rattle.std.proofs.lemmas.List.Folds.{list_all-map}
use Rattle.own_base.specs.Name.{is_spelled, begins_name, continues_name}
use Rattle.sql_lex.specs.Bytes.{first_passes}
use Rattle.grammar_model.specs.Values.{digits_after}
use Rattle.sql_reader.specs.reading.Judges.{with_byte, inside}

-- a name's first byte, and the others
pub is_spelled-some : (name : List ℕ) → 0 < length name → is_spelled name ≡ (begins_name (get_or name 0 0) && list_all continues_name (drop 1 name))
is_spelled-some [] some = absurd (omega arith)
is_spelled-some (byte ∷ name) some = refl

-- the same of a name that is put into lower case
pub is_spelled-lowered : (name : List ℕ) → 0 < length name → is_spelled (map to_ascii_lowercase name) ≡ (begins_name (to_ascii_lowercase (get_or name 0 0)) && list_all (λ byte. continues_name (to_ascii_lowercase byte)) (drop 1 name))
is_spelled-lowered [] some = absurd (omega arith)
is_spelled-lowered (byte ∷ name) some = ap (λ rest. begins_name (to_ascii_lowercase byte) && rest) (list_all-map continues_name to_ascii_lowercase name)

-- more digits make no less
pub digits_after-grows : (number : ℕ) (digits : List ℕ) → number ≤ digits_after number digits
digits_after-grows number [] = omega arith
digits_after-grows number (digit ∷ digits) = omega (arith, digits_after-grows (10 * number + (digit - 48)) digits)

-- the value with these bytes in front
abbrev pub prefixed : List ℕ → Option (List ℕ) → Option (List ℕ)
prefixed front None = None
prefixed front (Some value) = Some (front ++ value)

pub prefixed-nil : (found : Option (List ℕ)) → found ≡ prefixed [] found
prefixed-nil None = refl
prefixed-nil (Some value) = refl

prefixed-append : (front back : List ℕ) (found : Option (List ℕ)) → prefixed front (prefixed back found) ≡ prefixed (front ++ back) found
prefixed-append front back None = refl
prefixed-append front back (Some value) = ap Some (sym (append_assoc front back value))

with_byte-prefixed : (byte : ℕ) (front : List ℕ) (found : Option (List ℕ)) → with_byte byte (prefixed front found) ≡ prefixed (byte ∷ front) found
with_byte-prefixed byte front None = refl
with_byte-prefixed byte front (Some value) = refl

with_byte-one : (byte : ℕ) (found : Option (List ℕ)) → with_byte byte found ≡ prefixed (byte ∷ []) found
with_byte-one byte None = refl
with_byte-one byte (Some value) = refl

-- bytes that are no quotes represent themselves
inside-front : (front back : List ℕ) → All (λ byte. byte ≢ 39) front → inside false (front ++ back) ≡ prefixed front (inside false back)
inside-front [] back plain = prefixed-nil (inside false back)
inside-front (byte ∷ front) back plain =
    elim (eqb_tells byte 39) [
      | inl h ↦ absurd (plain 0 0 (omega arith) h.1)
      | inr h ↦
          ap (λ b. if b then inside true (front ++ back) else with_byte byte (inside false (front ++ back))) h.0
          ∙ ap (with_byte byte) (inside-front front back (λ k d within. plain (suc k) d (omega arith))) ∙ with_byte-prefixed byte front (inside false back)
    ]

-- bytes without a quote are not closed
inside-plain : (bytes : List ℕ) → All (λ byte. byte ≢ 39) bytes → inside false bytes ≡ None
inside-plain [] plain = refl
inside-plain (byte ∷ bytes) plain =
    elim (eqb_tells byte 39) [
      | inl h ↦ absurd (plain 0 0 (omega arith) h.1)
      | inr h ↦
          ap (λ b. if b then inside true bytes else with_byte byte (inside false bytes)) h.0
          ∙ ap (with_byte byte) (inside-plain bytes (λ k d within. plain (suc k) d (omega arith)))
    ]

pub inside-open : (read rest : List ℕ) (all : Option (List ℕ)) → all ≡ prefixed read (inside false rest) → All (λ byte. byte ≢ 39) rest → all ≡ None
inside-open read rest all same plain = same ∙ ap (prefixed read) (inside-plain rest plain)

-- two quotes are one
pub inside-pair : (read front back after rest : List ℕ) (all : Option (List ℕ)) → all ≡ prefixed read (inside false rest) → rest ≡ front ++ 39 ∷ back → All (λ byte. byte ≢ 39) front → back ≡ 39 ∷ after
    → all ≡ prefixed ((read ++ front) ++ 39 ∷ []) (inside false after)
inside-pair read front back after rest all same split plain pair =
    same ∙ ap (prefixed read) (ap (inside false) (split ∙ ap (λ l. front ++ 39 ∷ l) pair) ∙ inside-front front (39 ∷ 39 ∷ after) plain ∙ ap (prefixed front) (with_byte-one 39 (inside false after)) ∙ prefixed-append front (39 ∷ []) (inside false after))
    ∙ prefixed-append read (front ++ 39 ∷ []) (inside false after) ∙ ap (λ l. prefixed l (inside false after)) (sym (append_assoc read front (39 ∷ [])))

-- the last quote closes the text
pub inside-end : (read front rest : List ℕ) (all : Option (List ℕ)) → all ≡ prefixed read (inside false rest) → rest ≡ front ++ 39 ∷ [] → All (λ byte. byte ≢ 39) front → all ≡ Some (read ++ front)
inside-end read front rest all same split plain =
    same ∙ ap (prefixed read) (ap (inside false) split ∙ inside-front front (39 ∷ []) plain) ∙ ap (λ l. Some (read ++ l)) (append-nil front)

-- after a quote that closes the text nothing may come
pub inside-more : (read front back rest : List ℕ) (all : Option (List ℕ)) → all ≡ prefixed read (inside false rest) → rest ≡ front ++ 39 ∷ back → All (λ byte. byte ≢ 39) front → first_passes (λ byte. byte == 39) back ≡ false → 0 < length back → all ≡ None
inside-more read front back rest all same split plain single some =
    same ∙ ap (prefixed read) (ap (inside false) split ∙ inside-front front (39 ∷ back) plain ∙ ap (prefixed front) (none back single some))
  where
    none : (back : List ℕ) → first_passes (λ byte. byte == 39) back ≡ false → 0 < length back → inside true back ≡ None
    none [] single some = absurd (omega (arith, some))
    none (byte ∷ back) single some = ap (λ b. if b then with_byte 39 (inside false back) else None) single

pub no_bytes : (bytes : List ℕ) → (length bytes == 0) ≡ true → bytes ≡ []
no_bytes [] empty = refl
no_bytes (byte ∷ bytes) empty = grind arith
