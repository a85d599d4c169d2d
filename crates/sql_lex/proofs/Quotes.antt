-- Where a text in quotes is closed.
use Rattle.std.proofs.Common.{◌≡◌, ◌≢◌, ◌<◌, ◌≤◌, ◌+◌, ℕ, Bool, true, false, List, [], ◌∷◌, ◌++◌, length, get_or, take, drop, ◌⊎◌, inl, inr, refl, sym, ap, ◌∙◌, subst, arith, append_assoc, add-zero, add-one, drop-cons}
use Rattle.std.specs.Prelude.{◌==◌, if◌then◌else◌}
use Rattle.std.proofs.lemmas.Bool.Decides.{eqb_tells}
use Rattle.std.proofs.lemmas.List.{take-append-drop, length-take-le, length-drop, flat_map_more, take_more, take_all, get_or-drop}
use Rattle.sql_lex.specs.Bytes.{first_passes}
use Rattle.sql_lex.specs.Tokens.{doubled, Closes}

-- how one byte stands between quotes
abbrev double : ℕ → List ℕ
double byte = if byte == 39 then 39 ∷ 39 ∷ [] else byte ∷ []

double_cases : (byte : ℕ) → ((byte ≡ 39) × (double byte ≡ 39 ∷ 39 ∷ [])) ⊎ ((byte ≢ 39) × (double byte ≡ byte ∷ []))
double_cases byte =
    elim (eqb_tells byte 39) [
      | inl h ↦ inl (h.1, ap (λ b. if b then 39 ∷ 39 ∷ [] else byte ∷ []) h.0)
      | inr h ↦ inr (h.1, ap (λ b. if b then 39 ∷ 39 ∷ [] else byte ∷ []) h.0)
    ]

-- no quote comes first
abbrev pub NoQuote : List ℕ → Type 0
NoQuote bytes = first_passes (λ byte. byte == 39) bytes ≡ false

-- bytes in which each quote is doubled close no text
pub never_closed : (v w after : List ℕ) → doubled v ≡ doubled w ++ 39 ∷ after → NoQuote after → ⊥
never_closed [] [] after e stops = cc
never_closed [] (y ∷ w) after e stops =
    elim (double_cases y) [
      | inl g ↦ let e1 : [] ≡ 39 ∷ 39 ∷ (doubled w ++ 39 ∷ after) = e ∙ ap (λ l. (l ++ doubled w) ++ 39 ∷ after) g.1 in cc
      | inr g ↦ let e1 : [] ≡ y ∷ (doubled w ++ 39 ∷ after) = e ∙ ap (λ l. (l ++ doubled w) ++ 39 ∷ after) g.1 in cc
    ]
never_closed (x ∷ v) [] after e stops =
    elim (double_cases x) [
      | inl h ↦
          let e1 : 39 ∷ 39 ∷ doubled v ≡ 39 ∷ after = ap (λ l. l ++ doubled v) (sym h.1) ∙ e in
          let e2 : after ≡ 39 ∷ doubled v = cc in
          let e3 : true ≡ false = subst (λ l. first_passes (λ byte. byte == 39) l ≡ false) e2 stops in
          cc
      | inr h ↦
          let e1 : x ∷ doubled v ≡ 39 ∷ after = ap (λ l. l ++ doubled v) (sym h.1) ∙ e in
          h.0 (cc)
    ]
never_closed (x ∷ v) (y ∷ w) after e stops =
    elim (double_cases x) [
      | inl h ↦ elim (double_cases y) [
        | inl g ↦
            let e1 : 39 ∷ 39 ∷ doubled v ≡ 39 ∷ 39 ∷ (doubled w ++ 39 ∷ after) = ap (λ l. l ++ doubled v) (sym h.1) ∙ e ∙ ap (λ l. (l ++ doubled w) ++ 39 ∷ after) g.1 in
            never_closed v w after (cc) stops
        | inr g ↦
            let e1 : 39 ∷ 39 ∷ doubled v ≡ y ∷ (doubled w ++ 39 ∷ after) = ap (λ l. l ++ doubled v) (sym h.1) ∙ e ∙ ap (λ l. (l ++ doubled w) ++ 39 ∷ after) g.1 in
            g.0 (cc)
      ]
      | inr h ↦ elim (double_cases y) [
        | inl g ↦
            let e1 : x ∷ doubled v ≡ 39 ∷ 39 ∷ (doubled w ++ 39 ∷ after) = ap (λ l. l ++ doubled v) (sym h.1) ∙ e ∙ ap (λ l. (l ++ doubled w) ++ 39 ∷ after) g.1 in
            h.0 (cc)
        | inr g ↦
            let e1 : x ∷ doubled v ≡ y ∷ (doubled w ++ 39 ∷ after) = ap (λ l. l ++ doubled v) (sym h.1) ∙ e ∙ ap (λ l. (l ++ doubled w) ++ 39 ∷ after) g.1 in
            never_closed v w after (cc) stops
      ]
    ]

-- a text is closed at one place, and has one value
pub closed_once : (v w a b : List ℕ) → doubled v ++ 39 ∷ a ≡ doubled w ++ 39 ∷ b → NoQuote a → NoQuote b → (v ≡ w) × (a ≡ b)
closed_once [] [] a b e s t = (refl, cc)
closed_once [] (y ∷ w) a b e s t =
    elim (double_cases y) [
      | inl g ↦
          let e1 : 39 ∷ a ≡ 39 ∷ 39 ∷ (doubled w ++ 39 ∷ b) = e ∙ ap (λ l. (l ++ doubled w) ++ 39 ∷ b) g.1 in
          let e2 : a ≡ 39 ∷ (doubled w ++ 39 ∷ b) = cc in
          let e3 : true ≡ false = subst (λ l. first_passes (λ byte. byte == 39) l ≡ false) e2 s in
          cc
      | inr g ↦
          let e1 : 39 ∷ a ≡ y ∷ (doubled w ++ 39 ∷ b) = e ∙ ap (λ l. (l ++ doubled w) ++ 39 ∷ b) g.1 in
          absurd (g.0 (cc))
    ]
closed_once (x ∷ v) [] a b e s t =
    elim (double_cases x) [
      | inl h ↦
          let e1 : 39 ∷ 39 ∷ (doubled v ++ 39 ∷ a) ≡ 39 ∷ b = ap (λ l. (l ++ doubled v) ++ 39 ∷ a) (sym h.1) ∙ e in
          let e2 : b ≡ 39 ∷ (doubled v ++ 39 ∷ a) = cc in
          let e3 : true ≡ false = subst (λ l. first_passes (λ byte. byte == 39) l ≡ false) e2 t in
          cc
      | inr h ↦
          let e1 : x ∷ (doubled v ++ 39 ∷ a) ≡ 39 ∷ b = ap (λ l. (l ++ doubled v) ++ 39 ∷ a) (sym h.1) ∙ e in
          absurd (h.0 (cc))
    ]
closed_once (x ∷ v) (y ∷ w) a b e s t =
    elim (double_cases x) [
      | inl h ↦ elim (double_cases y) [
        | inl g ↦
            let e1 : 39 ∷ 39 ∷ (doubled v ++ 39 ∷ a) ≡ 39 ∷ 39 ∷ (doubled w ++ 39 ∷ b) = ap (λ l. (l ++ doubled v) ++ 39 ∷ a) (sym h.1) ∙ e ∙ ap (λ l. (l ++ doubled w) ++ 39 ∷ b) g.1 in
            let rest = closed_once v w a b (cc) s t in
            ((λ i. (h.0 ∙ sym g.0) i ∷ rest.0 i), rest.1)
        | inr g ↦
            let e1 : 39 ∷ 39 ∷ (doubled v ++ 39 ∷ a) ≡ y ∷ (doubled w ++ 39 ∷ b) = ap (λ l. (l ++ doubled v) ++ 39 ∷ a) (sym h.1) ∙ e ∙ ap (λ l. (l ++ doubled w) ++ 39 ∷ b) g.1 in
            absurd (g.0 (cc))
      ]
      | inr h ↦ elim (double_cases y) [
        | inl g ↦
            let e1 : x ∷ (doubled v ++ 39 ∷ a) ≡ 39 ∷ 39 ∷ (doubled w ++ 39 ∷ b) = ap (λ l. (l ++ doubled v) ++ 39 ∷ a) (sym h.1) ∙ e ∙ ap (λ l. (l ++ doubled w) ++ 39 ∷ b) g.1 in
            absurd (h.0 (cc))
        | inr g ↦
            let e1 : x ∷ (doubled v ++ 39 ∷ a) ≡ y ∷ (doubled w ++ 39 ∷ b) = ap (λ l. (l ++ doubled v) ++ 39 ∷ a) (sym h.1) ∙ e ∙ ap (λ l. (l ++ doubled w) ++ 39 ∷ b) g.1 in
            let first : x ≡ y = cc in
            let rest = closed_once v w a b (cc) s t in
            ((λ i. first i ∷ rest.0 i), rest.1)
      ]
    ]

-- up to this byte each quote is doubled
abbrev pub DoubledTo : List ℕ → ℕ → Type 0
DoubledTo bytes at = (value : List ℕ) × (take at bytes ≡ doubled value)

pub DoubledTo-start : (bytes : List ℕ) → DoubledTo bytes 0
DoubledTo-start [] = ([], refl)
DoubledTo-start (byte ∷ bytes) = ([], refl)

-- one byte more of the value
pub DoubledTo-more : (bytes : List ℕ) (at next byte : ℕ) → DoubledTo bytes at → take next bytes ≡ take at bytes ++ double byte → DoubledTo bytes next
DoubledTo-more bytes at next byte before more =
    (before.0 ++ byte ∷ [], more ∙ ap (λ l. l ++ double byte) before.1 ∙ flat_map_more double [] before.0 byte)

-- a byte that is no quote
pub DoubledTo-byte : (bytes : List ℕ) (at : ℕ) → at < length bytes → get_or bytes at 0 ≢ 39 → DoubledTo bytes at → DoubledTo bytes (at + 1)
DoubledTo-byte bytes at within other before =
    elim (double_cases (get_or bytes at 0)) [
      | inl h ↦ absurd (other h.0)
      | inr h ↦ DoubledTo-more bytes at (at + 1) (get_or bytes at 0) before (take_more bytes at 0 within ∙ ap (λ l. take at bytes ++ l) (sym h.1))
    ]

-- two quotes
pub DoubledTo-quotes : (bytes : List ℕ) (at : ℕ) → at + 1 < length bytes → get_or bytes at 0 ≡ 39 → get_or bytes (at + 1) 0 ≡ 39 → DoubledTo bytes at → DoubledTo bytes (at + 2)
DoubledTo-quotes bytes at within first second before =
    let two : at + 2 ≡ at + 1 + 1 = omega arith in
    DoubledTo-more bytes at (at + 2) 39 before
    (ap (λ n. take n bytes) two ∙ take_more bytes (at + 1) 0 within ∙ ap (λ l. l ++ get_or bytes (at + 1) 0 ∷ []) (take_more bytes at 0 (omega arith))
    ∙ append_assoc (take at bytes) (get_or bytes at 0 ∷ []) (get_or bytes (at + 1) 0 ∷ []) ∙ (λ i. take at bytes ++ first i ∷ second i ∷ []))

first_passes-get : (test : ℕ → Bool) (bytes : List ℕ) → (0 < length bytes → test (get_or bytes 0 0) ≡ false) → first_passes test bytes ≡ false
first_passes-get test [] fails = refl
first_passes-get test (byte ∷ bytes) fails = fails (omega arith)

-- a quote that no second one follows closes the text
pub Closes-at : (bytes : List ℕ) (at : ℕ) → at < length bytes → get_or bytes at 0 ≡ 39 → (at + 1 < length bytes → get_or bytes (at + 1) 0 ≢ 39) → DoubledTo bytes at → Closes bytes (at + 1)
Closes-at bytes at within quote single before =
    record {
      value = before.0;
      after = drop (at + 1) bytes;
      split = sym (take-append-drop at bytes) ∙ (λ i. before.1 i ++ from_quote i);
      whole = first_passes-get _ (drop (at + 1) bytes) (λ some. not_quote (subst (λ b. b ≢ 39) (sym (get_or-drop (at + 1) bytes 0 0)) (subst (λ n. get_or bytes n 0 ≢ 39) (sym (add-zero (at + 1))) (single (omega (arith, length-drop (at + 1) bytes))))));
      ends = ap (λ n. n + 1) (sym (length-take-le at bytes (omega arith)) ∙ ap length before.1);
    }
  where
    from_quote : drop at bytes ≡ 39 ∷ drop (at + 1) bytes
    from_quote = drop-cons bytes at 0 within ∙ (λ i. quote i ∷ drop (sym (add-one at) i) bytes)

    not_quote : {b : ℕ} → b ≢ 39 → (b == 39) ≡ false
    not_quote {b} other = elim (eqb_tells b 39) [ inl h ↦ absurd (other h.1) | inr h ↦ h.0 ]

-- a text of which all bytes are read is not closed
pub not_closed : (bytes : List ℕ) (at len : ℕ) → length bytes ≤ at → DoubledTo bytes at → Closes bytes len → ⊥
not_closed bytes at len past before closed =
    never_closed before.0 closed.value closed.after (sym before.1 ∙ take_all at bytes past ∙ closed.split) closed.whole
