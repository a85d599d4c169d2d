-- Each judge gives a value exactly where the grammar says that the terminal represents it.
use Rattle.std.proofs.Common.{◌≡◌, ◌≤◌, ℕ, Bool, true, false, List, [], ◌∷◌, ◌++◌, length, map, Result, Ok, Err, refl, sym, ap, ◌∙◌, subst, arith}
use Rattle.std.specs.Prelude.{◌==◌, ◌^◌, ◌-◌, nat_le, ℤ, IsTrue, if◌then◌else◌, Option, None, Some, IfOk, MatchOption}
use Rattle.std.specs.Char.{to_ascii_lowercase}
use Rattle.own_base.specs.Name.{is_spelled}
use Rattle.own_model.specs.declared.limit.LimitName.TheVariants as limit
use Rattle.own_model.specs.declared.select.Item.{Item}
use Rattle.sql_lex.specs.declared.token.TokenKind.TheVariants.{Name, Keyword, Number, Quoted, Mark}
use Rattle.sql_lex.specs.Tokens.{doubled, quoted}
use Rattle.grammar_model.specs.Limits.{Limits, fits, no_limits}
use Rattle.grammar_model.specs.Parts.{slot_item}
use Rattle.grammar_model.specs.Terminal.{Terminal, Written, Slot}
use Rattle.grammar_model.specs.Values.{NameIs, NumberIs, TextIs, SlotIs, digits_after, signed}
use Rattle.sql_reader.specs.declared.fault.RuleFault.{RuleFault}
use Rattle.sql_reader.specs.declared.fault.RuleFault.TheVariants.{Syntax, Limit}
use Rattle.sql_reader.specs.reading.Judges.{folded, name_of, ranged, number_of, with_byte, inside, unquoted, short_text, text_of, barred, slot_of}

-- the judge gives a value exactly where the terminal represents it
pub record SaysExactly {A : Type 0} (means : A → Terminal → Type 0) (judge : Terminal → Result A RuleFault) : Type 0 where
  pub right : (terminal : Terminal) (value : A) → judge terminal ≡ Ok value → means value terminal
  pub whole : (terminal : Terminal) (value : A) → means value terminal → judge terminal ≡ Ok value

-- an error is no value
pub no_value : {A : Type 0} (fault : RuleFault) (value : A) → ◌≡◌ {A = Result A RuleFault} (Err fault) (Ok value) → ⊥
no_value fault value same = cc

ok-same : {A : Type 0} (one other : A) → ◌≡◌ {A = Result A RuleFault} (Ok one) (Ok other) → one ≡ other
ok-same one other same = cc

pub none-some : {A : Type 0} (value : A) → None ≡ Some value → ⊥
none-some value same = cc

pub some-same : {A : Type 0} (one other : A) → Some one ≡ Some other → one ≡ other
some-same one other same = cc

-- a name that is taken is spelled as one and short, and is given as it is
name_taken : (limits : Limits) (name value : List ℕ) → folded limits name ≡ Ok value → (value ≡ name) × IsTrue (is_spelled name) × IsTrue (fits limits.name (length name))
name_taken limits name value is = by (is_spelled name) (fits limits.name (length name)) refl refl is
  where
    by : (spelled short : Bool) → is_spelled name ≡ spelled → fits limits.name (length name) ≡ short → ◌≡◌ {A = Result (List ℕ) RuleFault} (if spelled then (if short then Ok name else Err (Limit limit.Name)) else Err Syntax) (Ok value)
        → (value ≡ name) × IsTrue (is_spelled name) × IsTrue (fits limits.name (length name))
    by false short word fitting same = absurd (no_value Syntax value same)
    by true false word fitting same = absurd (no_value (Limit limit.Name) value same)
    by true true word fitting same = (sym (ok-same name value same), word, fitting)

name_right : (limits : Limits) (terminal : Terminal) (value : List ℕ) → name_of limits terminal ≡ Ok value → NameIs limits value terminal
name_right limits (Written Name bytes start) value is =
    let taken = name_taken limits (map to_ascii_lowercase bytes) value is in
    record {
      bytes = bytes;
      start = start;
      is = refl;
      lower = taken.0;
      spelled = subst (λ l. IsTrue (is_spelled l)) (sym taken.0) taken.1;
      short = subst (λ l. IsTrue (fits limits.name (length l))) (sym taken.0) taken.2;
    }
name_right limits (Written Keyword bytes start) value is = absurd (no_value Syntax value is)
name_right limits (Written Number bytes start) value is = absurd (no_value Syntax value is)
name_right limits (Written Quoted bytes start) value is = absurd (no_value Syntax value is)
name_right limits (Written Mark bytes start) value is = absurd (no_value Syntax value is)
name_right limits Slot value is = absurd (no_value Syntax value is)

name_whole : (limits : Limits) (terminal : Terminal) (value : List ℕ) → NameIs limits value terminal → name_of limits terminal ≡ Ok value
name_whole limits terminal value means =
    ap (name_of limits) means.is ∙ ap (folded limits) (sym means.lower) ∙ taken means.spelled means.short
  where
    taken : is_spelled value ≡ true → fits limits.name (length value) ≡ true → folded limits value ≡ Ok value
    taken spelled short = (λ i. if spelled i then (if short i then Ok value else Err (Limit limit.Name)) else Err Syntax)

-- a name
pub name_exactly : (limits : Limits) → SaysExactly (NameIs limits) (name_of limits)
name_exactly limits = record { right = name_right limits; whole = name_whole limits }

-- a number that is taken is in range
number_taken : (negative : Bool) (number : ℕ) (value : ℤ) → ranged negative number ≡ Ok value → (value ≡ signed negative number) × (number ≤ (if negative then 2 ^ 63 else 2 ^ 63 - 1))
number_taken negative number value is = by (if negative then 2 ^ 63 else 2 ^ 63 - 1) (nat_le number (if negative then 2 ^ 63 else 2 ^ 63 - 1)) refl is
  where
    by : (most : ℕ) (answer : Bool) → nat_le number most ≡ answer → ◌≡◌ {A = Result ℤ RuleFault} (if answer then Ok (signed negative number) else Err Syntax) (Ok value) → (value ≡ signed negative number) × (number ≤ most)
    by most false above same = absurd (no_value Syntax value same)
    by most true within same = (sym (ok-same (signed negative number) value same), grind arith)

number_right : (negative : Bool) (terminal : Terminal) (value : ℤ) → number_of negative terminal ≡ Ok value → NumberIs negative value terminal
number_right negative (Written Number digits start) value is =
    let taken = number_taken negative (digits_after 0 digits) value is in
    record { digits = digits; start = start; is = refl; value = taken.0; in_range = taken.1 }
number_right negative (Written Name bytes start) value is = absurd (no_value Syntax value is)
number_right negative (Written Keyword bytes start) value is = absurd (no_value Syntax value is)
number_right negative (Written Quoted bytes start) value is = absurd (no_value Syntax value is)
number_right negative (Written Mark bytes start) value is = absurd (no_value Syntax value is)
number_right negative Slot value is = absurd (no_value Syntax value is)

in_range : (number most : ℕ) → number ≤ most → nat_le number most ≡ true
in_range number most within = grind arith

number_whole : (negative : Bool) (terminal : Terminal) (value : ℤ) → NumberIs negative value terminal → number_of negative terminal ≡ Ok value
number_whole negative terminal value means =
    ap (number_of negative) means.is ∙ ap (λ b. if b then Ok (signed negative (digits_after 0 means.digits)) else Err Syntax) (in_range (digits_after 0 means.digits) (if negative then 2 ^ 63 else 2 ^ 63 - 1) means.in_range)
    ∙ ap Ok (sym means.value)

-- a number
pub number_exactly : (negative : Bool) → SaysExactly (NumberIs negative) (number_of negative)
number_exactly negative = record { right = number_right negative; whole = number_whole negative }

with_byte-some : (byte : ℕ) (found : Option (List ℕ)) (value : List ℕ) → with_byte byte found ≡ Some value → (rest : List ℕ) × (found ≡ Some rest) × (value ≡ byte ∷ rest)
with_byte-some byte None value is = absurd (none-some value is)
with_byte-some byte (Some rest) value is = (rest, refl, sym (some-same (byte ∷ rest) value is))

-- the bytes with the quote before them, where there was one
abbrev with_quote : Bool → List ℕ → List ℕ
with_quote true bytes = 39 ∷ bytes
with_quote false bytes = bytes

equal : (byte : ℕ) → (byte == 39) ≡ true → byte ≡ 39
equal byte is = grind arith

-- what is found between the quotes stands there
inside_right : (quote : Bool) (bytes value : List ℕ) → inside quote bytes ≡ Some value → with_quote quote bytes ≡ doubled value ++ 39 ∷ []
inside_right false [] value is = absurd (none-some value is)
inside_right true [] value is = ap (λ l. doubled l ++ 39 ∷ []) (some-same [] value is)
inside_right false (byte ∷ bytes) value is = by (λ rest. inside_right false bytes rest) (inside_right true bytes value) (byte == 39) refl is
  where
    by : ((rest : List ℕ) → inside false bytes ≡ Some rest → bytes ≡ doubled rest ++ 39 ∷ []) → (inside true bytes ≡ Some value → 39 ∷ bytes ≡ doubled value ++ 39 ∷ [])
        → (answer : Bool) → (byte == 39) ≡ answer → (if answer then inside true bytes else with_byte byte (inside false bytes)) ≡ Some value → byte ∷ bytes ≡ doubled value ++ 39 ∷ []
    by plain doubles true quote same = ap (λ b. b ∷ bytes) (equal byte quote) ∙ doubles same
    by plain doubles false other same =
        let more = with_byte-some byte (inside false bytes) value same in
        ap (λ l. byte ∷ l) (plain more.0 more.1) ∙ ap (λ b. ((if b then 39 ∷ 39 ∷ [] else byte ∷ []) ++ doubled more.0) ++ 39 ∷ []) (sym other)
        ∙ ap (λ l. doubled l ++ 39 ∷ []) (sym more.2)
inside_right true (byte ∷ bytes) value is = by (λ rest. inside_right false bytes rest) (byte == 39) refl is
  where
    by : ((rest : List ℕ) → inside false bytes ≡ Some rest → bytes ≡ doubled rest ++ 39 ∷ []) → (answer : Bool) → (byte == 39) ≡ answer → (if answer then with_byte 39 (inside false bytes) else None) ≡ Some value → 39 ∷ byte ∷ bytes ≡ doubled value ++ 39 ∷ []
    by plain true quote same =
        let more = with_byte-some 39 (inside false bytes) value same in
        ap (λ b. 39 ∷ b ∷ bytes) (equal byte quote) ∙ ap (λ l. 39 ∷ 39 ∷ l) (plain more.0 more.1) ∙ ap (λ l. doubled l ++ 39 ∷ []) (sym more.2)
    by plain false other same = absurd (none-some value same)

-- what stands between the quotes is found
inside_whole : (value : List ℕ) → inside false (doubled value ++ 39 ∷ []) ≡ Some value
inside_whole [] = refl
inside_whole (byte ∷ value) = by (inside_whole value) (byte == 39) refl
  where
    by : inside false (doubled value ++ 39 ∷ []) ≡ Some value → (answer : Bool) → (byte == 39) ≡ answer → inside false (doubled (byte ∷ value) ++ 39 ∷ []) ≡ Some (byte ∷ value)
    by later true quote =
        ap (λ b. inside false (((if b then 39 ∷ 39 ∷ [] else byte ∷ []) ++ doubled value) ++ 39 ∷ [])) quote ∙ ap (with_byte 39) later ∙ ap (λ b. Some (b ∷ value)) (sym (equal byte quote))
    by later false other =
        ap (λ b. inside false (((if b then 39 ∷ 39 ∷ [] else byte ∷ []) ++ doubled value) ++ 39 ∷ [])) other
        ∙ ap (λ b. if b then inside true (doubled value ++ 39 ∷ []) else with_byte byte (inside false (doubled value ++ 39 ∷ []))) other ∙ ap (with_byte byte) later

-- what is found is the value in quotes
pub unquoted_right : (bytes value : List ℕ) → unquoted bytes ≡ Some value → bytes ≡ quoted value
unquoted_right [] value is = absurd (none-some value is)
unquoted_right (byte ∷ bytes) value is = by (byte == 39) refl is
  where
    by : (answer : Bool) → (byte == 39) ≡ answer → (if answer then inside false bytes else None) ≡ Some value → byte ∷ bytes ≡ quoted value
    by true quote same = ap (λ b. b ∷ bytes) (equal byte quote) ∙ ap (λ l. 39 ∷ l) (inside_right false bytes value same)
    by false other same = absurd (none-some value same)

-- the value in quotes is found
pub unquoted_whole : (value : List ℕ) → unquoted (quoted value) ≡ Some value
unquoted_whole value = inside_whole value

-- where what comes after a first quote gives a value, the whole is that value in quotes
pub inside-quoted : (bytes after value : List ℕ) → bytes ≡ 39 ∷ after → inside false after ≡ Some value → bytes ≡ quoted value
inside-quoted bytes after value front is = front ∙ ap (λ l. 39 ∷ l) (inside_right false after value is)

-- where it gives none, the whole is no text in quotes
pub inside-none : (bytes after : List ℕ) → bytes ≡ 39 ∷ after → inside false after ≡ None → (value : List ℕ) → bytes ≡ quoted value → ⊥
inside-none bytes after front none value is =
    let same : after ≡ doubled value ++ 39 ∷ [] = cc in
    none-some value (sym none ∙ ap (inside false) same ∙ inside_whole value)

-- what is no text in quotes has no value
pub unquoted-none : (bytes : List ℕ) → ((value : List ℕ) → bytes ≡ quoted value → ⊥) → unquoted bytes ≡ None
unquoted-none bytes none = by (unquoted bytes) refl
  where
    by : (found : Option (List ℕ)) → unquoted bytes ≡ found → unquoted bytes ≡ None
    by None is = is
    by (Some value) is = absurd (none value (unquoted_right bytes value is))

-- what follows of a result's value, where there is one
pub ok-then : {A E : Type 0} (result : Result A E) (First Second : A → Type 0) → ((value : A) → First value → Second value) → IfOk result First → IfOk result Second
ok-then (Ok value) First Second then_so is = then_so value is
ok-then (Err fault) First Second then_so is = tt

pub option-then : {A : Type 0} (found : Option A) (None1 None2 : Type 0) (Some1 Some2 : A → Type 0) → (None1 → None2) → ((value : A) → Some1 value → Some2 value) → MatchOption found None1 Some1 → MatchOption found None2 Some2
option-then None None1 None2 Some1 Some2 none some is = none is
option-then (Some value) None1 None2 Some1 Some2 none some is = some value is

-- a text that is taken is short
text_taken : (limits : Limits) (found : Option (List ℕ)) (value : List ℕ) → short_text limits found ≡ Ok value → (found ≡ Some value) × IsTrue (fits limits.text (length value))
text_taken limits None value is = absurd (no_value Syntax value is)
text_taken limits (Some found) value is = by (fits limits.text (length found)) refl is
  where
    by : (answer : Bool) → fits limits.text (length found) ≡ answer → ◌≡◌ {A = Result (List ℕ) RuleFault} (if answer then Ok found else Err (Limit limit.Text)) (Ok value) → (Some found ≡ Some value) × IsTrue (fits limits.text (length value))
    by false above same = absurd (no_value (Limit limit.Text) value same)
    by true within same = let equal = ok-same found value same in (ap Some equal, subst (λ l. IsTrue (fits limits.text (length l))) equal within)

text_right : (limits : Limits) (terminal : Terminal) (value : List ℕ) → text_of limits terminal ≡ Ok value → TextIs limits value terminal
text_right limits (Written Quoted bytes start) value is =
    let taken = text_taken limits (unquoted bytes) value is in
    record { start = start; is = ap (λ l. Written Quoted l start) (unquoted_right bytes value taken.0); short = taken.1 }
text_right limits (Written Name bytes start) value is = absurd (no_value Syntax value is)
text_right limits (Written Keyword bytes start) value is = absurd (no_value Syntax value is)
text_right limits (Written Number bytes start) value is = absurd (no_value Syntax value is)
text_right limits (Written Mark bytes start) value is = absurd (no_value Syntax value is)
text_right limits Slot value is = absurd (no_value Syntax value is)

text_whole : (limits : Limits) (terminal : Terminal) (value : List ℕ) → TextIs limits value terminal → text_of limits terminal ≡ Ok value
text_whole limits terminal value means =
    ap (text_of limits) means.is ∙ ap (short_text limits) (unquoted_whole value) ∙ ap (λ b. if b then Ok value else Err (Limit limit.Text)) means.short

-- a text
pub text_exactly : (limits : Limits) → SaysExactly (TextIs limits) (text_of limits)
text_exactly limits = record { right = text_right limits; whole = text_whole limits }

slot_right : (terminal : Terminal) (value : Item) → slot_of terminal ≡ Ok value → SlotIs value terminal
slot_right Slot value is = record { is = refl; value = sym (ok-same slot_item value is) }
slot_right (Written kind bytes start) value is = by (name_of no_limits (Written kind bytes start)) is
  where
    by : (answer : Result (List ℕ) RuleFault) → barred answer ≡ Ok value → SlotIs value (Written kind bytes start)
    by (Ok name) is = absurd (no_value (Limit limit.Items) value is)
    by (Err fault) is = absurd (no_value Syntax value is)

-- a slot
pub slot_exactly : SaysExactly SlotIs slot_of
slot_exactly = record { right = slot_right; whole = λ terminal value means. ap slot_of means.is ∙ ap Ok (sym means.value) }
