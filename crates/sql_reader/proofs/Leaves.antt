-- The rules of one terminal.
use Rattle.std.proofs.Common.{◌≡◌, ℕ, Bool, true, false, List, [], ◌∷◌, length, map, Ok, Err, refl, ap, inl, inr, codes}
use Rattle.std.specs.Prelude.{◌^◌, ◌-◌, nat_le, ℤ, if◌then◌else◌, Option, None, Some}
use Rattle.std.specs.Char.{to_ascii_lowercase}
use Rattle.own_base.specs.Name.{is_spelled}
use Rattle.own_model.specs.declared.limit.LimitName.{LimitName}
use Rattle.own_model.specs.declared.limit.LimitName.TheVariants as limit
use Rattle.sql_lex.specs.declared.token.TokenKind.TheVariants.{Name, Keyword, Number, Quoted, Mark}
use Rattle.sql_reader.specs.declared.fault.RuleFault.TheVariants.{Syntax, Limit}
use Rattle.grammar_model.specs.Grammar as grammar
use Rattle.grammar_model.specs.Limits.{Limits, fits}
use Rattle.sql_reader.specs.reading.Rules as rules
use Rattle.grammar_model.specs.Terminal.{Terminal, Written, Slot}
use Rattle.sql_reader.specs.reading.Judges.{name_of, text_of, number_of, unquoted, short_text}
use Rattle.grammar_model.specs.Values.{signed, digits_after}
use Rattle.grammar_model.specs.Values.{NameIs, NumberIs, TextIs}
use Rattle.sql_reader.proofs.Choices.{LiftedJudge, one_terminal}
use Rattle.sql_reader.proofs.Exactly.{no_value, name_exactly, number_exactly, text_exactly}
use Rattle.sql_reader.proofs.Heads.{AName, ANumber, AQuoted, among}
use Rattle.sql_reader.proofs.ReaderRight.{Right}
use Rattle.sql_reader.proofs.Lifts.{Fair, lift}

short : (lifts : LimitName → Bool) (which : LimitName) (value : List ℕ) (most : Option ℕ) (free : Bool) → lifts which ≡ free
    → LiftedJudge {A = List ℕ} lifts (if fits most (length value) then Ok value else Err (Limit which)) (if fits (if free then None else most) (length value) then Ok value else Err (Limit which))
short lifts which value most true is = by (fits most (length value))
  where
    by : (answer : Bool) → LiftedJudge {A = List ℕ} lifts (if answer then Ok value else Err (Limit which)) (Ok value)
    by true = refl
    by false = inl (is, (value, refl))
short lifts which value most false is = by (fits most (length value))
  where
    by : (answer : Bool) → LiftedJudge {A = List ℕ} lifts (if answer then Ok value else Err (Limit which)) (if answer then Ok value else Err (Limit which))
    by true = refl
    by false = inr (is, refl)

module _ (lifts : LimitName → Bool) (limits : Limits) (fair : Fair limits) where
  names-begin : (terminal : Terminal) (value : List ℕ) → name_of limits terminal ≡ Ok value → among (AName ∷ []) terminal ≡ true
  names-begin (Written Name text start) value is = refl
  names-begin (Written Keyword text start) value is = absurd (no_value Syntax value is)
  names-begin (Written Number text start) value is = absurd (no_value Syntax value is)
  names-begin (Written Quoted text start) value is = absurd (no_value Syntax value is)
  names-begin (Written Mark text start) value is = absurd (no_value Syntax value is)
  names-begin Slot value is = absurd (no_value Syntax value is)

  names-lifted : (terminal : Terminal) → LiftedJudge lifts (name_of limits terminal) (name_of (lift lifts limits) terminal)
  names-lifted (Written Name text start) = by (is_spelled (map to_ascii_lowercase text))
    where
      by : (answer : Bool) → LiftedJudge {A = List ℕ} lifts (if answer then (if fits limits.name (length (map to_ascii_lowercase text)) then Ok (map to_ascii_lowercase text) else Err (Limit limit.Name)) else Err Syntax)
          (if answer then (if fits (if lifts limit.Name then None else limits.name) (length (map to_ascii_lowercase text)) then Ok (map to_ascii_lowercase text) else Err (Limit limit.Name)) else Err Syntax)
      by true = short lifts limit.Name (map to_ascii_lowercase text) limits.name (lifts limit.Name) refl
      by false = refl
  names-lifted (Written Keyword text start) = refl
  names-lifted (Written Number text start) = refl
  names-lifted (Written Quoted text start) = refl
  names-lifted (Written Mark text start) = refl
  names-lifted Slot = refl

  -- a name
  pub name_right : Right lifts (rules.name limits) (rules.name (lift lifts limits)) (grammar.name limits) (AName ∷ []) false []
  unfolding rules.name grammar.name
  name_right = one_terminal (NameIs limits) (name_of limits) (name_of (lift lifts limits)) (name_exactly limits) (AName ∷ []) (codes "a") (Written Name (codes "a") 0) (ap (λ b. if b then Ok (codes "a") else Err (Limit limit.Name)) fair.name) names-begin names-lifted

  texts-begin : (terminal : Terminal) (value : List ℕ) → text_of limits terminal ≡ Ok value → among (AQuoted ∷ []) terminal ≡ true
  texts-begin (Written Quoted text start) value is = refl
  texts-begin (Written Keyword text start) value is = absurd (no_value Syntax value is)
  texts-begin (Written Number text start) value is = absurd (no_value Syntax value is)
  texts-begin (Written Name text start) value is = absurd (no_value Syntax value is)
  texts-begin (Written Mark text start) value is = absurd (no_value Syntax value is)
  texts-begin Slot value is = absurd (no_value Syntax value is)

  values-lifted : (found : Option (List ℕ)) → LiftedJudge lifts (short_text limits found) (short_text (lift lifts limits) found)
  values-lifted None = refl
  values-lifted (Some value) = short lifts limit.Text value limits.text (lifts limit.Text) refl

  texts-lifted : (terminal : Terminal) → LiftedJudge lifts (text_of limits terminal) (text_of (lift lifts limits) terminal)
  texts-lifted (Written Quoted text start) = values-lifted (unquoted text)
  texts-lifted (Written Keyword text start) = refl
  texts-lifted (Written Number text start) = refl
  texts-lifted (Written Name text start) = refl
  texts-lifted (Written Mark text start) = refl
  texts-lifted Slot = refl

  -- a text
  pub text_right : Right lifts (rules.text limits) (rules.text (lift lifts limits)) (grammar.text limits) (AQuoted ∷ []) false []
  unfolding rules.text grammar.text
  text_right = one_terminal (TextIs limits) (text_of limits) (text_of (lift lifts limits)) (text_exactly limits) (AQuoted ∷ []) [] (Written Quoted (codes "''") 0) (ap (λ b. if b then Ok [] else Err (Limit limit.Text)) fair.text) texts-begin texts-lifted

numbers-begin : (negative : Bool) (terminal : Terminal) (value : ℤ) → number_of negative terminal ≡ Ok value → among (ANumber ∷ []) terminal ≡ true
numbers-begin negative (Written Number text start) value is = refl
numbers-begin negative (Written Keyword text start) value is = absurd (no_value Syntax value is)
numbers-begin negative (Written Quoted text start) value is = absurd (no_value Syntax value is)
numbers-begin negative (Written Name text start) value is = absurd (no_value Syntax value is)
numbers-begin negative (Written Mark text start) value is = absurd (no_value Syntax value is)
numbers-begin negative Slot value is = absurd (no_value Syntax value is)

numbers-lifted : (lifts : LimitName → Bool) (negative : Bool) (terminal : Terminal) → LiftedJudge lifts (number_of negative terminal) (number_of negative terminal)
numbers-lifted lifts negative (Written Number text start) = by (nat_le (digits_after 0 text) (if negative then 2 ^ 63 else 2 ^ 63 - 1))
  where
    by : (answer : Bool) → LiftedJudge {A = ℤ} lifts (if answer then Ok (signed negative (digits_after 0 text)) else Err Syntax) (if answer then Ok (signed negative (digits_after 0 text)) else Err Syntax)
    by true = refl
    by false = refl
numbers-lifted lifts negative (Written Keyword text start) = refl
numbers-lifted lifts negative (Written Quoted text start) = refl
numbers-lifted lifts negative (Written Name text start) = refl
numbers-lifted lifts negative (Written Mark text start) = refl
numbers-lifted lifts negative Slot = refl

numbers-fit : (negative : Bool) → (value : ℤ) × (number_of negative (Written Number (codes "0") 0) ≡ Ok value)
numbers-fit true = (_, refl)
numbers-fit false = (_, refl)

-- digits
pub number_right : {lifts : LimitName → Bool} (negative : Bool) → Right lifts (rules.number negative) (rules.number negative) (grammar.number negative) (ANumber ∷ []) false []
unfolding rules.number grammar.number
number_right {lifts = lifts} negative = one_terminal (NumberIs negative) (number_of negative) (number_of negative) (number_exactly negative) (ANumber ∷ []) (numbers-fit negative).0 (Written Number (codes "0") 0) (numbers-fit negative).1 (numbers-begin negative) (numbers-lifted lifts negative)
