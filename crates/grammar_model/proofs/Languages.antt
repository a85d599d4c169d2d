-- What all values of a language have.
use Rattle.std.proofs.Common.{ℕ, ◌+◌, List, [], ◌∷◌, subst, sym, inl, inr}
use Rattle.std.specs.Prelude.{None, Some}
use Rattle.std.specs.List.{AllByRecursion}
use Rattle.grammar_model.specs.Language.{Language, one, ◌>>=◌, pure, ◌or◌, optional, many_from, listed, bracketed}
use Rattle.grammar_model.specs.Terminal.{Terminal, Terminals}

-- each value that the language gives has the property
abbrev pub Gives : {A : Type 0} → (A → Type 0) → Language A → Type 0
Gives {A} P language = (value : A) (terminals rest : Terminals) → language value terminals rest → P value

-- two languages in a row give what the second gives
pub gives-bind : {A B : Type 0} (P : B → Type 0) (first : Language A) (next : A → Language B) → ((found : A) → Gives P (next found)) → Gives P (first >>= next)
gives-bind P first next gives value terminals rest by = gives by.0 value by.1 rest by.3

-- the same where what comes first has a property of its own
pub gives-own : {A B : Type 0} (Q : A → Type 0) (P : B → Type 0) (first : Language A) (next : A → Language B) → Gives Q first
    → ((found : A) → Q found → Gives P (next found)) → Gives P (first >>= next)
gives-own Q P first next own gives value terminals rest by = gives by.0 (own by.0 terminals by.1 by.2) value by.1 rest by.3

-- a value by itself
pub gives-pure : {A : Type 0} (P : A → Type 0) (found : A) → P found → Gives P (pure found)
gives-pure P found has value terminals rest by = subst P (sym by.0) has

-- the one or the other
pub gives-or : {A : Type 0} (P : A → Type 0) (first second : Language A) → Gives P first → Gives P second → Gives P (first or second)
gives-or P first second one other value terminals rest (inl by) = one value terminals rest by
gives-or P first second one other value terminals rest (inr by) = other value terminals rest by

-- each of many
pub gives-many : {A : Type 0} (P : A → Type 0) (languages : ℕ → Language A) → ((count : ℕ) → Gives P (languages count)) → (values : List A) (count : ℕ) (terminals rest : Terminals)
    → many_from languages count values terminals rest → AllByRecursion P values
gives-many P languages gives [] count terminals rest by = tt
gives-many P languages gives (value ∷ values) count terminals rest by =
    (gives count value terminals by.0 by.1, gives-many P languages gives values (count + 1) by.0 rest by.2)

-- each of a list
pub gives-listed : {A : Type 0} (P : A → Type 0) (language : Language A) → Gives P language → Gives (AllByRecursion P) (listed language)
gives-listed P language gives =
    gives-own P (AllByRecursion P) _ _ gives (λ first has. gives-own (AllByRecursion P) (AllByRecursion P) _ _
    (λ values terminals rest by. gives-many P _ (λ count. gives-bind P _ _ (λ _. gives)) values 0 terminals rest by)
    (λ others all. gives-pure (AllByRecursion P) (first ∷ others) (has, all)))

-- a value in brackets
pub gives-bracketed : {A : Type 0} (P : A → Type 0) (language : Language A) → Gives P language → Gives P (bracketed language)
gives-bracketed P language gives =
    gives-bind P _ _ (λ _. gives-own P P _ _ gives (λ found has. gives-bind P _ _ (λ _. gives-pure P found has)))

-- of terminals that each have a property the language gives values that have one, and it leaves no others
abbrev pub GivesOf : {A : Type 0} → (Terminal → Type 0) → (A → Type 0) → Language A → Type 0
GivesOf {A} S P language = (value : A) (terminals rest : Terminals) → AllByRecursion S terminals → language value terminals rest → P value × AllByRecursion S rest

-- one terminal
pub of-one : {A : Type 0} (S : Terminal → Type 0) (P : A → Type 0) (means : A → Terminal → Type 0) → ((value : A) (terminal : Terminal) → S terminal → means value terminal → P value)
    → GivesOf S P (one means)
of-one S P means gives value terminals rest are by =
    let all : AllByRecursion S (by.0 ∷ rest) = subst (AllByRecursion S) by.1 are in (gives value by.0 all.0 by.2, all.1)

-- one of which nothing is asked
abbrev pub Anything : {A : Type 0} → A → Type 0
Anything _ = Unit {0}

pub of-any : {A : Type 0} (S : Terminal → Type 0) (means : A → Terminal → Type 0) → GivesOf S Anything (one means)
of-any S means = of-one S Anything means (λ value terminal has by. tt)

-- two languages in a row
pub of-own : {A B : Type 0} (S : Terminal → Type 0) (Q : A → Type 0) (P : B → Type 0) (first : Language A) (next : A → Language B) → GivesOf S Q first
    → ((found : A) → Q found → GivesOf S P (next found)) → GivesOf S P (first >>= next)
of-own S Q P first next own gives value terminals rest are by =
    let before = own by.0 terminals by.1 are by.2 in gives by.0 before.0 value by.1 rest before.1 by.3

-- after one of which nothing is asked
pub of-bind : {A B : Type 0} (S : Terminal → Type 0) (P : B → Type 0) (first : Language A) (next : A → Language B) → GivesOf S Anything first
    → ((found : A) → GivesOf S P (next found)) → GivesOf S P (first >>= next)
of-bind S P first next own gives = of-own S Anything P first next own (λ found _. gives found)

pub of-pure : {A : Type 0} (S : Terminal → Type 0) (P : A → Type 0) (found : A) → P found → GivesOf S P (pure found)
of-pure S P found has value terminals rest are by = (subst P (sym by.0) has, subst (AllByRecursion S) by.1 are)

pub of-or : {A : Type 0} (S : Terminal → Type 0) (P : A → Type 0) (first second : Language A) → GivesOf S P first → GivesOf S P second → GivesOf S P (first or second)
of-or S P first second one other value terminals rest are (inl by) = one value terminals rest are by
of-or S P first second one other value terminals rest are (inr by) = other value terminals rest are by

of-many : {A : Type 0} (S : Terminal → Type 0) (P : A → Type 0) (languages : ℕ → Language A) → ((count : ℕ) → GivesOf S P (languages count))
    → (values : List A) (count : ℕ) (terminals rest : Terminals) → AllByRecursion S terminals → many_from languages count values terminals rest
    → AllByRecursion P values × AllByRecursion S rest
of-many S P languages gives [] count terminals rest are by = (tt, subst (AllByRecursion S) by are)
of-many S P languages gives (value ∷ values) count terminals rest are by =
    let first = gives count value terminals by.0 are by.1 in
    let others = of-many S P languages gives values (count + 1) by.0 rest first.1 by.2 in
    ((first.0, others.0), others.1)

-- a list, and what stands in brackets
pub of-listed : {A : Type 0} (S : Terminal → Type 0) (P : A → Type 0) (language : Language A) → GivesOf S P language → GivesOf S (AllByRecursion P) (listed language)
of-listed S P language gives =
    of-own S P (AllByRecursion P) _ _ gives (λ first has. of-own S (AllByRecursion P) (AllByRecursion P) _ _
    (λ values terminals rest are by. of-many S P _ (λ count. of-bind S P _ _ (of-any S _) (λ _. gives)) values 0 terminals rest are by)
    (λ others all. of-pure S (AllByRecursion P) (first ∷ others) (has, all)))

pub of-bracketed : {A : Type 0} (S : Terminal → Type 0) (P : A → Type 0) (language : Language A) → GivesOf S P language → GivesOf S P (bracketed language)
of-bracketed S P language gives =
    of-bind S P _ _ (of-any S _) (λ _. of-own S P P _ _ gives (λ found has. of-bind S P _ _ (of-any S _) (λ _. of-pure S P found has)))

-- what may be left out
pub of-optional : {A : Type 0} (S : Terminal → Type 0) (language : Language A) → GivesOf S Anything language → GivesOf S Anything (optional language)
of-optional S language gives = of-or S Anything _ _ (of-bind S Anything _ _ gives (λ found. of-pure S Anything (Some found) tt)) (of-pure S Anything None tt)
