-- What the grammar says of terminals: which values they may represent.
use Rattle.std.specs.Prelude.{◌≡◌, ℕ, ◌+◌, Bool, true, false, List, [], ◌∷◌, Option, None, Some, ◌⊎◌, codes}
use Rattle.grammar_model.specs.Terminal.{Terminal, Terminals, is_word, is_mark}

-- a value, the terminals from here on, and those after it
abbrev pub Language : Type 0 → Type 1
Language A = A → Terminals → Terminals → Type 0

-- one terminal that represents the value
abbrev pub one : {A : Type 0} → (A → Terminal → Type 0) → Language A
one means value terminals rest = (terminal : Terminal) × (terminals ≡ terminal ∷ rest) × means value terminal

-- one language, and after it another that its value may decide
infixl 10 ◌>>=◌
abbrev pub ◌>>=◌ : {A B : Type 0} → Language A → (A → Language B) → Language B
◌>>=◌ {A = A} first next value terminals rest = (found : A) × (middle : Terminals) × first found terminals middle × next found value middle rest

infixl 10 ◌>>◌
abbrev pub ◌>>◌ : {A B : Type 0} → Language A → Language B → Language B
first >> next = first >>= λ _. next

-- no terminal
abbrev pub pure : {A : Type 0} → A → Language A
pure found value terminals rest = (value ≡ found) × (terminals ≡ rest)

-- the one or the other
infixr 5 ◌or◌
abbrev pub ◌or◌ : {A : Type 0} → Language A → Language A → Language A
(first or second) value terminals rest = first value terminals rest ⊎ second value terminals rest

-- [x]
abbrev pub optional : {A : Type 0} → Language A → Language (Option A)
optional language = (language >>= λ found. pure (Some found)) or pure None

-- {x}, where what may stand at a place may depend on how many stand before it
abbrev pub many_from : {A : Type 0} → (ℕ → Language A) → ℕ → Language (List A)
many_from languages count [] terminals rest = terminals ≡ rest
many_from languages count (value ∷ values) terminals rest = (middle : Terminals) × languages count value terminals middle × many_from languages (count + 1) values middle rest

-- {x}
abbrev pub many : {A : Type 0} → Language A → Language (List A)
many language = many_from (λ _. language) 0

-- a keyword
abbrev pub word : List ℕ → Language (Unit {0})
word wanted = one (λ _ terminal. is_word wanted terminal ≡ true)

-- a mark
abbrev pub mark : List ℕ → Language (Unit {0})
mark wanted = one (λ _ terminal. is_mark wanted terminal ≡ true)

-- x {separator x}
abbrev pub separated : {A : Type 0} → Language (Unit {0}) → Language A → Language (List A)
separated separator language = do
  first ← language
  others ← many (separator >> language)
  pure (first ∷ others)

-- x {, x}
abbrev pub listed : {A : Type 0} → Language A → Language (List A)
listed = separated (mark (codes ","))

-- ( x )
abbrev pub bracketed : {A : Type 0} → Language A → Language A
bracketed language = do
  mark (codes "(")
  found ← language
  mark (codes ")")
  pure found

-- the one where the test passes, else the other
abbrev pub whether : {A : Type 0} → Bool → Language A → Language A → Language A
whether true first second = first
whether false first second = second
