-- What a language leaves of terminals: no more bytes than they have.
use Rattle.std.proofs.Common.{◌≤◌, ℕ, ◌+◌, List, [], ◌∷◌, inl, inr, arith}
use Rattle.grammar_model.specs.Grammar as rules
use Rattle.grammar_model.specs.Language.{Language, one, ◌>>=◌, ◌>>◌, ◌or◌, pure, many_from, bracketed}
use Rattle.grammar_model.specs.Limits.{Limits}
use Rattle.grammar_model.specs.Terminal.{Terminal, Terminals}
use Rattle.grammar_model.proofs.TextBytes.{written, none, written-less, bracketed-takes, name-takes, names-takes}

-- what a language leaves of terminals has no more bytes than they
abbrev pub Shrinks : {A : Type 0} → Language A → Type 0
Shrinks {A} language = (value : A) (terminals rest : Terminals) → language value terminals rest → written rest ≤ written terminals

-- one terminal, none, one language after another, and one or another: none of them adds bytes
pub one-shrinks : {A : Type 0} (means : A → Terminal → Type 0) → Shrinks (one means)
one-shrinks means value terminals rest by = written-less by.1

pub pure-shrinks : {A : Type 0} (found : A) → Shrinks (pure found)
pure-shrinks found value terminals rest by = rw by.1 (omega arith)

pub then-shrinks : {A B : Type 0} (first : Language A) (next : A → Language B) → Shrinks first → ((found : A) → Shrinks (next found)) → Shrinks (first >>= next)
then-shrinks first next one other value terminals rest by =
    let before = one by.0 terminals by.1 by.2 in
    let after = other by.0 value by.1 rest by.3 in
    omega arith

pub or-shrinks : {A : Type 0} (first second : Language A) → Shrinks first → Shrinks second → Shrinks (first or second)
or-shrinks first second one other value terminals rest (inl by) = one value terminals rest by
or-shrinks first second one other value terminals rest (inr by) = other value terminals rest by

pub many-shrinks : {A : Type 0} (language : Language A) → Shrinks language
    → (values : List A) (before : ℕ) (terminals rest : Terminals) → many_from (λ _. language) before values terminals rest → written rest ≤ written terminals
many-shrinks language one [] before terminals rest by = rw by (omega arith)
many-shrinks language one (value ∷ values) before terminals rest by =
    let first = one value terminals by.0 by.1 in
    let others = many-shrinks language one values (before + 1) by.0 rest by.2 in
    omega arith

-- a value after a keyword or after two
pub word-shrinks : {A : Type 0} (word : Unit {0} → Terminal → Type 0) (next : Language A) → Shrinks next → Shrinks (one word >> next)
word-shrinks word next after = then-shrinks _ _ (one-shrinks _) (λ _. after)

pub words-shrinks : {A : Type 0} (word other : Unit {0} → Terminal → Type 0) (next : Language A) → Shrinks next → Shrinks (one word >> one other >> next)
words-shrinks word other next after = then-shrinks _ _ (then-shrinks _ _ (one-shrinks _) (λ _. one-shrinks _)) (λ _. after)

-- the rules of names
pub name-shrinks : (limits : Limits) → Shrinks (rules.name limits)
name-shrinks limits value terminals rest by = let takes = name-takes limits value terminals rest by in omega arith

pub in_brackets-shrinks : (limits : Limits) → Shrinks (bracketed (rules.name limits))
in_brackets-shrinks limits value terminals rest by = let takes = bracketed-takes none _ (name-takes limits) value terminals rest by in omega arith

pub names-shrinks : (limits : Limits) → Shrinks (bracketed (rules.names limits))
names-shrinks limits value terminals rest by = let takes = names-takes limits value terminals rest by in omega arith
