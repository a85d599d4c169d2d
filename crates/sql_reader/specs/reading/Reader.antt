-- How the reader goes over the terminals: what it reads and the terminals after it, or the fault and the terminals
-- from the fault on.
use Rattle.std.specs.Prelude.{◌≡◌, ◌≤◌, ℕ, zero, suc, Bool, false, List, [], ◌∷◌, ◌++◌, length, Option, None, Some, Result, Ok, Err, if◌then◌else◌}
use Rattle.sql_reader.specs.declared.fault.RuleFault.{RuleFault}
use Rattle.sql_reader.specs.declared.fault.RuleFault.TheVariants.{Syntax, Limit, Memory}
use Rattle.grammar_model.specs.Terminal.{Terminal, Terminals}

-- what came of it
abbrev pub Reading : Type 0 → Type 0
Reading A = Result (A × Terminals) (RuleFault × Terminals)

abbrev pub Reader : Type 0 → Type 0
Reader A = Terminals → Reading A

-- where something was read, what is after it is read too
abbrev pub then_read : {A B : Type 0} → Reading A → (A → Reader B) → Reading B
then_read (Ok (read, rest)) next = next read rest
then_read (Err fault) next = Err fault

infixl 10 ◌>>=◌
abbrev pub ◌>>=◌ : {A B : Type 0} → Reader A → (A → Reader B) → Reader B
(first >>= next) terminals = then_read (first terminals) next

infixl 10 ◌>>◌
abbrev pub ◌>>◌ : {A B : Type 0} → Reader A → Reader B → Reader B
first >> next = first >>= λ _. next

-- nothing more
abbrev pub pure : {A : Type 0} → A → Reader A
pure read terminals = Ok (read, terminals)

-- the first terminal passes
abbrev pub next_is : (Terminal → Bool) → Terminals → Bool
next_is test [] = false
next_is test (terminal ∷ terminals) = test terminal

-- what a terminal is judged to be
abbrev pub judged : {A : Type 0} → Result A RuleFault → Terminal → Terminals → Reading A
judged (Ok read) terminal rest = Ok (read, rest)
judged (Err fault) terminal rest = Err (fault, terminal ∷ rest)

-- one terminal
abbrev pub accept : {A : Type 0} → (Terminal → Result A RuleFault) → Reader A
accept judge [] = Err (Syntax, [])
accept judge (terminal ∷ rest) = judged (judge terminal) terminal rest

-- a terminal that passes
abbrev pub passes : (Terminal → Bool) → Terminal → Result (Unit {0}) RuleFault
passes test terminal = if test terminal then Ok tt else Err Syntax

-- one rule where the first terminal passes, else the other
abbrev pub either : {A : Type 0} → (Terminal → Bool) → Reader A → Reader A → Reader A
either test first second terminals = if next_is test terminals then first terminals else second terminals

-- the rule where the first terminal passes, else nothing
abbrev pub optional : {A : Type 0} → (Terminal → Bool) → Reader A → Reader (Option A)
optional test reader = either test (reader >>= λ read. pure (Some read)) (pure None)

-- the rule as often as the first terminal passes, at most that many times
abbrev pub up_to : {A : Type 0} → ℕ → (Terminal → Bool) → Reader A → Reader (List A)
up_to zero test reader = pure []
up_to (suc count) test reader = either test (reader >>= λ read. up_to count test reader >>= λ more. pure (read ∷ more)) (pure [])

-- the rule as often as the first terminal passes
abbrev pub many : {A : Type 0} → (Terminal → Bool) → Reader A → Reader (List A)
many test reader terminals = up_to (length terminals) test reader terminals

-- what comes after a list
abbrev pub prepended : {A : Type 0} → List A → Reading (List A) → Reading (List A)
prepended before (Ok (read, rest)) = Ok (before ++ read, rest)
prepended before (Err fault) = Err fault

-- a call judged a terminal as the rule does: only memory may end it otherwise
abbrev pub Judges : {A : Type 0} → Result A RuleFault → Result A RuleFault → Type 0
Judges judgement (Ok read) = judgement ≡ Ok read
Judges judgement (Err Memory) = Unit {0}
Judges judgement (Err Syntax) = judgement ≡ Err Syntax
Judges judgement (Err (Limit limit)) = judgement ≡ Err (Limit limit)

-- a call did as the reader does: only memory may end it otherwise
abbrev pub Does : {A : Type 0} → Reader A → Terminals → Result A RuleFault → Terminals → Type 0
Does reader before (Ok read) after = (reader before ≡ Ok (read, after)) × (length after ≤ length before)
Does reader before (Err Memory) after = Unit {0}
Does reader before (Err Syntax) after = reader before ≡ Err (Syntax, after)
Does reader before (Err (Limit limit)) after = reader before ≡ Err (Limit limit, after)
