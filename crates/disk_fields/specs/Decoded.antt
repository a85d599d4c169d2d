-- What a decoder answers.
use Rattle.std.specs.Prelude.{ℕ, List, Option, Some, None, Result, Ok, Err}

-- A decoder that was not refused memory found what the bytes are, or nothing where they are nothing of the kind.
abbrev pub Decodes : {A E : Type 0} → (A → List ℕ → Type 0) → List ℕ → Result (Option A) E → Type 0
Decodes format bytes (Ok (Some x)) = format x bytes
Decodes {A = A} format bytes (Ok None) = (x : A) → format x bytes → ⊥
Decodes format bytes (Err e) = Unit {0}
