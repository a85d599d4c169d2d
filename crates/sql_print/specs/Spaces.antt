-- Words that follow others.
use Rattle.std.specs.Prelude.{ℕ, List, ◌∷◌}
use Rattle.std.specs.List.{flat_map}
use Rattle.text_model.specs.Words.{Words}

-- the words, each after a space
abbrev pub after_spaces : Words → List ℕ
after_spaces words = flat_map (λ word. 32 ∷ word) words
