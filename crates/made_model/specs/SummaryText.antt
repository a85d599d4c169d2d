-- The text of a summary.
use Rattle.std.specs.Prelude.{ℕ, ◌+◌, ◌-◌, List, [], ◌∷◌, ◌++◌, codes}
use Rattle.std.specs.Fmt.{decimal, signed_decimal}
use Rattle.made_model.specs.Summary.{Summary}

-- a word and a number
abbrev pub counted_line : List ℕ → ℕ → List ℕ
counted_line word count = word ++ decimal count ++ 10 ∷ []

-- a line for each; a call that wasn't refused is done
unfoldable pub summary_text : Summary → List ℕ
summary_text told =
    counted_line (codes "calls ") told.calls
    ++ counted_line (codes "done ") (told.calls - (told.refused + told.memory))
    ++ counted_line (codes "refused ") told.refused
    ++ counted_line (codes "memory ") told.memory
    ++ counted_line (codes "got ") told.got
    ++ codes "forgot " ++ decimal told.removed ++ codes " " ++ decimal told.changed ++ 10 ∷ []
    ++ counted_line (codes "held ") told.held
    ++ codes "sum " ++ signed_decimal told.sum ++ 10 ∷ []
