-- The lines of a summary, written one behind the other.
use Rattle.std.proofs.Common.{◌≡◌, ℕ, ◌+◌, ◌-◌, List, [], ◌∷◌, ◌++◌, ap, ◌∙◌, append_assoc}
use Rattle.std.specs.Prelude.{codes}
use Rattle.std.specs.Fmt.{decimal, signed_decimal}
use Rattle.made_model.specs.Summary.{Summary}
use Rattle.made_model.specs.SummaryText.{counted_line, summary_text}

-- eight pieces, each written behind what was there
eight-pieces : (a b c d e f g h start : List ℕ) → start ++ a ++ b ++ c ++ d ++ e ++ f ++ g ++ h ≡ start ++ (a ++ b ++ c ++ d ++ e ++ f ++ g ++ h)
eight-pieces a b c d e f g h start = simp append_assoc

-- three and two lines of several words, in one list
regrouped : (a b c d e f1 f2 f3 f4 f5 g h1 h2 h3 : List ℕ)
    → a ++ b ++ c ++ d ++ e ++ (f1 ++ f2 ++ f3 ++ f4 ++ f5) ++ g ++ (h1 ++ h2 ++ h3) ≡ a ++ b ++ c ++ d ++ e ++ f1 ++ f2 ++ f3 ++ f4 ++ f5 ++ g ++ h1 ++ h2 ++ h3
regrouped a b c d e f1 f2 f3 f4 f5 g h1 h2 h3 = simp append_assoc

-- the lines of a summary
lines-of : (told : Summary) → counted_line (codes "calls ") told.calls
    ++ counted_line (codes "done ") (told.calls - (told.refused + told.memory))
    ++ counted_line (codes "refused ") told.refused
    ++ counted_line (codes "memory ") told.memory
    ++ counted_line (codes "got ") told.got
    ++ (codes "forgot " ++ decimal told.removed ++ codes " " ++ decimal told.changed ++ 10 ∷ [])
    ++ counted_line (codes "held ") told.held
    ++ (codes "sum " ++ signed_decimal told.sum ++ 10 ∷ []) ≡ summary_text told
unfolding summary_text
lines-of told = regrouped (counted_line (codes "calls ") told.calls) (counted_line (codes "done ") (told.calls - (told.refused + told.memory)))
    (counted_line (codes "refused ") told.refused) (counted_line (codes "memory ") told.memory) (counted_line (codes "got ") told.got)
    (codes "forgot ") (decimal told.removed) (codes " ") (decimal told.changed) (10 ∷ []) (counted_line (codes "held ") told.held)
    (codes "sum ") (signed_decimal told.sum) (10 ∷ [])

-- the text behind which the lines are written one after another
pub told-text : (told : Summary) (start : List ℕ) → start
    ++ counted_line (codes "calls ") told.calls
    ++ counted_line (codes "done ") (told.calls - (told.refused + told.memory))
    ++ counted_line (codes "refused ") told.refused
    ++ counted_line (codes "memory ") told.memory
    ++ counted_line (codes "got ") told.got
    ++ (codes "forgot " ++ decimal told.removed ++ codes " " ++ decimal told.changed ++ 10 ∷ [])
    ++ counted_line (codes "held ") told.held
    ++ (codes "sum " ++ signed_decimal told.sum ++ 10 ∷ []) ≡ start ++ summary_text told
told-text told start =
    eight-pieces (counted_line (codes "calls ") told.calls) (counted_line (codes "done ") (told.calls - (told.refused + told.memory)))
    (counted_line (codes "refused ") told.refused) (counted_line (codes "memory ") told.memory) (counted_line (codes "got ") told.got)
    (codes "forgot " ++ decimal told.removed ++ codes " " ++ decimal told.changed ++ 10 ∷ []) (counted_line (codes "held ") told.held)
    (codes "sum " ++ signed_decimal told.sum ++ 10 ∷ []) start
    ∙ ap (λ (text : List ℕ). start ++ text) (lines-of told)

-- each line is written behind the one before
pub told-all : (told : Summary) (start t1 t2 t3 t4 t5 t6 t7 t8 : List ℕ)
    → t1 ≡ start ++ counted_line (codes "calls ") told.calls
    → t2 ≡ t1 ++ counted_line (codes "done ") (told.calls - (told.refused + told.memory))
    → t3 ≡ t2 ++ counted_line (codes "refused ") told.refused
    → t4 ≡ t3 ++ counted_line (codes "memory ") told.memory
    → t5 ≡ t4 ++ counted_line (codes "got ") told.got
    → t6 ≡ t5 ++ (codes "forgot " ++ decimal told.removed ++ codes " " ++ decimal told.changed ++ 10 ∷ [])
    → t7 ≡ t6 ++ counted_line (codes "held ") told.held
    → t8 ≡ t7 ++ (codes "sum " ++ signed_decimal told.sum ++ 10 ∷ [])
    → t8 ≡ start ++ summary_text told
told-all told start t1 t2 t3 t4 t5 t6 t7 t8 e1 e2 e3 e4 e5 e6 e7 e8 =
    rw (e8, e7, e6, e5, e4, e3, e2, e1) (told-text told start)
