-- Lines that are written, and their text.
use Rattle.std.proofs.Common.{◌≡◌, ℕ, ◌+◌, ◌<◌, List, [], ◌∷◌, ◌++◌, length, length-append, take, refl, ap, sym, subst, ◌∙◌, arith, append_assoc}
use mathlib.Core.List.{IsPrefix}
use Rattle.std.specs.Prelude.{Bool, true, false, Option, None, Some, Result, Ok, Err, is_none}
use Rattle.std.specs.Io.KnownBytes.{Appends}
use Rattle.std.proofs.Math.Seq.{take-append-add}
use Rattle.std.proofs.KnownBytes.{Appends-trans}
use Rattle.std.proofs.lemmas.List.{take-append-le}
use Rattle.std.proofs.lemmas.List.Folds.{list_any-append}
use Rattle.outer_world.specs.PartOfBytes.{AppendsPart}
use Rattle.session_run.specs.declared.printing.RunFault.{RunFault}
use Rattle.session_run.specs.declared.printing.RunFault.TheVariants.{Write, Memory}
use Rattle.session_run.specs.Written.{WritesLines, WritesText, is_missing_some, text_before}

-- lines that are there stand before those after them
pub text-joined : (lines more : List (Option (List ℕ))) → is_missing_some lines ≡ false → text_before (lines ++ more) ≡ text_before lines ++ text_before more
text-joined [] more there = refl
text-joined (None ∷ lines) more there = let never : ⊥ = cc in absurd never
text-joined (Some text ∷ lines) more there = ap (λ l. text ++ l) (text-joined lines more there) ∙ sym (append_assoc text (text_before lines) (text_before more))

-- what comes after the first that are missing isn't told
pub text-missing : (lines more : List (Option (List ℕ))) → is_missing_some lines ≡ true → text_before (lines ++ more) ≡ text_before lines
text-missing [] more missing = let never : ⊥ = cc in absurd never
text-missing (None ∷ lines) more missing = refl
text-missing (Some text ∷ lines) more missing = ap (λ l. text ++ l) (text-missing lines more missing)

-- lines before others are a front of their text
pub text-front : (lines more : List (Option (List ℕ))) → (rest : List ℕ) × (text_before lines ++ rest ≡ text_before (lines ++ more))
text-front [] more = (text_before more, refl)
text-front (None ∷ lines) more = ([], refl)
text-front (Some text ∷ lines) more = let later = text-front lines more in (later.0, append_assoc text (text_before lines) later.0 ∙ ap (λ l. text ++ l) later.1)

-- some are missing of these lines and more, where none are missing of these, just where some are missing of those
pub missing-joined : (lines more : List (Option (List ℕ))) (b : Bool) → is_missing_some lines ≡ false → is_missing_some more ≡ b → is_missing_some (lines ++ more) ≡ b
missing-joined lines more b there is = list_any-append is_none lines more ∙ rw there is

-- lines that are missing are so of more lines
pub missing-kept : (lines more : List (Option (List ℕ))) → is_missing_some lines ≡ true → is_missing_some (lines ++ more) ≡ true
missing-kept lines more missing = list_any-append is_none lines more ∙ rw missing refl

-- a part of a text is one of a longer text
pub part-kept : (old new : Option (List ℕ)) (text rest : List ℕ) → AppendsPart old new text → AppendsPart old new (text ++ rest)
part-kept old new text rest part =
    let less : part.0 < length text = part.1 in
    (part.0, omega (arith, length-append text rest), rw (take-append-le part.0 text rest (omega arith)) part.2)

-- a text, and then a part of another, is a part of both
pub part-later : (old mid new : Option (List ℕ)) (text more : List ℕ) → Appends old mid text → AppendsPart mid new more → AppendsPart old new (text ++ more)
part-later old mid new text more first part = (
  length text + part.0,
  omega (arith, length-append text more, part.1),
  rw (take-append-add text more part.0) (Appends-trans old mid new text (take part.0 more) first part.2),
)

-- Where the lines are a front of a text, and all of it where none is missing, what is written of them is written of the text.
pub tells-text : {T : Type 0} (old new : Option (List ℕ)) (lines : List (Option (List ℕ))) (text : List ℕ) (result : Result T RunFault) → IsPrefix (text_before lines) text
    → (is_missing_some lines ≡ false → text_before lines ≡ text) → WritesLines old new lines result → WritesText old new text result
tells-text old new lines text (Ok done) front whole written = subst (Appends old new) (whole written.0) written.1
tells-text old new lines text (Err Write) front whole written = rw (sym front.1) (part-kept old new (text_before lines) front.0 written)
tells-text old new lines text (Err Memory) front whole written = (text_before lines, front, written.1)
