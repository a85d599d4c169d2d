-- Lines that are gathered call by call, and then written.
use Rattle.std.proofs.Common.{◌≡◌, ℕ, ◌+◌, ◌<◌, List, [], ◌∷◌, ◌++◌, length, take, drop, get_or, refl, ap, sym, subst, ◌∙◌, append_assoc, append-nil}
use Rattle.std.specs.Prelude.{◌≢◌, true, false, Option, Result, Ok, Err, OnOk, OnErr}
use Rattle.std.specs.Io.KnownBytes.{Appends}
use Rattle.std.proofs.KnownBytes.{Appends-nil, Appends-trans}
use Rattle.std.proofs.lemmas.List.{take-append-drop, take_more}
use Rattle.outer_world.specs.PartOfBytes.{AppendsPart}
use Rattle.session_run.specs.declared.printing.RunFault.{RunFault}
use Rattle.session_run.specs.declared.printing.RunFault.TheVariants.{Write, Memory}
use Rattle.session_run.specs.Gathered.{Gathers, GathersAll, GathersLines, GathersUpTo}
use Rattle.session_run.specs.Written.{WritesUpTo, text_before}
use Rattle.session_run.proofs.WrittenLemmas.{missing-joined, missing-kept, part-kept, part-later, text-front, text-joined, text-missing}

-- what was pending is written, and then bytes, where that comes to this
pub gathers-written : {T E : Type 0} (old mid new : Option (List ℕ)) (before after bytes : List ℕ) (result : Result T E) → Appends old mid before → after ≡ []
    → OnOk result (Appends mid new bytes) → OnOk result (Gathers old new before after bytes)
gathers-written old mid new before after bytes (Ok done) first none then =
    record { text = before ++ bytes; written = Appends-trans old mid new before bytes first then; joined = rw none (append-nil (before ++ bytes)) }
gathers-written old mid new before after bytes (Err fault) first none then = tt

-- what was pending is written, and then a part of bytes, where that comes to this
pub gathers-written_part : {T E : Type 0} (old mid new : Option (List ℕ)) (before bytes : List ℕ) (result : Result T E) → Appends old mid before
    → OnErr result (AppendsPart mid new bytes) → OnErr result (AppendsPart old new (before ++ bytes))
gathers-written_part old mid new before bytes (Ok done) first part = tt
gathers-written_part old mid new before bytes (Err fault) first part = part-later old mid new before bytes first part

-- what is written, and then what is pending with bytes after it, is what was pending with both
gathers_joined : (old new : Option (List ℕ)) (before after bytes more : List ℕ) (gathered : Gathers old new before after bytes)
    → gathered.text ++ (after ++ more) ≡ before ++ (bytes ++ more)
gathers_joined old new before after bytes more gathered =
    sym (append_assoc gathered.text after more) ∙ ap (λ l. l ++ more) gathered.joined ∙ append_assoc before bytes more

-- bytes are gathered, and then more of them
gathers_more : (old mid new : Option (List ℕ)) (before between after bytes more : List ℕ) → Gathers old mid before between bytes → Gathers mid new between after more
    → Gathers old new before after (bytes ++ more)
gathers_more old mid new before between after bytes more first then = record {
  text = first.text ++ then.text;
  written = Appends-trans old mid new first.text then.text first.written then.written;
  joined = append_assoc first.text then.text after ∙ ap (λ l. first.text ++ l) then.joined ∙ gathers_joined old mid before between bytes more first;
}

-- bytes are gathered, and then a part is written of what is pending and of more of them
gathers_part : (old mid new : Option (List ℕ)) (before between bytes more : List ℕ) → Gathers old mid before between bytes → AppendsPart mid new (between ++ more)
    → AppendsPart old new (before ++ (bytes ++ more))
gathers_part old mid new before between bytes more first part =
    subst (AppendsPart old new) (gathers_joined old mid before between bytes more first) (part-later old mid new first.text (between ++ more) first.written part)

-- no line is gathered yet
pub gathers-none : (old : Option (List ℕ)) (before : List ℕ) → GathersAll old old before before []
gathers-none old before = (refl, record { text = []; written = Appends-nil old; joined = sym (append-nil before) })

-- lines, and then more of them
gathers_lines : {T : Type 0} (old mid new : Option (List ℕ)) (before between after : List ℕ) (lines more : List (Option (List ℕ))) (result : Result T RunFault)
    → GathersAll old mid before between lines → GathersLines mid new between after more result → GathersLines old new before after (lines ++ more) result
gathers_lines old mid new before between after lines more (Ok last) first then =
    (missing-joined lines more false first.0 then.0, rw (text-joined lines more first.0) (gathers_more old mid new before between after (text_before lines) (text_before more) first.1 then.1))
gathers_lines old mid new before between after lines more (Err Write) first then =
    rw (text-joined lines more first.0) (gathers_part old mid new before between (text_before lines) (text_before more) first.1 then)
gathers_lines old mid new before between after lines more (Err Memory) first then =
    (missing-joined lines more true first.0 then.0, rw (text-joined lines more first.0) (gathers_more old mid new before between after (text_before lines) (text_before more) first.1 then.1))

-- after a fault no more of them
gathers_ends : (fault : RunFault) (old new : Option (List ℕ)) (before after : List ℕ) (lines more : List (Option (List ℕ))) → GathersUpTo fault old new before after lines
    → GathersUpTo fault old new before after (lines ++ more)
gathers_ends Write old new before after lines more gathered =
    let front = text-front lines more in
    rw (← front.1, ← append_assoc before (text_before lines) front.0) (part-kept old new (before ++ text_before lines) front.0 gathered)
gathers_ends Memory old new before after lines more gathered = (missing-kept lines more gathered.0, rw (text-missing lines more gathered.0) gathered.1)

-- Lines of items, one item after another.
module _ {X : Type 0} (lines_of : List X → List (Option (List ℕ))) (joined : (xs ys : List X) → lines_of (xs ++ ys) ≡ lines_of xs ++ lines_of ys) where
  -- the lines of one item more
  pub item-more : {T : Type 0} (old mid new : Option (List ℕ)) (before between after : List ℕ) (items : List X) (i : ℕ) (item : X) (result : Result T RunFault) → i < length items
      → item ≡ get_or items i item → GathersAll old mid before between (lines_of (take i items)) → GathersLines mid new between after (lines_of (item ∷ [])) result
      → GathersLines old new before after (lines_of (take (i + 1) items)) result
  item-more old mid new before between after items i item result less is first then =
      let next : take (i + 1) items ≡ take i items ++ item ∷ [] = take_more items i item less ∙ ap (λ x. take i items ++ x ∷ []) (sym is) in
      rw (next, joined (take i items) (item ∷ [])) (gathers_lines old mid new before between after (lines_of (take i items)) (lines_of (item ∷ [])) result first then)

  -- after a fault no item more
  item_ends : (fault : RunFault) (old new : Option (List ℕ)) (before after : List ℕ) (items : List X) (i : ℕ) → GathersUpTo fault old new before after (lines_of (take i items))
      → GathersUpTo fault old new before after (lines_of items)
  item_ends fault old new before after items i gathered =
      subst (GathersUpTo fault old new before after) (sym (joined (take i items) (drop i items)) ∙ ap lines_of (take-append-drop i items))
      (gathers_ends fault old new before after (lines_of (take i items)) (lines_of (drop i items)) gathered)

  -- a fault at an item more
  pub item-stops : (fault : RunFault) (old mid new : Option (List ℕ)) (before between after : List ℕ) (items : List X) (i : ℕ) (item : X) → i < length items → item ≡ get_or items i item
      → GathersAll old mid before between (lines_of (take i items)) → GathersUpTo fault mid new between after (lines_of (item ∷ [])) → GathersUpTo fault old new before after (lines_of items)
  item-stops fault old mid new before between after items i item less is first then =
      item_ends fault old new before after items (i + 1) (item-more {T = Unit {0}} old mid new before between after items i item (Err fault) less is first then)

-- lines are gathered, and then a part is written of what is pending
pub gathers-ends_part : {T : Type 0} (old mid new : Option (List ℕ)) (after : List ℕ) (lines : List (Option (List ℕ))) (result : Result T RunFault) → result ≢ Err Write
    → GathersLines old mid [] after lines result → AppendsPart mid new after → WritesUpTo Write old new lines
gathers-ends_part old mid new after lines (Ok done) other gathered part =
    subst (AppendsPart old new) gathered.1.joined (part-later old mid new gathered.1.text after gathered.1.written part)
gathers-ends_part old mid new after lines (Err Write) other gathered part = absurd (other refl)
gathers-ends_part old mid new after lines (Err Memory) other gathered part =
    subst (AppendsPart old new) gathered.1.joined (part-later old mid new gathered.1.text after gathered.1.written part)
