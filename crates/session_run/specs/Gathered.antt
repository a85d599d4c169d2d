-- What is gathered of lines before it is written.
use Rattle.std.specs.Prelude.{◌≡◌, ℕ, List, ◌++◌, true, false, Option, Result, Ok, Err}
use Rattle.std.specs.Io.KnownBytes.{Appends}
use Rattle.outer_world.specs.PartOfBytes.{AppendsPart}
use Rattle.session_run.specs.declared.printing.RunFault.{RunFault}
use Rattle.session_run.specs.declared.printing.RunFault.TheVariants.{Write, Memory}
use Rattle.session_run.specs.Written.{is_missing_some, text_before}

-- Bytes are gathered: known bytes grew by a text, and that with what is pending after it is what was pending before, and then
-- these bytes.
pub record Gathers (old new : Option (List ℕ)) (before after bytes : List ℕ) : Type 0 where
  pub text : List ℕ
  pub written : Appends old new text
  pub joined : text ++ after ≡ before ++ bytes

-- all lines are there, and they are gathered
abbrev pub GathersAll : Option (List ℕ) → Option (List ℕ) → List ℕ → List ℕ → List (Option (List ℕ)) → Type 0
GathersAll old new before after lines = (is_missing_some lines ≡ false) × Gathers old new before after (text_before lines)

-- After a write fault known bytes grew by a part of what was pending and of the lines before the first that are missing, and not
-- by all of these. Out of memory some lines are missing, and those before are gathered.
abbrev pub GathersUpTo : RunFault → Option (List ℕ) → Option (List ℕ) → List ℕ → List ℕ → List (Option (List ℕ)) → Type 0
GathersUpTo Write old new before after lines = AppendsPart old new (before ++ text_before lines)
GathersUpTo Memory old new before after lines = (is_missing_some lines ≡ true) × Gathers old new before after (text_before lines)

-- all lines are gathered, or those up to a fault
abbrev pub GathersLines : {T : Type 0} → Option (List ℕ) → Option (List ℕ) → List ℕ → List ℕ → List (Option (List ℕ)) → Result T RunFault → Type 0
GathersLines old new before after lines (Ok _) = GathersAll old new before after lines
GathersLines old new before after lines (Err fault) = GathersUpTo fault old new before after lines
