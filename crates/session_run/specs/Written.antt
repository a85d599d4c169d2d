-- What is written of what was told.
use Rattle.std.specs.Prelude.{◌≡◌, ℕ, List, [], ◌∷◌, ◌++◌, Bool, true, false, Option, None, Some, Result, Ok, Err, is_none, map}
use Rattle.std.specs.Io.KnownBytes.{Appends}
use Rattle.std.specs.List.{flat_map, list_any}
use mathlib.Core.List.{IsPrefix}
use Rattle.own_model.specs.declared.script.SessionCalls.{SessionCalls}
use Rattle.own_model.specs.Db.{Db}
use Rattle.history_model.specs.Fails.{TellsFailure}
use Rattle.history_model.specs.History.{History}
use Rattle.outer_world.specs.PartOfBytes.{AppendsPart}
use Rattle.transcript_model.specs.Together.{IsTogether, calls_by_session}
use Rattle.session_run.specs.declared.printing.RunFault.{RunFault}
use Rattle.session_run.specs.declared.printing.RunFault.TheVariants.{Write, Memory}
use Rattle.session_run.specs.declared.replies.SessionReplies.{SessionReplies}

-- the lines of each call of a session, where memory for them wasn't refused
abbrev pub lines_in : SessionReplies → List (Option (List ℕ))
lines_in replies = map (λ told. told.lines) replies.replies

-- the lines of each call of these sessions, session by session
abbrev pub lines_by_session : List SessionReplies → List (Option (List ℕ))
lines_by_session replies = flat_map lines_in replies

-- whether some call's lines are missing
abbrev pub is_missing_some : List (Option (List ℕ)) → Bool
is_missing_some lines = list_any is_none lines

-- the lines of the calls before the first whose lines are missing, one after another
abbrev pub text_before : List (Option (List ℕ)) → List ℕ
text_before [] = []
text_before (None ∷ lines) = []
text_before (Some text ∷ lines) = text ++ text_before lines

-- all lines are there, and known bytes grew by them
abbrev pub WritesAll : Option (List ℕ) → Option (List ℕ) → List (Option (List ℕ)) → Type 0
WritesAll old new lines = (is_missing_some lines ≡ false) × Appends old new (text_before lines)

-- After a write fault known bytes grew by a part of the lines before the first that are missing, and not by all of these. Out
-- of memory some are missing, and known bytes grew by those before.
abbrev pub WritesUpTo : RunFault → Option (List ℕ) → Option (List ℕ) → List (Option (List ℕ)) → Type 0
WritesUpTo Write old new lines = AppendsPart old new (text_before lines)
WritesUpTo Memory old new lines = (is_missing_some lines ≡ true) × Appends old new (text_before lines)

-- all lines are written, or those up to a fault
abbrev pub WritesLines : {T : Type 0} → Option (List ℕ) → Option (List ℕ) → List (Option (List ℕ)) → Result T RunFault → Type 0
WritesLines old new lines (Ok _) = WritesAll old new lines
WritesLines old new lines (Err fault) = WritesUpTo fault old new lines

-- known bytes grew by a front of a text
abbrev pub AppendsFront : Option (List ℕ) → Option (List ℕ) → List ℕ → Type 0
AppendsFront old new text = (front : List ℕ) × IsPrefix front text × Appends old new front

-- All of a text is there that is written; or known bytes grew by a part of it, and not by all of it; or by a front of it.
abbrev pub WritesText : {T : Type 0} → Option (List ℕ) → Option (List ℕ) → List ℕ → Result T RunFault → Type 0
WritesText old new text (Ok _) = Appends old new text
WritesText old new text (Err Write) = AppendsPart old new text
WritesText old new text (Err Memory) = AppendsFront old new text

-- whether a call of these sessions was answered with a fault of the disk
abbrev pub is_failed_some : List SessionReplies → Bool
is_failed_some replies = list_any (λ own. list_any (λ told. told.failed) own.replies) replies

-- What is told of sessions' calls tells what they made side by side over a database: the lines, as far as none is missing, are a
-- front of its text, and all of it where none is; and whether it has failed.
pub record TellsSessions (base : Db) (sessions : List SessionCalls) (history : History) (replies : List SessionReplies) : Type 0 where
  pub text : List ℕ
  pub together : IsTogether base (calls_by_session sessions) history text
  pub front : IsPrefix (text_before (lines_by_session replies)) text
  pub whole : is_missing_some (lines_by_session replies) ≡ false → text_before (lines_by_session replies) ≡ text
  pub failed : TellsFailure (is_failed_some replies) base history

-- Sessions made their calls side by side over a database, and of the text of all of them, session by session, something is told.
pub record MakesTogether (base : Db) (sessions : List SessionCalls) (history : History) (Told : List ℕ → Type 0) : Type 0 where
  pub text : List ℕ
  pub together : IsTogether base (calls_by_session sessions) history text
  pub told : Told text

-- memory was refused before any call was made, and nothing is written
pub record IsUncalled {T W : Type 0} (sink_old sink_new : W) (history : History) (result : Result T RunFault) : Type 0 where
  pub refused : result ≡ Err Memory
  pub unwritten : sink_new ≡ sink_old
  pub uncalled : history ≡ []
