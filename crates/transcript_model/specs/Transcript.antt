-- What calls leave that are made one after another: a history and a text.
use Rattle.std.specs.Prelude.{◌≡◌, ◌≢◌, ℕ, List, ◌++◌, length, map}
use Rattle.std.specs.List.{AllByRecursion}
use Rattle.own_model.specs.declared.history.Verdict.{Verdict}
use Rattle.own_model.specs.declared.history.Verdict.TheVariants.{Took}
use Rattle.own_model.specs.declared.script.ScriptCall.{ScriptCall}
use Rattle.own_model.specs.Db.{Db}
use Rattle.history_model.specs.History.{History}
use Rattle.history_model.specs.Made.{Called, Want, Spared, Unshown, added, entry_of, made, place_by}
use Rattle.history_model.specs.MayBeUnmade.{AreUnmadeByMemory}
use Rattle.transcript_model.specs.Printed.{lines_at, printed}

-- the text of one call more
abbrev pub text_of_call : Db → History → ScriptCall → Want → Verdict → List ℕ
text_of_call base history call want verdict =
    lines_at base (history ++ added (entry_of call verdict) want) (record { call = call; want = want; verdict = verdict }) (place_by want (length history))

-- The calls were made over a database, in their order and each once, but for those that memory kept from being made; they
-- made the history, and the text is theirs.
pub record IsTranscript (base : Db) (calls : List ScriptCall) (history : History) (text : List ℕ) : Type 0 where
  -- what refused memory did to each call, and what the disk said of it
  pub called : List Called
  pub calls_are : map (λ called. called.call) called ≡ calls
  pub unmade : AreUnmadeByMemory called
  -- nothing that was made is told as `memory`
  pub shown : AllByRecursion (λ called. called.want ≢ Unshown) called
  pub history_is : history ≡ made called
  pub text_is : text ≡ printed base history called

-- each of these calls, where memory refuses none and the disk takes what each writes
abbrev pub spared : List ScriptCall → List Called
spared calls = map (λ call. record { call = call; want = Spared; verdict = Took }) calls

-- memory refused nothing to these calls, and the disk took what they wrote
abbrev pub IsSpared : List Called → Type 0
IsSpared called = AllByRecursion (λ called. (called.want ≡ Spared) × (called.verdict ≡ Took)) called
