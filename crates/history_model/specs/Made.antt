-- The history that calls make.
use Rattle.std.specs.Prelude.{ℕ, List, [], ◌∷◌, ◌++◌, Option, None, Some, fold}
use Rattle.own_model.specs.declared.history.Entry.{Entry}
use Rattle.own_model.specs.declared.history.Verdict.{Verdict}
use Rattle.own_model.specs.declared.script.ScriptCall.{ScriptCall}
use Rattle.history_model.specs.History.{History}

-- what refused memory did to a call: nothing; or it came into the history, and what it reads couldn't be shown; or it
-- wasn't made
pub data Want : Type 0 where
  Spared : Want
  Unshown : Want
  Unmade : Want

-- a call, what refused memory did to it, and what the disk said of it
pub record Called : Type 0 where
  pub call : ScriptCall
  pub want : Want
  pub verdict : Verdict

-- the entry that a call adds to a history, by what the disk said of it
abbrev pub entry_of : ScriptCall → Verdict → Entry
entry_of call verdict = record {
  session = call.session;
  call = call.call;
  request = call.request;
  verdict = verdict;
}

-- what a call adds to a history: its entry, unless memory refused it
abbrev pub added : Entry → Want → History
added entry Spared = entry ∷ []
added entry Unshown = entry ∷ []
added entry Unmade = []

-- the place of a call that is made at this place, if memory doesn't refuse it
abbrev pub place_by : Want → ℕ → Option ℕ
place_by Spared place = Some place
place_by Unshown place = Some place
place_by Unmade place = None

-- a history after one call more
abbrev pub after_call : History → Called → History
after_call history called = history ++ added (entry_of called.call called.verdict) called.want

-- The history of the calls made, in their order: each call's entry once, but for those that memory refused.
unfoldable pub made : List Called → History
made calls = fold after_call [] calls
