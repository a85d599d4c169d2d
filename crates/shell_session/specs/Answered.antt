-- What a call was answered.
use Rattle.std.specs.Prelude.{◌≡◌, ℕ, [], ◌∷◌, ◌++◌, length, Option, None, Some}
use Rattle.own_model.specs.declared.history.Verdict.{Verdict}
use Rattle.own_model.specs.declared.refusal.Refusal.TheVariants.{Memory}
use Rattle.own_model.specs.declared.reply.Reply.{Reply}
use Rattle.own_model.specs.declared.reply.Reply.TheVariants.{Refused}
use Rattle.own_model.specs.declared.script.ScriptCall.{ScriptCall}
use Rattle.own_model.specs.Db.{Db}
use Rattle.history_model.specs.History.{History, reply}
use Rattle.history_model.specs.Made.{entry_of}

-- A call was made: its entry is the last of the history, with what the disk said of it, and it was answered just as the history
-- replies to it at its place.
pub record IsMadeAt (base : Db) (before after : History) (call : ScriptCall) (place : ℕ) (told : Reply) : Type 0 where
  pub verdict : Verdict
  pub history_is : after ≡ before ++ entry_of call verdict ∷ []
  pub place_is : place ≡ length before
  pub reply_is : reply base after place ≡ Some told

-- Memory kept a call from being made, and that is what it was answered.
pub record IsLeftUnmade (before after : History) (told : Reply) : Type 0 where
  pub history_is : after ≡ before
  pub told_is : told ≡ Refused Memory

-- a call has a place where it was made, and nowhere else
abbrev pub IsAnswered : Db → History → History → ScriptCall → Option ℕ → Reply → Type 0
IsAnswered base before after call (Some place) told = IsMadeAt base before after call place told
IsAnswered base before after call None told = IsLeftUnmade before after told
