-- What calls were answered that were made one after another over a database. An End isn't counted.
use Rattle.std.specs.Prelude.{◌≡◌, List, [], ◌∷◌, ◌++◌, length, map}
use Rattle.std.specs.List.{AllByRecursion}
use Rattle.std.specs.Option.{option_to_list}
use Rattle.own_model.specs.declared.history.Entry.{Entry}
use Rattle.own_model.specs.declared.refusal.Refusal.TheVariants.{Memory}
use Rattle.own_model.specs.declared.reply.Reply.{Reply}
use Rattle.own_model.specs.declared.reply.Reply.TheVariants.{Refused}
use Rattle.own_model.specs.declared.request.Request.{Request}
use Rattle.own_model.specs.declared.request.Request.TheVariants.{End}
use Rattle.own_model.specs.declared.script.ScriptCall.{ScriptCall}
use Rattle.own_model.specs.Db.{Db}
use Rattle.history_model.specs.History.{History, reply}
use Rattle.history_model.specs.Made.{Called, Want, Spared, Unmade, Unshown, after_call, entry_of, made}
use Rattle.history_model.specs.MayBeUnmade.{AreUnmadeByMemory}

-- what an entry is answered behind a history: the reply at its place; and `memory`, where memory kept it from being made
abbrev pub answered_as : Db → History → Entry → Want → List Reply
answered_as base history entry Spared = option_to_list (reply base (history ++ entry ∷ []) (length history))
answered_as base history entry Unshown = option_to_list (reply base (history ++ entry ∷ []) (length history))
answered_as base history entry Unmade = Refused Memory ∷ []

abbrev pub counted : Request → List Reply → List Reply
counted End told = []
counted request told = told

-- what a call is answered behind a history
abbrev pub answer_behind : Db → History → Called → List Reply
answer_behind base history called = counted called.call.request (answered_as base history (entry_of called.call called.verdict) called.want)

-- and what calls are, one after another
unfoldable pub answers_behind : Db → History → List Called → List Reply
answers_behind base history [] = []
answers_behind base history (called ∷ calls) = answer_behind base history called ++ answers_behind base (after_call history called) calls

-- The calls were made over a database, in their order and each once, but for those that memory kept from being made; they
-- made the history, and these are their replies.
pub record AreAnswered (base : Db) (calls : List ScriptCall) (history : History) (replies : List Reply) : Type 0 where
  -- what refused memory did to each call, and what the disk said of it
  pub called : List Called
  pub calls_are : map (λ called. called.call) called ≡ calls
  pub unmade : AreUnmadeByMemory called
  -- nothing that was made is answered `memory`
  pub shown : AllByRecursion (λ called. called.want ≡ Unshown → ⊥) called
  pub history_is : history ≡ made called
  pub replies_are : replies ≡ answers_behind base [] called
