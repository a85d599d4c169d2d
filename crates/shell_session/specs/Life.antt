-- The life of a shell: what happens one after another, over an opening of the store and then the next.
use Rattle.std.specs.Prelude.{◌≡◌, ◌≤◌, ◌⊎◌, ℕ, ◌+◌, List, [], ◌∷◌, ◌++◌, length, Bool, true, false, Option, Some, IsTrue}
use Rattle.own_base.specs.declared.number.Area.TheVariants.{A, B}
use Rattle.own_model.specs.declared.history.Entry.{Entry}
use Rattle.own_model.specs.declared.reply.Reply.{Reply}
use Rattle.own_model.specs.declared.reply.Reply.TheVariants.{Done}
use Rattle.own_model.specs.declared.request.Request.{Request}
use Rattle.own_model.specs.declared.request.Request.TheVariants.{Run}
use Rattle.own_model.specs.declared.script.ScriptCall.{ScriptCall}
use Rattle.own_model.specs.declared.statement.Statement.TheVariants.{Checkpoint}
use Rattle.own_model.specs.Db.{Db}
use Rattle.outer_world.specs.FaultCount.{CountRose}
use Rattle.outer_world.specs.LeavesOnly.{LeavesOnly}
use Rattle.history_model.specs.Commits.{commits}
use Rattle.history_model.specs.History.{History, flat, is_disk, reply}
use Rattle.reply_json.specs.declared.columns.TableNames.{TableNames}
use Rattle.shell_session.specs.Answered.{IsAnswered}
use Rattle.shell_session.specs.DiskView.{DiskView}
use Rattle.shell_session.specs.Names.{reply_columns, table_names}
use Rattle.shell_session.specs.Opening.{HasFailed, IsAtRest, IsLeftOver, Opening}
use Rattle.shell_session.specs.Told.{told_text}
use Rattle.shell_session.specs.declared.manner.Form.{Form}

-- A call of the input and the line on which its text begins, 0 for an End; at which place it was made, if it was, and what it was
-- answered; and the names that it is told with: those of its reply's columns, and those of the tables and views.
pub record Telling : Type 0 where
  pub call : ScriptCall
  pub line : ℕ
  pub place : Option ℕ
  pub told : Reply
  pub columns : List (List ℕ)
  pub tables : List TableNames

-- A call of the input is answered; or a call of the shell's own is, which nobody is told; or the store is opened anew.
pub data Event : Type 0 where
  Called : Telling → Event
  Laid : ScriptCall → Option ℕ → Reply → Event
  Renewed : Event

-- a request for a CHECKPOINT
abbrev pub is_checkpoint : Request → Bool
is_checkpoint (Run Checkpoint) = true
is_checkpoint request = false

-- What an event did to the disk, where a call was answered with a fault of it, or none was: its count of faults rose just then. Of
-- an honest disk, a crash now leaves what the history says; and one on the way what it said before or says now, or what one might
-- have left earlier.
pub record Moves {D : Type 0} (view : DiskView D) (before after : Opening D) (failed : Bool) : Type 0 where
  pub honesty : view.honest after.disk ≡ view.honest before.disk
  pub time : view.moment before.disk ≤ view.moment after.disk
  pub risen : view.faults before.disk ≤ view.faults after.disk
  pub rose : failed ≡ true → CountRose (view.faults before.disk) (view.faults after.disk)
  pub steady : failed ≡ false → view.faults after.disk ≡ view.faults before.disk
  pub now : IsTrue (view.honest before.disk) → (a b : List ℕ) → view.leaves after.disk A a → view.leaves after.disk B b → IsLeftOver after a b
  pub moments : IsTrue (view.honest before.disk)
      → LeavesOnly view.moment view.might_have_left (λ a b. IsLeftOver before a b ⊎ IsLeftOver after a b) before.disk after.disk

-- a call over an opening: what was opened stays, and the history is that which the answer tells of
pub record IsCalled {D : Type 0} (view : DiskView D) (before after : Opening D) (call : ScriptCall) (place : Option ℕ) (told : Reply) : Type 0 where
  pub base : after.base ≡ before.base
  pub start : after.start ≡ before.start
  pub answered : IsAnswered before.base before.history after.history call place told
  pub moves : Moves view before after (is_disk told)

-- the last call was a CHECKPOINT, and is done
pub record EndsLaid (base : Db) (history : History) : Type 0 where
  pub front : History
  pub last : Entry
  pub history_is : history ≡ front ++ last ∷ []
  pub asked : is_checkpoint last.request ≡ true
  pub done : reply base history (length front) ≡ Some Done

-- The store is opened anew, and no call is made yet. No session was in a transaction, the disk had failed no call, and the last one was
-- a CHECKPOINT. Of an honest disk the database is the flat one of the history before it, with all of its commits.
pub record IsRenewed {D : Type 0} (view : DiskView D) (before after : Opening D) : Type 0 where
  pub fresh : after.history ≡ []
  pub laid : EndsLaid before.base before.history
  pub at_rest : IsAtRest before
  pub whole : HasFailed before → ⊥
  pub base : IsTrue (view.honest before.disk) → after.base ≡ flat before.base before.history
  pub start : IsTrue (view.honest before.disk) → after.start ≡ before.start + length (commits before.base before.history)
  pub moves : Moves view before after false

-- The names that a call is told with are those of the flat database behind it: of its tables and views, and of the columns of the
-- reply where that shows the rows of a SELECT.
pub record AreNames {D : Type 0} (after : Opening D) (telling : Telling) : Type 0 where
  pub tables : telling.tables ≡ table_names (flat after.base after.history).schema
  pub columns : telling.columns ≡ reply_columns telling.tables telling.call.request telling.told

-- an event leads from one state of a life to the next
abbrev pub Happens : {D : Type 0} → DiskView D → Opening D → Event → Opening D → Type 0
Happens view before (Called telling) after = IsCalled view before after telling.call telling.place telling.told × AreNames after telling
Happens view before (Laid call place told) after = IsCalled view before after call place told × (is_checkpoint call.request ≡ true)
Happens view before Renewed after = IsRenewed view before after

-- events lead from one to another, one after the other
abbrev pub Happen : {D : Type 0} → DiskView D → Opening D → List Event → Opening D → Type 0
Happen view before [] after = after ≡ before
Happen {D} view before (event ∷ events) after = (next : Opening D) × Happens view before event next × Happen view next events after

-- the calls of the input among events
abbrev pub calls_of : List Event → List ScriptCall
calls_of [] = []
calls_of (Called telling ∷ events) = telling.call ∷ calls_of events
calls_of (Laid call place told ∷ events) = calls_of events
calls_of (Renewed ∷ events) = calls_of events

-- the text that one is told by
abbrev pub text_of : Form → Telling → List ℕ
text_of form telling = told_text form telling.place telling.call.session.0 telling.call.call telling.line telling.columns telling.tables telling.told

-- the text of all of them
abbrev pub texts_of : Form → List Event → List ℕ
texts_of form [] = []
texts_of form (Called telling ∷ events) = text_of form telling ++ texts_of form events
texts_of form (Laid call place told ∷ events) = texts_of form events
texts_of form (Renewed ∷ events) = texts_of form events

-- two areas hold what the history says at one of the openings to which the first of these events lead, from this one on
pub record IsLeftOnTheWay {D : Type 0} (view : DiskView D) (here : Opening D) (events : List Event) (last : Opening D) (a b : List ℕ) : Type 0 where
  pub done : List Event
  pub rest : List Event
  pub events_are : events ≡ done ++ rest
  pub mid : Opening D
  pub came : Happen view here done mid
  pub goes : Happen view mid rest last
  pub is : IsLeftOver mid a b
