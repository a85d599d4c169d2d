-- What a book keeps of the calls made over an opening.
use Rattle.std.specs.Prelude.{◌≡◌, ◌≤◌, ℕ, ◌-◌, List, Bool, true, false, Some, length, slice_index_or, slice_set, if◌then◌else◌}
use Rattle.own_model.specs.declared.limit.TheConstants.{SESSIONS}
use Rattle.own_model.specs.declared.reply.Reply.{Reply}
use Rattle.own_model.specs.declared.request.Request.{Request}
use Rattle.own_model.specs.declared.request.Request.TheVariants.{Run, End}
use Rattle.own_model.specs.declared.statement.Statement.TheVariants.{Begin, Commit, Rollback}
use Rattle.history_model.specs.History.{flat, is_doomed, standing}
use Rattle.history_model.specs.World.{Block, Open}
use Rattle.reply_json.specs.declared.columns.TableNames.{TableNames}
use Rattle.shell_session.specs.Names.{table_names}
use Rattle.shell_session.specs.Opening.{HasFailed, Opening}
use Rattle.shell_session.specs.declared.book.Book.{Book}
use Rattle.shell_session.specs.declared.book.Effect.{Effect}
use Rattle.shell_session.specs.declared.book.Effect.TheVariants.{Opens, Closes, Leaves}

-- the session is kept as one that may be in a transaction
pub record IsMarked (marks : List Bool) (session : ℕ) : Type 0 where
  pub some : 1 ≤ session
  pub within : session ≤ SESSIONS
  pub marked : slice_index_or marks (session - 1) false ≡ true

-- It tells whether the disk failed; while it hasn't, each session that is in a transaction is marked; and the names that it knows are
-- those of the flat database.
pub record Keeps {D : Type 0} (book : Book) (opening : Opening D) : Type 0 where
  pub long : length book.marks ≡ 16
  pub failed : book.failed ≡ true → HasFailed opening
  pub whole : book.failed ≡ false → HasFailed opening → ⊥
  pub marks : book.failed ≡ false → (session begun : ℕ) (block : Block) → standing opening.base opening.history session ≡ Open begun block → IsMarked book.marks session
  pub names : (tables : List TableNames) → book.tables ≡ Some tables → tables ≡ table_names (flat opening.base opening.history).schema

-- what a request may do to the transaction of its session
abbrev pub effect_of : Request → Effect
effect_of (Run Begin) = Opens
effect_of (Run Commit) = Closes
effect_of (Run Rollback) = Closes
effect_of End = Closes
effect_of request = Leaves

-- and by its reply: a session that is told its doom is outside any
abbrev pub effect_by : Effect → Reply → Effect
effect_by effect reply = if is_doomed reply then Closes else effect

-- the marks after such a request of a session that was answered
abbrev pub marked : List Bool → ℕ → Effect → List Bool
marked marks session Opens = slice_set marks (session - 1) true
marked marks session Closes = slice_set marks (session - 1) false
marked marks session Leaves = marks
