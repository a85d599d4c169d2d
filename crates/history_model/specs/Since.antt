-- The statements of a session's transaction, read off the history.
use Rattle.std.specs.Prelude.{◌≡◌, ℕ, Bool, true, not, ◌&&◌, ◌||◌, ◌==◌, Option, None, Some, filter_map, nat_lt, option_map, slice_get, if◌then◌else◌}
use Rattle.std.specs.List.{enumerate_from}
use Rattle.std.specs.Option.{option_map_or}
use Rattle.own_model.specs.declared.history.Entry.{Entry}
use Rattle.own_model.specs.declared.reply.Reply.{Reply}
use Rattle.own_model.specs.declared.reply.Reply.TheVariants.{Done}
use Rattle.own_model.specs.declared.request.Request.{Request}
use Rattle.own_model.specs.declared.request.Request.TheVariants.{Run}
use Rattle.own_model.specs.declared.statement.Statement.{Statement}
use Rattle.own_model.specs.declared.statement.Statement.TheVariants as statement
use Rattle.own_model.specs.Db.{Db}
use Rattle.history_model.specs.History.{History, is_conflict, is_failure, reply}
use Rattle.history_model.specs.World.{Block, Stated}

-- the statement of a request, where it takes rows: a SELECT, an INSERT, an UPDATE or a DELETE
abbrev pub row_statement : Request → Option Statement
row_statement (Run (statement.Select select)) = Some (statement.Select select)
row_statement (Run (statement.Insert table columns rows)) = Some (statement.Insert table columns rows)
row_statement (Run (statement.Update table sets cond)) = Some (statement.Update table sets cond)
row_statement (Run (statement.Delete table cond)) = Some (statement.Delete table cond)
row_statement _ = None

-- an answer to a statement that isn't one of its transaction's: a conflict, or one for want of the disk
abbrev pub is_left_out : Reply → Bool
is_left_out answered = is_conflict answered || is_failure answered

-- an entry of a session after the place at which its transaction began, unless its answer leaves it out
abbrev pub is_of_block : ℕ → ℕ → ℕ → Entry → Option Reply → Bool
is_of_block session begun place entry answered =
    (entry.session.0 == session && nat_lt begun place) && not (option_map_or is_left_out answered true)

abbrev pub stated_at : ℕ → ℕ → ℕ → Entry → Option Reply → Option Stated
stated_at session begun place entry answered = if is_of_block session begun place entry answered
    then option_map (λ asked. record { place = place; statement = asked }) (row_statement entry.request) else None

-- The statements of a session since a place: its entries that take rows and were answered neither with a conflict nor for
-- want of the disk, in their order.
unfoldable pub stated_since : Db → History → ℕ → ℕ → Block
stated_since base history session begun =
    filter_map (λ numbered. stated_at session begun numbered.0 numbered.1 (reply base history numbered.0)) (enumerate_from 0 history)

-- a session's BEGIN at a place
pub record IsBegun (base : Db) (history : History) (session begun : ℕ) : Type 0 where
  pub entry : Entry
  pub at : slice_get history begun ≡ Some entry
  pub own : entry.session.0 ≡ session
  pub request : entry.request ≡ Run statement.Begin
  pub done : reply base history begun ≡ Some Done
