-- The commits of a history, and the databases that they leave.
use Rattle.std.specs.Prelude.{ℕ, zero, suc, ◌+◌, List, [], ◌∷◌, ◌++◌, Bool, true, false, not, ◌&&◌, ◌||◌, Option, None, Some, slice_get, take, if◌then◌else◌}
use Rattle.own_model.specs.declared.history.Entry.{Entry}
use Rattle.own_model.specs.declared.reply.Reply.{Reply}
use Rattle.own_model.specs.declared.request.Request.{Request}
use Rattle.own_model.specs.declared.request.Request.TheVariants.{Run}
use Rattle.own_model.specs.declared.statement.Statement.TheVariants as statement
use Rattle.own_model.specs.Db.{Db}
use Rattle.history_model.specs.History.{History, flat, flat_after, happens}
use Rattle.history_model.specs.Reply.{answer, changes, is_refusal}
use Rattle.history_model.specs.World.{World, start}

abbrev pub is_create : Request → Bool
is_create (Run (statement.CreateTable table)) = true
is_create (Run (statement.CreateView view)) = true
is_create _ = false

-- an accepted entry that changes a row, or creates
abbrev pub is_commit : World → Entry → Reply → Bool
is_commit world entry reply = not (is_refusal reply) && (is_create entry.request || changes world.flat (flat_after world entry reply))

abbrev pub commits_from : World → History → List ℕ
commits_from world [] = []
commits_from world (entry ∷ history) =
    (if is_commit world entry (answer world entry) then world.place ∷ [] else []) ++ commits_from (happens world entry) history

-- the places of the commits, in their order
unfoldable pub commits : Db → History → List ℕ
commits base history = commits_from (start base) history

abbrev pub after_commit : Db → History → Option ℕ → Db
after_commit base history None = base
after_commit base history (Some place) = flat base (take (place + 1) history)

-- the database after the first commits, so many of them
unfoldable pub after : Db → History → ℕ → Db
after base history zero = base
after base history (suc before) = after_commit base history (slice_get (commits base history) before)
