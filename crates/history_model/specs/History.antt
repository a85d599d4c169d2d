-- What a history means: the world that it leaves, and the reply at each of its places.
use Rattle.std.specs.Prelude.{ℕ, ◌+◌, List, [], ◌∷◌, ◌++◌, Bool, true, false, not, ◌&&◌, ◌||◌, ◌==◌, Option, None, Some, fold, take, slice_get, if◌then◌else◌}
use Rattle.std.specs.List.{list_any}
use Rattle.std.specs.Option.{option_map, option_map_or}
use Rattle.own_base.specs.declared.row_name.RowName.{RowName}
use Rattle.own_model.specs.declared.footprint.FootItem.{FootItem}
use Rattle.own_model.specs.declared.history.Entry.{Entry}
use Rattle.own_model.specs.declared.refusal.Refusal.TheVariants as refusal
use Rattle.own_model.specs.declared.reply.Reply.{Reply}
use Rattle.own_model.specs.declared.reply.Reply.TheVariants.{Refused}
use Rattle.own_model.specs.declared.request.Request.{Request}
use Rattle.own_model.specs.declared.request.Request.TheVariants.{Run, End}
use Rattle.own_model.specs.declared.schema.Schema.{Schema}
use Rattle.own_model.specs.declared.statement.Statement.{Statement}
use Rattle.own_model.specs.declared.statement.Statement.TheVariants as statement
use Rattle.own_model.specs.Db.{Db}
use Rattle.query_model.specs.SelectMeaning.{table_number}
use Rattle.subject_model.specs.Forget.{changed, removed}
use Rattle.run_model.specs.Agree.{lies_on}
use Rattle.run_model.specs.Run.{run}
use Rattle.history_model.specs.Held.{held}
use Rattle.history_model.specs.Reply.{answer, is_refusal}
use Rattle.history_model.specs.World.{Block, SessionStanding, Outside, Open, Doomed, World, after_block, start}

-- entries in the order of their events
abbrev pub History : Type 0
History = List Entry

-- the cause of a refusal, asked by tests
abbrev pub is_disk : Reply → Bool
is_disk (Refused refusal.Disk) = true
is_disk _ = false

abbrev pub is_down : Reply → Bool
is_down (Refused (refusal.Down place)) = true
is_down _ = false

abbrev pub is_doomed : Reply → Bool
is_doomed (Refused (refusal.Doomed place)) = true
is_doomed _ = false

abbrev pub is_conflict : Reply → Bool
is_conflict (Refused (refusal.Conflict session table key)) = true
is_conflict _ = false

-- an answer that came for want of the disk
abbrev pub is_failure : Reply → Bool
is_failure reply = is_disk reply || is_down reply

-- the database that an accepted request leaves: a COMMIT runs the transaction's statements; outside, a statement runs
abbrev pub left_by : Db → SessionStanding → Request → Db
left_by db Outside (Run asked) = (run db asked).db
left_by db (Open begun block) (Run statement.Commit) = after_block db block
left_by db _ _ = db

-- the flat database after an entry that was answered so: a refused one leaves it
abbrev pub flat_after : World → Entry → Reply → Db
flat_after world entry reply = if is_refusal reply then world.flat else left_by world.flat (world.standing entry.session.0) entry.request

abbrev pub with_stated : ℕ → ℕ → Block → Statement → Bool → SessionStanding
with_stated place begun block asked conflicts = if conflicts then Open begun block else Open begun (block ++ record { place = place; statement = asked } ∷ [])

-- How a session stands after a statement in its transaction. A statement that conflicts isn't one of it; any other is, also
-- one that is refused.
abbrev pub after_stated : ℕ → ℕ → Block → Statement → Bool → SessionStanding
after_stated place begun block (statement.Select select) conflicts = with_stated place begun block (statement.Select select) conflicts
after_stated place begun block (statement.Insert table columns rows) conflicts = with_stated place begun block (statement.Insert table columns rows) conflicts
after_stated place begun block (statement.Update table sets cond) conflicts = with_stated place begun block (statement.Update table sets cond) conflicts
after_stated place begun block (statement.Delete table cond) conflicts = with_stated place begun block (statement.Delete table cond) conflicts
after_stated place begun block statement.Commit conflicts = Outside
after_stated place begun block statement.Rollback conflicts = Outside
after_stated place begun block asked conflicts = Open begun block

-- how a session stands after a request of its own
abbrev pub after_request : ℕ → SessionStanding → Request → Bool → SessionStanding
after_request place (Doomed by) request conflicts = Outside
after_request place Outside (Run statement.Begin) conflicts = Open place []
after_request place Outside request conflicts = Outside
after_request place (Open begun block) (Run asked) conflicts = after_stated place begun block asked conflicts
after_request place (Open begun block) End conflicts = Outside
after_request place (Open begun block) request conflicts = Open begun block

-- and after its entry: an answer for want of the disk changes nothing
abbrev pub own_after : World → Entry → Reply → SessionStanding
own_after world entry reply = if is_failure reply then world.standing entry.session.0
    else after_request world.place (world.standing entry.session.0) entry.request (is_conflict reply)

-- the data subject that a request forgets
abbrev pub forgotten : Schema → Request → Option RowName
forgotten schema (Run (statement.GdprForget table key)) = Some (record { table = table_number schema table; key = key })
forgotten schema _ = None

-- whether one of these rows lies on one of these items
abbrev pub lie_on : List RowName → List FootItem → Bool
lie_on names items = list_any (λ name. list_any (lies_on name) items) names

-- whether a FORGET of this subject removes or changes a row on an item that a session holds
abbrev pub is_doomed_by : World → ℕ → RowName → Bool
is_doomed_by world session subject = lie_on (removed world.flat subject ++ changed world.flat subject) (held world session)

-- whether an entry that was answered so ends the transaction of another session
unfoldable pub dooms : World → Entry → Reply → ℕ → Bool
dooms world entry reply session = not (is_refusal reply) && option_map_or (is_doomed_by world session) (forgotten world.flat.schema entry.request) false

abbrev pub doomed_at : ℕ → SessionStanding → SessionStanding
doomed_at place (Open begun block) = Doomed place
doomed_at place standing = standing

-- how another session stands after an entry
abbrev pub other_after : World → Entry → Reply → ℕ → SessionStanding
other_after world entry reply session = if dooms world entry reply session then doomed_at world.place (world.standing session) else world.standing session

abbrev pub down_after : ℕ → Option ℕ → Bool → Option ℕ
down_after place (Some failed) fails = Some failed
down_after place None fails = if fails then Some place else None

-- the world after an entry that was answered so
abbrev pub after_reply : World → Entry → Reply → World
after_reply world entry reply = record {
  place = world.place + 1;
  flat = flat_after world entry reply;
  standing = λ session. if session == entry.session.0 then own_after world entry reply else other_after world entry reply session;
  down = down_after world.place world.down (is_disk reply);
}

-- the world after an entry
abbrev pub happens : World → Entry → World
happens world entry = after_reply world entry (answer world entry)

-- the world after a history
unfoldable pub world : Db → History → World
world base history = fold happens (start base) history

-- the flat database of a history
unfoldable pub flat : Db → History → Db
flat base history = (world base history).flat

-- how a session stands after a history
unfoldable pub standing : Db → History → ℕ → SessionStanding
standing base history session = (world base history).standing session

-- the reply at a place of a history, where it has that place
unfoldable pub reply : Db → History → ℕ → Option Reply
reply base history place = option_map (answer (world base (take place history))) (slice_get history place)
