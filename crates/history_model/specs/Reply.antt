-- What is answered to an entry.
use Rattle.std.specs.Prelude.{ℕ, Bool, true, false, not, ◌==◌, Option, None, Some, Result, Ok, Err, length, if◌then◌else◌}
use Rattle.own_model.specs.declared.bound.Bound.{Bound}
use Rattle.own_model.specs.declared.history.Entry.{Entry}
use Rattle.own_model.specs.declared.history.Verdict.{Verdict}
use Rattle.own_model.specs.declared.history.Verdict.TheVariants.{Took, DiskFault, NoRoom}
use Rattle.own_model.specs.declared.limit.LimitName.TheVariants as limit
use Rattle.own_model.specs.declared.refusal.Refusal.{Refusal}
use Rattle.own_model.specs.declared.refusal.Refusal.TheVariants as refusal
use Rattle.own_model.specs.declared.reply.Reply.{Reply}
use Rattle.own_model.specs.declared.reply.Reply.TheVariants.{Done, Counted, Rows, Got, Forgot, Graph, Ended, Refused}
use Rattle.own_model.specs.declared.request.Request.{Request}
use Rattle.own_model.specs.declared.request.Request.TheVariants.{Run, Syntax, Limit, End}
use Rattle.own_model.specs.declared.statement.Statement.{Statement}
use Rattle.own_model.specs.declared.statement.Statement.TheVariants as statement
use Rattle.own_model.specs.Db.{Db}
use Rattle.query_model.specs.BoundStatement.{bound_statement}
use Rattle.query_model.specs.Footprints.{footprint_of}
use Rattle.subject_model.specs.Get.{table_name}
use Rattle.state_model.specs.Fault.{fault}
use Rattle.state_model.specs.Net.{net}
use Rattle.state_model.specs.CommitRefusal.{commit_refusal}
use Rattle.run_model.specs.Run.{Outcome, run}
use Rattle.history_model.specs.Held.{Holding, holder, lowest_other}
use Rattle.history_model.specs.World.{Block, SessionStanding, Outside, Open, Doomed, World, after_block}

-- a reply by which nothing was done
abbrev pub is_refusal : Reply → Bool
is_refusal Done = false
is_refusal (Counted count) = false
is_refusal (Rows rows) = false
is_refusal (Got rows) = false
is_refusal (Forgot removed changed) = false
is_refusal (Graph lines) = false
is_refusal Ended = false
is_refusal (Refused why) = true

-- whether a commit changes anything
abbrev pub changes : Db → Db → Bool
changes before after = not (length (net before after) == 0)

-- what becomes of a reply where the disk is needed: it stays where the disk took what was written
abbrev pub by_verdict : Verdict → Reply → Reply
by_verdict Took reply = reply
by_verdict DiskFault reply = Refused refusal.Disk
by_verdict NoRoom reply = Refused (refusal.Limit limit.Room)

abbrev pub on_disk : Verdict → Bool → Reply → Reply
on_disk verdict needed reply = if needed then by_verdict verdict reply else reply

-- a call that may commit: refused as it runs, else by what a commit asks, else by the disk where it needs one
abbrev pub committed : Verdict → Bool → Option Refusal → Reply → Reply
committed verdict needed (Some why) reply = Refused why
committed verdict needed None reply = on_disk verdict needed reply

abbrev pub committing : Verdict → Bool → Option Refusal → Reply → Reply
committing verdict needed cause reply = if is_refusal reply then reply else committed verdict needed cause reply

-- a write outside a transaction, which commits by itself; a CREATE; a FORGET, which no constraint refuses; a COMMIT
abbrev pub write_reply : Verdict → Db → Outcome → Reply
write_reply verdict db outcome = committing verdict (changes db outcome.db) (commit_refusal db outcome.db) outcome.reply

abbrev pub create_reply : Verdict → Outcome → Reply
create_reply verdict outcome = committing verdict true (fault outcome.db) outcome.reply

abbrev pub forget_reply : Verdict → Outcome → Reply
forget_reply verdict outcome = committing verdict true None outcome.reply

abbrev pub commit_reply : Verdict → Db → Db → Reply
commit_reply verdict db after = committing verdict (changes db after) (commit_refusal db after) Done

-- refused where another session holds a row of the footprint, with the lowest such session and the first such item
abbrev pub conflict : World → Holding → Reply
conflict world holding =
    Refused (refusal.Conflict (record { 0 = holding.session }) (table_name world.flat.schema holding.item.table.0) holding.item.key)

abbrev pub unless_held : World → Option Holding → Reply → Reply
unless_held world (Some holding) reply = conflict world holding
unless_held world None reply = reply

-- A statement that takes rows for itself: refused by binding, else where they are held, else as it goes on.
abbrev pub granted : World → ℕ → Result Bound Refusal → Reply → Reply
granted world session (Err why) reply = Refused why
granted world session (Ok bound) reply = unless_held world (holder world session (footprint_of world.flat.schema bound)) reply

abbrev pub taking : World → ℕ → Statement → Reply → Reply
taking world session asked reply = granted world session (bound_statement world.flat.schema asked) reply

-- a CREATE waits for no one: it is refused while another session's transaction is open
abbrev pub unless_busy : Option ℕ → Reply → Reply
unless_busy (Some other) reply = Refused (refusal.Busy (record { 0 = other }))
unless_busy None reply = reply

-- a statement in a transaction: its reply after the transaction's statements, on the flat database
abbrev pub reply_within : World → ℕ → Block → Statement → Reply
reply_within world session block asked = taking world session asked (run (after_block world.flat block) asked).reply

-- a statement outside a transaction, session by session
abbrev pub reply_outside : World → ℕ → Verdict → Statement → Reply
reply_outside world session verdict (statement.CreateTable table) =
    unless_busy (lowest_other world session) (create_reply verdict (run world.flat (statement.CreateTable table)))
reply_outside world session verdict (statement.CreateView view) =
    unless_busy (lowest_other world session) (create_reply verdict (run world.flat (statement.CreateView view)))
reply_outside world session verdict (statement.Insert table columns rows) =
    taking world session (statement.Insert table columns rows) (write_reply verdict world.flat (run world.flat (statement.Insert table columns rows)))
reply_outside world session verdict (statement.Update table sets cond) =
    taking world session (statement.Update table sets cond) (write_reply verdict world.flat (run world.flat (statement.Update table sets cond)))
reply_outside world session verdict (statement.Delete table cond) =
    taking world session (statement.Delete table cond) (write_reply verdict world.flat (run world.flat (statement.Delete table cond)))
reply_outside world session verdict statement.Commit = Refused refusal.Outside
reply_outside world session verdict statement.Rollback = Refused refusal.Outside
reply_outside world session verdict (statement.GdprForget table key) = forget_reply verdict (run world.flat (statement.GdprForget table key))
reply_outside world session verdict statement.Checkpoint = committing verdict true None Done
reply_outside world session verdict asked = (run world.flat asked).reply

-- a statement in a transaction
abbrev pub reply_inside : World → ℕ → Verdict → Block → Statement → Reply
reply_inside world session verdict block (statement.Select select) = reply_within world session block (statement.Select select)
reply_inside world session verdict block (statement.Insert table columns rows) = reply_within world session block (statement.Insert table columns rows)
reply_inside world session verdict block (statement.Update table sets cond) = reply_within world session block (statement.Update table sets cond)
reply_inside world session verdict block (statement.Delete table cond) = reply_within world session block (statement.Delete table cond)
reply_inside world session verdict block statement.Commit = commit_reply verdict world.flat (after_block world.flat block)
reply_inside world session verdict block statement.Rollback = Done
reply_inside world session verdict block asked = Refused refusal.Inside

-- what a session that stands so is answered to a request
abbrev pub reply_in : World → ℕ → Verdict → SessionStanding → Request → Reply
reply_in world session verdict (Doomed by) request = Refused (refusal.Doomed (record { 0 = by }))
reply_in world session verdict standing (Syntax byte) = Refused (refusal.Syntax byte)
reply_in world session verdict standing (Limit passed) = Refused (refusal.Limit passed)
reply_in world session verdict standing End = Ended
reply_in world session verdict Outside (Run asked) = reply_outside world session verdict asked
reply_in world session verdict (Open begun block) (Run asked) = reply_inside world session verdict block asked

abbrev pub unless_down : Option ℕ → Reply → Reply
unless_down (Some failed) reply = Refused (refusal.Down (record { 0 = failed }))
unless_down None reply = reply

-- The answer to an entry in a world: once the disk has failed, that; a doomed session's doom; what the reader refuses; then by
-- how the session stands.
unfoldable pub answer : World → Entry → Reply
answer world entry =
    unless_down world.down (reply_in world entry.session.0 entry.verdict (world.standing entry.session.0) entry.request)
