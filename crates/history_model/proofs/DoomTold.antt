-- Doom is told to a session that is doomed, and to no other.
use Rattle.std.proofs.Common.{◌≡◌, ℕ, Bool, true, false, refl, ap, ◌∙◌, sym}
use Rattle.std.specs.Prelude.{Option, Some, None, Result, Ok, Err, if◌then◌else◌}
use Rattle.std.proofs.lemmas.Bool.{or_parts}
use Rattle.own_model.specs.declared.bound.Bound.{Bound}
use Rattle.own_model.specs.declared.history.Entry.{Entry}
use Rattle.own_model.specs.declared.history.Verdict.{Verdict}
use Rattle.own_model.specs.declared.history.Verdict.TheVariants.{Took, DiskFault, NoRoom}
use Rattle.own_model.specs.declared.refusal.Refusal.{Refusal}
use Rattle.own_model.specs.declared.refusal.Refusal.TheVariants as refusal
use Rattle.own_model.specs.declared.reply.Reply.{Reply}
use Rattle.own_model.specs.declared.reply.Reply.TheVariants.{Done, Refused}
use Rattle.own_model.specs.declared.request.Request.{Request}
use Rattle.own_model.specs.declared.request.Request.TheVariants.{Run, Syntax, Limit, End}
use Rattle.own_model.specs.declared.statement.Statement.{Statement}
use Rattle.own_model.specs.declared.statement.Statement.TheVariants as statement
use Rattle.own_model.specs.Db.{Db}
use Rattle.query_model.specs.BoundStatement.{bound_statement}
use Rattle.state_model.specs.CommitRefusal.{commit_refusal}
use Rattle.state_model.specs.Fault.{fault}
use Rattle.run_model.specs.Run.{run}
use Rattle.history_model.specs.Held.{Holding, lowest_other}
use Rattle.history_model.specs.History.{is_doomed}
use Rattle.history_model.specs.Reply.{answer, by_verdict, changes, commit_reply, committed, committing, create_reply, granted, is_refusal, on_disk, reply_in, reply_inside, reply_outside, taking, unless_busy, unless_down, unless_held, write_reply}
use Rattle.history_model.specs.Since.{is_left_out}
use Rattle.history_model.specs.World.{Block, SessionStanding, Outside, Open, Doomed, World, after_block}
use Rattle.history_model.proofs.RunReplies.{binding-of_statement, fault-of_statement, run-of_statement, commit_refusal-of_statement}
use Rattle.history_model.proofs.StatementRefusals.{IfOfStatement, is_of_others}

-- what is the statement's own is no doom
own-free : (reply : Reply) → is_of_others reply ≡ false → is_doomed reply ≡ false
own-free reply own = (or_parts (is_left_out reply) (is_doomed reply) own).1

-- nor is what the disk makes of it, or what a commit asks
disk_free : (verdict : Verdict) (needed : Bool) (reply : Reply) → is_doomed reply ≡ false → is_doomed (on_disk verdict needed reply) ≡ false
disk_free Took true reply free = free
disk_free DiskFault true reply free = refl
disk_free NoRoom true reply free = refl
disk_free verdict false reply free = free

committing-free : (verdict : Verdict) (needed : Bool) (cause : Option Refusal) (reply : Reply) → IfOfStatement cause → is_doomed reply ≡ false
    → is_doomed (committing verdict needed cause reply) ≡ false
committing-free verdict needed cause reply causes free = by (is_refusal reply) cause causes
  where
    by : (refused : Bool) (cause : Option Refusal) → IfOfStatement cause → is_doomed (if refused then reply else committed verdict needed cause reply) ≡ false
    by true cause causes = free
    by false (Some why) causes = own-free (Refused why) causes
    by false None causes = disk_free verdict needed reply free

-- the place that a doom tells
abbrev doom_place : Reply → ℕ
doom_place (Refused (refusal.Doomed place)) = place.0
doom_place _ = 0

module _ (world : World) (session : ℕ) where
  -- a statement that takes rows: binding refuses it, another session holds a row, or it goes on
  held_step : (found : Option Holding) (reply : Reply) → is_doomed reply ≡ false → is_doomed (unless_held world found reply) ≡ false
  held_step (Some holding) reply free = refl
  held_step None reply free = free

  granted_step : (asked : Statement) (result : Result Bound Refusal) → bound_statement world.flat.schema asked ≡ result → (reply : Reply) → is_doomed reply ≡ false
      → is_doomed (granted world session result reply) ≡ false
  granted_step asked (Err why) is reply free = own-free (Refused why) (binding-of_statement world.flat.schema asked why is)
  granted_step asked (Ok bound) is reply free = held_step _ reply free

  taking-free : (asked : Statement) (reply : Reply) → is_doomed reply ≡ false → is_doomed (taking world session asked reply) ≡ false
  taking-free asked reply free = granted_step asked _ refl reply free

  -- a CREATE that waits for no one
  busy_step : (other : Option ℕ) (reply : Reply) → is_doomed reply ≡ false → is_doomed (unless_busy other reply) ≡ false
  busy_step (Some other) reply free = refl
  busy_step None reply free = free

  runs : (db : Db) (asked : Statement) → is_doomed (run db asked).reply ≡ false
  runs db asked = own-free (run db asked).reply (run-of_statement db asked)

  -- what commits by itself
  create-free : (verdict : Verdict) (asked : Statement) → is_doomed (create_reply verdict (run world.flat asked)) ≡ false
  create-free verdict asked =
      committing-free verdict true _ (run world.flat asked).reply (fault-of_statement (run world.flat asked).db) (runs world.flat asked)

  write-free : (verdict : Verdict) (asked : Statement) → is_doomed (write_reply verdict world.flat (run world.flat asked)) ≡ false
  write-free verdict asked =
      committing-free verdict _ _ (run world.flat asked).reply (commit_refusal-of_statement world.flat (run world.flat asked).db) (runs world.flat asked)

  -- a statement outside a transaction
  outside-free : (verdict : Verdict) (asked : Statement) → is_doomed (reply_outside world session verdict asked) ≡ false
  outside-free verdict (statement.CreateTable table) = busy_step (lowest_other world session) _ (create-free verdict (statement.CreateTable table))
  outside-free verdict (statement.CreateView view) = busy_step (lowest_other world session) _ (create-free verdict (statement.CreateView view))
  outside-free verdict (statement.Insert table columns rows) = taking-free (statement.Insert table columns rows) _ (write-free verdict (statement.Insert table columns rows))
  outside-free verdict (statement.Update table sets cond) = taking-free (statement.Update table sets cond) _ (write-free verdict (statement.Update table sets cond))
  outside-free verdict (statement.Delete table cond) = taking-free (statement.Delete table cond) _ (write-free verdict (statement.Delete table cond))
  outside-free verdict statement.Commit = refl
  outside-free verdict statement.Rollback = refl
  outside-free verdict (statement.GdprForget table key) =
      committing-free verdict true None (run world.flat (statement.GdprForget table key)).reply tt (runs world.flat (statement.GdprForget table key))
  outside-free verdict statement.Checkpoint = committing-free verdict true None Done tt refl
  outside-free verdict (statement.Select select) = runs world.flat (statement.Select select)
  outside-free verdict (statement.GdprGet table key) = runs world.flat (statement.GdprGet table key)
  outside-free verdict statement.Begin = runs world.flat statement.Begin
  outside-free verdict statement.Explain = runs world.flat statement.Explain

  -- and in one
  within-free : (block : Block) (asked : Statement) → is_doomed (taking world session asked (run (after_block world.flat block) asked).reply) ≡ false
  within-free block asked = taking-free asked _ (runs (after_block world.flat block) asked)

  inside-free : (verdict : Verdict) (block : Block) (asked : Statement) → is_doomed (reply_inside world session verdict block asked) ≡ false
  inside-free verdict block (statement.Select select) = within-free block (statement.Select select)
  inside-free verdict block (statement.Insert table columns rows) = within-free block (statement.Insert table columns rows)
  inside-free verdict block (statement.Update table sets cond) = within-free block (statement.Update table sets cond)
  inside-free verdict block (statement.Delete table cond) = within-free block (statement.Delete table cond)
  inside-free verdict block statement.Commit =
      committing-free verdict _ _ Done (commit_refusal-of_statement world.flat (after_block world.flat block)) refl
  inside-free verdict block statement.Rollback = refl
  inside-free verdict block _ = refl

  -- a session that is told a doom stands doomed there
  standing-told : (verdict : Verdict) (standing : SessionStanding) (request : Request) (place : ℕ)
      → reply_in world session verdict standing request ≡ Refused (refusal.Doomed (record { 0 = place })) → standing ≡ Doomed place
  standing-told verdict (Doomed by) request place told = ap Doomed (ap doom_place told)
  standing-told verdict Outside (Run asked) place told =
      let free = outside-free verdict asked in let is : is_doomed (reply_outside world session verdict asked) ≡ true = ap is_doomed told in cc
  standing-told verdict (Open begun block) (Run asked) place told =
      let free = inside-free verdict block asked in let is : is_doomed (reply_inside world session verdict block asked) ≡ true = ap is_doomed told in cc
  standing-told verdict Outside (Syntax byte) place told = let is : false ≡ true = ap is_doomed told in cc
  standing-told verdict Outside (Limit passed) place told = let is : false ≡ true = ap is_doomed told in cc
  standing-told verdict Outside End place told = let is : false ≡ true = ap is_doomed told in cc
  standing-told verdict (Open begun block) (Syntax byte) place told = let is : false ≡ true = ap is_doomed told in cc
  standing-told verdict (Open begun block) (Limit passed) place told = let is : false ≡ true = ap is_doomed told in cc
  standing-told verdict (Open begun block) End place told = let is : false ≡ true = ap is_doomed told in cc

-- what is told is the doom only where the disk hasn't failed
up_step : (down : Option ℕ) (reply : Reply) (place : ℕ) → unless_down down reply ≡ Refused (refusal.Doomed (record { 0 = place })) → reply ≡ Refused (refusal.Doomed (record { 0 = place }))
up_step (Some failed) reply place told = let is : false ≡ true = ap is_doomed told in cc
up_step None reply place told = told

-- An answer that tells a doom at a place is to a session that stands doomed there.
pub told-doomed : (world : World) (entry : Entry) (place : ℕ) → answer world entry ≡ Refused (refusal.Doomed (record { 0 = place }))
    → world.standing entry.session.0 ≡ Doomed place
unfolding answer
told-doomed world entry place told =
    standing-told world entry.session.0 entry.verdict (world.standing entry.session.0) entry.request place (up_step world.down _ place told)
