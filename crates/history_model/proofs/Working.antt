-- Where the disk takes all that is written it doesn't fail: no answer is for want of it.
use Rattle.std.proofs.Common.{◌≡◌, ℕ, [], ◌∷◌, true, false, refl, ap, ◌∙◌}
use Rattle.std.specs.Prelude.{Option, Some, None, Result, Ok, Err, fold}
use Rattle.std.specs.List.{AllByRecursion}
use Rattle.std.proofs.lemmas.Bool.{or_parts}
use Rattle.own_model.specs.declared.bound.Bound.{Bound}
use Rattle.own_model.specs.declared.history.Entry.{Entry}
use Rattle.own_model.specs.declared.history.Verdict.TheVariants.{Took}
use Rattle.own_model.specs.declared.refusal.Refusal.{Refusal}
use Rattle.own_model.specs.declared.reply.Reply.{Reply}
use Rattle.own_model.specs.declared.reply.Reply.TheVariants.{Refused}
use Rattle.own_model.specs.declared.request.Request.{Request}
use Rattle.own_model.specs.declared.request.Request.TheVariants.{Run, Syntax, Limit, End}
use Rattle.own_model.specs.declared.statement.Statement.{Statement}
use Rattle.own_model.specs.declared.statement.Statement.TheVariants as statement
use Rattle.own_model.specs.Db.{Db}
use Rattle.query_model.specs.BoundStatement.{bound_statement}
use Rattle.run_model.specs.Run.{run}
use Rattle.history_model.specs.Held.{Holding, lowest_other}
use Rattle.history_model.specs.History.{History, down_after, happens, is_disk, is_doomed, is_failure, world as world_of}
use Rattle.history_model.specs.Reply.{answer, create_reply, granted, reply_in, reply_inside, reply_outside, taking, unless_busy, unless_down, unless_held, write_reply}
use Rattle.history_model.specs.Since.{is_left_out}
use Rattle.history_model.specs.World.{Block, SessionStanding, Outside, Open, Doomed, World, after_block, start}
use Rattle.history_model.proofs.RunReplies.{binding-of_statement, commit-of_statement, committing-of_statement, fault-of_statement, run-of_statement, commit_refusal-of_statement}
use Rattle.history_model.proofs.StatementRefusals.{is_of_others}

-- what is the statement's own isn't for want of the disk
own-works : (reply : Reply) → is_of_others reply ≡ false → is_failure reply ≡ false
own-works reply own = (or_parts _ _ (or_parts (is_left_out reply) (is_doomed reply) own).0).1

module _ (world : World) (session : ℕ) where
  -- a statement that takes rows: binding refuses it, another session holds a row, or it goes on
  held_step : (found : Option Holding) (reply : Reply) → is_failure reply ≡ false → is_failure (unless_held world found reply) ≡ false
  held_step (Some holding) reply works = refl
  held_step None reply works = works

  granted_step : (asked : Statement) (result : Result Bound Refusal) → bound_statement world.flat.schema asked ≡ result → (reply : Reply) → is_failure reply ≡ false
      → is_failure (granted world session result reply) ≡ false
  granted_step asked (Err why) is reply works = own-works (Refused why) (binding-of_statement world.flat.schema asked why is)
  granted_step asked (Ok bound) is reply works = held_step _ reply works

  taking-works : (asked : Statement) (reply : Reply) → is_failure reply ≡ false → is_failure (taking world session asked reply) ≡ false
  taking-works asked reply works = granted_step asked _ refl reply works

  -- a CREATE that waits for no one
  busy_step : (other : Option ℕ) (reply : Reply) → is_failure reply ≡ false → is_failure (unless_busy other reply) ≡ false
  busy_step (Some other) reply works = refl
  busy_step None reply works = works

  runs : (db : Db) (asked : Statement) → is_failure (run db asked).reply ≡ false
  runs db asked = own-works (run db asked).reply (run-of_statement db asked)

  -- what commits by itself
  create-works : (asked : Statement) → is_failure (create_reply Took (run world.flat asked)) ≡ false
  create-works asked =
      own-works _ (committing-of_statement true _ (run world.flat asked).reply (fault-of_statement (run world.flat asked).db) (run-of_statement world.flat asked))

  write-works : (asked : Statement) → is_failure (write_reply Took world.flat (run world.flat asked)) ≡ false
  write-works asked =
      own-works _ (committing-of_statement _ _ (run world.flat asked).reply (commit_refusal-of_statement world.flat (run world.flat asked).db) (run-of_statement world.flat asked))

  -- a statement outside a transaction
  outside-works : (asked : Statement) → is_failure (reply_outside world session Took asked) ≡ false
  outside-works (statement.CreateTable table) = busy_step (lowest_other world session) _ (create-works (statement.CreateTable table))
  outside-works (statement.CreateView view) = busy_step (lowest_other world session) _ (create-works (statement.CreateView view))
  outside-works (statement.Insert table columns rows) =
      taking-works (statement.Insert table columns rows) _ (write-works (statement.Insert table columns rows))
  outside-works (statement.Update table sets cond) = taking-works (statement.Update table sets cond) _ (write-works (statement.Update table sets cond))
  outside-works (statement.Delete table cond) = taking-works (statement.Delete table cond) _ (write-works (statement.Delete table cond))
  outside-works statement.Commit = refl
  outside-works statement.Rollback = refl
  outside-works (statement.GdprForget table key) =
      own-works _ (committing-of_statement true None (run world.flat (statement.GdprForget table key)).reply tt
      (run-of_statement world.flat (statement.GdprForget table key)))
  outside-works statement.Checkpoint = refl
  outside-works (statement.Select select) = runs world.flat (statement.Select select)
  outside-works (statement.GdprGet table key) = runs world.flat (statement.GdprGet table key)
  outside-works statement.Begin = runs world.flat statement.Begin
  outside-works statement.Explain = runs world.flat statement.Explain

  -- and in one
  within-works : (block : Block) (asked : Statement) → is_failure (taking world session asked (run (after_block world.flat block) asked).reply) ≡ false
  within-works block asked = taking-works asked _ (runs (after_block world.flat block) asked)

  inside-works : (block : Block) (asked : Statement) → is_failure (reply_inside world session Took block asked) ≡ false
  inside-works block (statement.Select select) = within-works block (statement.Select select)
  inside-works block (statement.Insert table columns rows) = within-works block (statement.Insert table columns rows)
  inside-works block (statement.Update table sets cond) = within-works block (statement.Update table sets cond)
  inside-works block (statement.Delete table cond) = within-works block (statement.Delete table cond)
  inside-works block statement.Commit = own-works _ (commit-of_statement world.flat (after_block world.flat block))
  inside-works block statement.Rollback = refl
  inside-works block _ = refl

  -- any request, however the session stands
  pub standing-works : (standing : SessionStanding) (request : Request) → is_failure (reply_in world session Took standing request) ≡ false
  standing-works (Doomed by) request = refl
  standing-works Outside (Run asked) = outside-works asked
  standing-works (Open begun block) (Run asked) = inside-works block asked
  standing-works Outside (Syntax byte) = refl
  standing-works Outside (Limit passed) = refl
  standing-works Outside End = refl
  standing-works (Open begun block) (Syntax byte) = refl
  standing-works (Open begun block) (Limit passed) = refl
  standing-works (Open begun block) End = refl

-- where the disk hasn't failed, and takes what the entry writes, the answer isn't for want of it
pub answer-works : (world : World) (entry : Entry) → entry.verdict ≡ Took → world.down ≡ None → is_failure (answer world entry) ≡ false
unfolding answer
answer-works world entry took up =
    let session : ℕ = entry.session.0 in
    let answered : is_failure (reply_in world session entry.verdict (world.standing session) entry.request) ≡ false =
    ap (λ verdict. is_failure (reply_in world session verdict (world.standing session) entry.request)) took
    ∙ standing-works world session (world.standing session) entry.request in
    ap (λ down. is_failure (unless_down down (reply_in world session entry.verdict (world.standing session) entry.request))) up ∙ answered

-- so it hasn't failed after the entry
pub up-after : (world : World) (entry : Entry) → entry.verdict ≡ Took → world.down ≡ None → (happens world entry).down ≡ None
up-after world entry took up =
    let works : is_disk (answer world entry) ≡ false = (or_parts _ _ (answer-works world entry took up)).0 in
    ap (λ down. down_after world.place down (is_disk (answer world entry))) up ∙ ap (down_after world.place None) works

up_fold : (before : World) (history : History) → before.down ≡ None → AllByRecursion (λ entry. entry.verdict ≡ Took) history → (fold happens before history).down ≡ None
up_fold before [] up took = up
up_fold before (entry ∷ history) up took = up_fold (happens before entry) history (up-after before entry took.0 up) took.1

-- nor after any history of which it takes all
pub up-history : (base : Db) (history : History) → AllByRecursion (λ entry. entry.verdict ≡ Took) history → (world_of base history).down ≡ None
unfolding world_of
up-history base history took = up_fold (start base) history refl took
