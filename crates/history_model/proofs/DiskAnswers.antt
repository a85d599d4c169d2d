-- What the disk decides of an answer: nothing, or whether what would be accepted is.
use Rattle.std.proofs.Common.{◌≡◌, ℕ, Bool, true, false, cond, inl, inr, refl, ap}
use Rattle.std.specs.Prelude.{◌⊎◌, Option, Some, None, Result, Ok, Err}
use Rattle.std.proofs.lemmas.Bool.{or_parts}
use Rattle.own_model.specs.declared.bound.Bound.{Bound}
use Rattle.own_model.specs.declared.history.Entry.{Entry}
use Rattle.own_model.specs.declared.history.Verdict.{Verdict}
use Rattle.own_model.specs.declared.history.Verdict.TheVariants.{DiskFault, Took}
use Rattle.own_model.specs.declared.refusal.Refusal.{Refusal}
use Rattle.own_model.specs.declared.reply.Reply.{Reply}
use Rattle.own_model.specs.declared.reply.Reply.TheVariants.{Done}
use Rattle.own_model.specs.declared.request.Request.{Request}
use Rattle.own_model.specs.declared.request.Request.TheVariants.{Run, Syntax, Limit, End}
use Rattle.own_model.specs.declared.statement.Statement.{Statement}
use Rattle.own_model.specs.declared.statement.Statement.TheVariants as statement
use Rattle.own_model.specs.Db.{Db}
use Rattle.query_model.specs.BoundStatement.{bound_statement}
use Rattle.query_model.specs.Footprints.{footprint_of}
use Rattle.state_model.specs.CommitRefusal.{commit_refusal}
use Rattle.state_model.specs.Fault.{fault}
use Rattle.run_model.specs.Run.{Outcome, run}
use Rattle.history_model.specs.AsksDisk.{asks_disk, under}
use Rattle.history_model.specs.Held.{Holding, holder, lowest_other}
use Rattle.history_model.specs.History.{is_disk}
use Rattle.history_model.specs.Reply.{answer, by_verdict, changes, commit_reply, committed, committing, create_reply, forget_reply, granted, is_refusal, on_disk, reply_in, reply_inside, reply_outside, taking, unless_busy, unless_down, unless_held, write_reply}
use Rattle.history_model.specs.World.{Block, SessionStanding, Outside, Open, Doomed, World, after_block}
use Rattle.history_model.proofs.Working.{standing-works}

-- the answer is the same whatever the disk says
abbrev pub IsTold : (Verdict → Reply) → Type 0
IsTold answered = (verdict : Verdict) → answered verdict ≡ answered Took

-- the answer is accepted where the disk takes what is written, and the disk's own elsewhere
pub record IsDecided (answered : Verdict → Reply) : Type 0 where
  pub by : (verdict : Verdict) → answered verdict ≡ by_verdict verdict (answered Took)
  pub accepted : is_refusal (answered Took) ≡ false

abbrev pub IsEither : (Verdict → Reply) → Type 0
IsEither answered = IsTold answered ⊎ IsDecided answered

-- what doesn't look at the disk
told : (reply : Reply) → IsEither (λ verdict. reply)
told reply = inl (λ verdict. refl)

-- what commits
needed_step : (needed : Bool) (reply : Reply) → is_refusal reply ≡ false → IsEither (λ verdict. on_disk verdict needed reply)
needed_step true reply accepted = inr (record { by = λ verdict. refl; accepted = accepted })
needed_step false reply accepted = told reply

cause_step : (needed : Bool) (cause : Option Refusal) (reply : Reply) → is_refusal reply ≡ false → IsEither (λ verdict. committed verdict needed cause reply)
cause_step needed (Some why) reply accepted = told _
cause_step needed None reply accepted = needed_step needed reply accepted

refused_step : (needed : Bool) (cause : Option Refusal) (reply : Reply) (b : Bool) → is_refusal reply ≡ b
    → IsEither (λ verdict. cond b reply (committed verdict needed cause reply))
refused_step needed cause reply true is = told reply
refused_step needed cause reply false is = cause_step needed cause reply is

committing-either : (needed : Bool) (cause : Option Refusal) (reply : Reply) → IsEither (λ verdict. committing verdict needed cause reply)
committing-either needed cause reply = refused_step needed cause reply _ refl

-- a CREATE, a write and a FORGET outside a transaction, and a COMMIT
create-either : (outcome : Outcome) → IsEither (λ verdict. create_reply verdict outcome)
create-either outcome = committing-either true (fault outcome.db) outcome.reply

write-either : (db : Db) (outcome : Outcome) → IsEither (λ verdict. write_reply verdict db outcome)
write-either db outcome = committing-either (changes db outcome.db) (commit_refusal db outcome.db) outcome.reply

forget-either : (outcome : Outcome) → IsEither (λ verdict. forget_reply verdict outcome)
forget-either outcome = committing-either true None outcome.reply

commit-either : (db after : Db) → IsEither (λ verdict. commit_reply verdict db after)
commit-either db after = committing-either (changes db after) (commit_refusal db after) Done

-- what waits for others
busy_step : (other : Option ℕ) (answered : Verdict → Reply) → IsEither answered → IsEither (λ verdict. unless_busy other (answered verdict))
busy_step (Some other) answered either = told _
busy_step None answered either = either

module _ (world : World) (session : ℕ) where
  held_step : (found : Option Holding) (answered : Verdict → Reply) → IsEither answered → IsEither (λ verdict. unless_held world found (answered verdict))
  held_step (Some holding) answered either = told _
  held_step None answered either = either

  granted_step : (result : Result Bound Refusal) (answered : Verdict → Reply) → IsEither answered
      → IsEither (λ verdict. granted world session result (answered verdict))
  granted_step (Err why) answered either = told _
  granted_step (Ok bound) answered either = held_step (holder world session (footprint_of world.flat.schema bound)) answered either

  taking-either : (asked : Statement) (answered : Verdict → Reply) → IsEither answered → IsEither (λ verdict. taking world session asked (answered verdict))
  taking-either asked answered either = granted_step (bound_statement world.flat.schema asked) answered either

  -- a statement outside a transaction
  outside-either : (asked : Statement) → IsEither (λ verdict. reply_outside world session verdict asked)
  outside-either (statement.CreateTable table) = busy_step (lowest_other world session) _ (create-either (run world.flat (statement.CreateTable table)))
  outside-either (statement.CreateView view) = busy_step (lowest_other world session) _ (create-either (run world.flat (statement.CreateView view)))
  outside-either (statement.Insert table columns rows) = taking-either (statement.Insert table columns rows) _ (write-either world.flat (run world.flat (statement.Insert table columns rows)))
  outside-either (statement.Update table sets cond) = taking-either (statement.Update table sets cond) _ (write-either world.flat (run world.flat (statement.Update table sets cond)))
  outside-either (statement.Delete table cond) = taking-either (statement.Delete table cond) _ (write-either world.flat (run world.flat (statement.Delete table cond)))
  outside-either (statement.GdprForget table key) = forget-either (run world.flat (statement.GdprForget table key))
  outside-either statement.Checkpoint = committing-either true None Done
  outside-either statement.Commit = told _
  outside-either statement.Rollback = told _
  outside-either (statement.Select select) = told _
  outside-either (statement.GdprGet table key) = told _
  outside-either statement.Begin = told _
  outside-either statement.Explain = told _

  -- and in one
  inside-either : (block : Block) (asked : Statement) → IsEither (λ verdict. reply_inside world session verdict block asked)
  inside-either block statement.Commit = commit-either world.flat (after_block world.flat block)
  inside-either block (statement.Select select) = told _
  inside-either block (statement.Insert table columns rows) = told _
  inside-either block (statement.Update table sets cond) = told _
  inside-either block (statement.Delete table cond) = told _
  inside-either block _ = told _

  -- any request, however the session stands
  standing-either : (standing : SessionStanding) (request : Request) → IsEither (λ verdict. reply_in world session verdict standing request)
  standing-either (Doomed by) request = told _
  standing-either Outside (Run asked) = outside-either asked
  standing-either (Open begun block) (Run asked) = inside-either block asked
  standing-either Outside (Syntax byte) = told _
  standing-either Outside (Limit passed) = told _
  standing-either Outside End = told _
  standing-either (Open begun block) (Syntax byte) = told _
  standing-either (Open begun block) (Limit passed) = told _
  standing-either (Open begun block) End = told _

-- and whether the disk has failed before
down_step : (down : Option ℕ) (answered : Verdict → Reply) → IsEither answered → IsEither (λ verdict. unless_down down (answered verdict))
down_step (Some failed) answered either = told _
down_step None answered either = either

-- where the disk takes all, the answer is not that it failed
down_works : (down : Option ℕ) (reply : Reply) → is_disk reply ≡ false → is_disk (unless_down down reply) ≡ false
down_works (Some failed) reply works = refl
down_works None reply works = works

-- so a fault that isn't met is not the disk's to tell, and one that is met would have been accepted
told_step : (answered : Verdict → Reply) → IsEither answered → is_disk (answered DiskFault) ≡ false → IsTold answered
told_step answered (inl same) unmet = same
told_step answered (inr decided) unmet = let met : is_disk (answered DiskFault) ≡ true = ap is_disk (decided.by DiskFault) in cc

decided_step : (answered : Verdict → Reply) → IsEither answered → is_disk (answered Took) ≡ false → is_disk (answered DiskFault) ≡ true → IsDecided answered
decided_step answered (inl same) works met = let unmet : is_disk (answered DiskFault) ≡ is_disk (answered Took) = ap is_disk (same DiskFault) in cc
decided_step answered (inr decided) works met = decided

module _ (world : World) (entry : Entry) where
  -- the answer to an entry, by what the disk says
  abbrev answered : Verdict → Reply
  answered verdict = answer world (under verdict entry)

  answer-either : IsEither answered
  unfolding answer
  answer-either = down_step world.down _ (standing-either world entry.session.0 (world.standing entry.session.0) entry.request)

  took-works : is_disk (answered Took) ≡ false
  unfolding answer
  took-works = down_works world.down _ (or_parts _ _ (standing-works world entry.session.0 (world.standing entry.session.0) entry.request)).0

  -- an answer that isn't the disk's to give is the same whatever the disk says
  pub answer-told : (verdict : Verdict) → asks_disk world entry ≡ false → answer world (under verdict entry) ≡ answer world (under Took entry)
  unfolding asks_disk
  answer-told verdict unmet = told_step answered answer-either unmet verdict

  -- one that is, is accepted where the disk takes what is written, and the disk's own elsewhere
  pub answer-decided : (verdict : Verdict) → asks_disk world entry ≡ true
      → (answer world (under verdict entry) ≡ by_verdict verdict (answer world (under Took entry))) × (is_refusal (answer world (under Took entry)) ≡ false)
  unfolding asks_disk
  answer-decided verdict met = let decided = decided_step answered answer-either took-works met in (decided.by verdict, decided.accepted)
