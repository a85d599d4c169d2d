-- What serving an entry comes to: a reply at once, or a look.
use Rattle.std.specs.Prelude.{◌≡◌, Bool, true, false, None, Some, Result, Ok, Err}
use Rattle.own_base.specs.declared.number.Place.{Place}
use Rattle.own_model.specs.declared.history.Entry.{Entry}
use Rattle.own_model.specs.declared.history.Verdict.{Verdict}
use Rattle.own_model.specs.declared.history.Verdict.TheVariants.{Took}
use Rattle.own_model.specs.declared.refusal.Refusal.{Refusal}
use Rattle.own_model.specs.declared.reply.Reply.{Reply}
use Rattle.own_model.specs.declared.reply.Reply.TheVariants.{Refused}
use Rattle.own_model.specs.declared.statement.Statement.{Statement}
use Rattle.own_model.specs.Db.{Db}
use Rattle.query_model.specs.BoundStatement.{bound_statement}
use Rattle.run_model.specs.Run.{run_bound}
use Rattle.history_model.specs.World.{World}
use Rattle.serve_model.specs.Look.{IsLook, look_of}
use Rattle.serve_model.specs.declared.step.Step.{Step}
use Rattle.serve_model.specs.declared.step.Step.TheVariants as step
use Rattle.engine_core.specs.declared.came.Came.{Came}
use Rattle.engine_core.specs.declared.came.Came.TheVariants.{Look, Replied}

-- the reply: that of a look is what its statement is answered by what is shown
abbrev pub reply_by : Came → Reply
reply_by (Replied verdict reply) = reply
reply_by (Look shown bound) = (run_bound shown bound).reply

-- what the disk said; for a look it isn't asked
abbrev pub verdict_by : Came → Verdict
verdict_by (Replied verdict reply) = verdict
verdict_by (Look shown bound) = Took

-- both, where memory wasn't refused
abbrev pub told_of : {E : Type 0} → Result Came E → Result (Verdict × Reply) E
told_of (Ok came) = Ok (verdict_by came, reply_by came)
told_of (Err refused) = Err refused

-- An entry comes to a look just where it is one: then the flat database is shown, and the bound statement is its own there.
abbrev pub ComesTo : World → Entry → Came → Type 0
ComesTo world entry (Replied verdict reply) = look_of world entry ≡ None
ComesTo world entry (Look shown bound) = (look_of world entry ≡ Some bound) × (shown ≡ world.flat)

-- it is a reply
abbrev pub IsReplied : Came → Type 0
IsReplied (Replied verdict reply) = Unit {0}
IsReplied (Look shown bound) = ⊥

-- where it is to be answered at once it is a reply, also of a look
abbrev pub ComesAs : Bool → World → Entry → Came → Type 0
ComesAs false world entry came = ComesTo world entry came
ComesAs true world entry came = IsReplied came

-- what a statement comes to that reads alone: this database, and what it means there; or why binding refuses it
abbrev pub IsReadOf : Db → Statement → Came → Type 0
IsReadOf db asked (Replied verdict reply) = (why : Refusal) × (verdict ≡ Took) × (reply ≡ Refused why) × (bound_statement db.schema asked ≡ Err why)
IsReadOf db asked (Look shown bound) = (shown ≡ db) × (bound_statement db.schema asked ≡ Ok bound)

-- a look may be asked of what shows its database
abbrev pub MayBeRead : Came → Type 0
MayBeRead (Replied verdict reply) = Unit {0}
MayBeRead (Look shown bound) = IsLook shown.schema bound

-- One comes of the other where a look is to be answered at once; else it is the same.
pub record IsAnswered (at_once : Bool) (came now : Came) : Type 0 where
  pub verdict : verdict_by now ≡ verdict_by came
  pub reply : reply_by now ≡ reply_by came
  pub kept : at_once ≡ false → now ≡ came
  pub replied : at_once ≡ true → IsReplied now

-- what such a statement comes to, answered at once or as a look
pub record IsReadAs (at_once : Bool) (db : Db) (asked : Statement) (now : Came) : Type 0 where
  pub came : Came
  pub read : IsReadOf db asked came
  pub answered : IsAnswered at_once came now

-- what a call came to whose entry has this place
abbrev pub step_of : Place → Came → Step Db
step_of place (Replied verdict reply) = step.Answered place reply
step_of place (Look shown bound) = step.Look place shown bound
