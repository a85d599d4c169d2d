-- What a write is answered, by whether it is refused.
use Rattle.std.proofs.Common.{◌≡◌, ◌≢◌}
use Rattle.std.specs.Prelude.{Result, Ok, Err, IfOk, IfErr}
use Rattle.own_base.specs.declared.number.TableNo.{TableNo}
use Rattle.own_model.specs.declared.refusal.Refusal.{Refusal}
use Rattle.own_model.specs.declared.refusal.Refusal.TheVariants.{Memory}
use Rattle.own_model.specs.declared.reply.Reply.TheVariants.{Refused}
use Rattle.own_model.specs.Db.{Db}
use Rattle.run_model.specs.Run.{Outcome}
use Rattle.write_eval.specs.Writes.{Answers, Writes}
use Rattle.write_eval.specs.declared.written.Written.{Written}

module _ (db : Db) (outcome : Outcome) (table : TableNo) where
  -- what is written, where something is
  pub writes_of : (answer : Result Written Refusal) → Answers db outcome table answer → IfOk answer (λ written. Writes db outcome table written)
  writes_of (Ok written) all = all
  writes_of (Err why) all = tt

  -- why it is refused, where it is
  pub refused_of : (answer : Result Written Refusal) → Answers db outcome table answer → IfErr answer (λ why. why ≢ Memory → outcome.reply ≡ Refused why)
  refused_of (Ok written) all = tt
  refused_of (Err why) all = λ other. all
