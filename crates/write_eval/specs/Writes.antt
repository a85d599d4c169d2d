-- What a write comes to.
use Rattle.std.specs.Prelude.{◌≡◌, length, Result, Ok, Err}
use Rattle.std.specs.List.{AllByRecursion}
use Rattle.own_base.specs.Key.{key_cmp}
use Rattle.own_base.specs.declared.number.TableNo.{TableNo}
use Rattle.own_model.specs.declared.refusal.Refusal.{Refusal}
use Rattle.own_model.specs.declared.reply.Reply.TheVariants.{Counted, Refused}
use Rattle.own_model.specs.Db.{Db}
use Rattle.page_model.specs.Rising.{IsRising}
use Rattle.state_model.specs.LeadTo.{LeadTo}
use Rattle.state_model.specs.Put.{changed_key}
use Rattle.run_model.specs.Run.{Outcome}
use Rattle.write_eval.specs.declared.written.Written.{Written}

-- What is written is what an outcome says: its count is the answer, and its changes, one for each row that is counted, lead to
-- the database that is left. They are of the write's table, by rising key.
pub record Writes (db : Db) (outcome : Outcome) (table : TableNo) (written : Written) : Type 0 where
  pub reply : outcome.reply ≡ Counted written.count
  pub counted : length written.changes ≡ written.count
  pub of : AllByRecursion (λ change. change.name.table ≡ table) written.changes
  pub rising : IsRising changed_key key_cmp written.changes
  pub leads : LeadTo db outcome.db written.changes

-- The answer to a write is what an outcome says: what is written, or why it is refused.
abbrev pub Answers : Db → Outcome → TableNo → Result Written Refusal → Type 0
Answers db outcome table (Ok written) = Writes db outcome table written
Answers db outcome table (Err why) = outcome.reply ≡ Refused why
