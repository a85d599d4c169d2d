-- What a write outside a transaction comes to.
use Rattle.std.specs.Prelude.{◌≡◌, List}
use Rattle.own_base.specs.declared.change.Change.{Change}
use Rattle.own_model.specs.declared.reply.Reply.{Reply}
use Rattle.own_model.specs.Db.{Db}
use Rattle.state_model.specs.Net.{net}
use Rattle.run_model.specs.Run.{Outcome}

-- The reply is that of an outcome, which leaves the schema as it is, and the changes are the net that leads to it.
pub record NetTo (db : Db) (outcome : Outcome) (reply : Reply) (changes : List Change) : Type 0 where
  pub told : outcome.reply ≡ reply
  pub schema : outcome.db.schema ≡ db.schema
  pub is_net : changes ≡ net db outcome.db
