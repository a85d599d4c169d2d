-- What a write of rows means, and changes.
use Rattle.std.proofs.Common.{◌≡◌, ◌∙◌, List, Ok, ap, refl, sym, subst}
use Rattle.own_base.specs.declared.change.Change.{Change}
use Rattle.own_model.specs.declared.bound.Bound.{Bound}
use Rattle.own_model.specs.declared.reply.Reply.{Reply}
use Rattle.own_model.specs.declared.schema.Schema.{Schema}
use Rattle.own_model.specs.declared.statement.Statement.{Statement}
use Rattle.own_model.specs.declared.statement.Statement.TheVariants.{Delete, Insert, Update}
use Rattle.own_model.specs.Db.{Db, IsOrdered}
use Rattle.query_model.specs.BoundStatement.{bound_statement}
use Rattle.state_model.specs.Net.{net}
use Rattle.state_model.specs.Put.{put, put_rows}
use Rattle.state_model.proofs.NetLeads.{net_put}
use Rattle.ref_index.specs.Tells.{Tell}
use Rattle.ref_index.proofs.TellLemmas.{net_tells}
use Rattle.run_model.specs.Run.{run_bound}
use Rattle.run_model.proofs.SameSchema.{same_schema-bound}
use Rattle.write_eval.specs.Write.{IsWrite}
use Rattle.write_eval.proofs.BoundWrites.{ChangesRows, bound_write}
use Rattle.txn_core.specs.Single.{NetTo}
use Rattle.txn_core.proofs.OrderedWrites.{ordered-write}
use Rattle.disk_tests.specs.RowWrites.{IsRowWrite}

changes-rows : (found : Statement) → IsRowWrite found → ChangesRows found
changes-rows (Insert table columns rows) is = tt
changes-rows (Update table sets cond) is = tt
changes-rows (Delete table cond) is = tt
changes-rows _ is = absurd is

-- what binding answers to one is a write
pub write-bound : (schema : Schema) (found : Statement) (meant : Bound) → IsRowWrite found → bound_statement schema found ≡ Ok meant → IsWrite schema meant
write-bound schema found meant row is = bound_write schema found meant is (changes-rows found row)

-- a net tells what stands
pub tells-net : (db : Db) (list : List Change) → IsOrdered db → IsOrdered (put db list) → list ≡ net db (put db list) → Tell db list
tells-net db list before after is = subst (Tell db) (sym is) (net_tells db (put db list) before after refl)

module _ (db : Db) (ordered : IsOrdered db) (bound : Bound) (write : IsWrite db.schema bound) (reply : Reply) (changes : List Change) (is : NetTo db (run_bound db bound) reply changes) where
  -- the database behind it is that with the changes
  pub left-changed : (run_bound db bound).db ≡ put db changes
  left-changed =
      let same = same_schema-bound db bound in
      let rows : put_rows db.schema.tables changes db.rows ≡ (run_bound db bound).db.rows =
      ap (λ changes. put_rows db.schema.tables changes db.rows) is.is_net ∙ net_put db (run_bound db bound).db ordered (ordered-write db bound ordered write) is.schema in
      λ i. record { creates = same.creates i; schema = same.schema i; rows = sym rows i }

  pub net-changed : changes ≡ net db (put db changes)
  net-changed = is.is_net ∙ ap (net db) left-changed
