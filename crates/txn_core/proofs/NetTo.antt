-- From what a write comes to, to the net of it.
use Rattle.std.proofs.Common.{◌≡◌, ◌∙◌, List, [], ◌∷◌, ap, refl, subst}
use Rattle.std.specs.Prelude.{IfSome, IsSomeAnd, Option, Some, filter, slice_get}
use Rattle.std.specs.List.{AllByRecursion as Each}
use Rattle.own_base.specs.declared.change.Change.{Change}
use Rattle.own_model.specs.declared.bound.Bound.{Bound}
use Rattle.own_model.specs.declared.bound.Bound.TheVariants.{Delete, Explain, Forget, Get, Insert, Select, Update}
use Rattle.own_model.specs.declared.reply.Reply.TheVariants.{Counted}
use Rattle.own_model.specs.declared.schema.Schema.{Schema}
use Rattle.own_model.specs.declared.schema.TableDef.{TableDef}
use Rattle.own_base.specs.declared.number.TableNo.{TableNo}
use Rattle.own_model.specs.Db.{AreRising, Db, IsOrdered, key_of}
use Rattle.own_model.specs.Stored.{row_named}
use Rattle.owner_model.specs.Joins.{row_of}
use Rattle.page_model.specs.Changed.{AreKeyed}
use Rattle.schema_model.proofs.Places.{at-place}
use Rattle.state_model.specs.ChangeOf.{TellsRows}
use Rattle.state_model.specs.MayBePut.{IsPutIn}
use Rattle.state_model.specs.Net.{net}
use Rattle.state_model.specs.Put.{changed_key, put, put_rows, row_after}
use Rattle.state_model.proofs.PutLeads.{put_leads}
use Rattle.state_model.proofs.PutRows.{put_in}
use Rattle.run_model.specs.Run.{run_bound}
use Rattle.run_model.proofs.SameSchema.{same_schema-bound}
use Rattle.write_eval.specs.declared.written.Written.{Written}
use Rattle.write_eval.specs.Write.{IsThere, IsWrite, table_of}
use Rattle.write_eval.specs.Writes.{Writes}
use Rattle.txn_space.specs.Differs.{differs}
use Rattle.txn_space.proofs.WriteNet.{write_net}
use Rattle.txn_core.specs.Single.{NetTo}
use Rattle.txn_core.proofs.OrderedWrites.{ordered-write}

-- the table of a write is there
write_there : (schema : Schema) (bound : Bound) → IsWrite schema bound → IsThere schema (table_of bound)
write_there schema (Insert table tuples) write = write
write_there schema (Update table sets cond) write = write.0
write_there schema (Delete table cond) write = write
write_there schema (Select query) write = absurd write
write_there schema (Get subject) write = absurd write
write_there schema (Forget subject) write = absurd write
write_there schema Explain write = absurd write

module _ (db : Db) (bound : Bound) (rising : AreRising db.schema.tables db.rows) (write : IsWrite db.schema bound)
    (written : Written) (writes : Writes db (run_bound db bound) (table_of bound) written) where
  abbrev left : Db
  left = (run_bound db bound).db

  same : left.schema ≡ db.schema
  same = (same_schema-bound db bound).schema

  ordered : IsOrdered db
  ordered = record { rising = rising }

  -- its changes, put into the rows, give those that it leaves
  writes_made : put_rows db.schema.tables written.changes db.rows ≡ left.rows
  writes_made = put_leads db left same written.changes ordered (ordered-write db bound ordered write) writes.leads

  -- each is of the table that is there
  theirs : (table : TableDef) → slice_get db.schema.tables (table_of bound).0 ≡ Some table → (changes : List Change) → Each (λ change. change.name.table ≡ table_of bound) changes
      → Each (TellsRows db left) changes → Each (IsPutIn db.schema.tables) changes
  theirs table at [] of tells = tt
  theirs table at (change ∷ changes) of tells =
      let here : slice_get db.schema.tables change.name.table.0 ≡ Some table = ap (λ (number : TableNo). slice_get db.schema.tables number.0) of.0 ∙ at in (
        put_in db.schema left.rows table change here (tells.0.is ∙ ap (λ (schema : Schema). row_named schema left.rows change.name) same),
        theirs table at changes of.1 tells.1,
      )

  writes_theirs : Each (IsPutIn db.schema.tables) written.changes
  writes_theirs =
      let there = at-place db.schema.tables (table_of bound).0 (write_there db.schema bound write) in
      theirs there.0 there.1 written.changes writes.of writes.leads.each

  -- each tells the row that was there, and no row but one of its key
  befores : (changes : List Change) → Each (TellsRows db left) changes → Each (λ change. change.before ≡ row_of db change.name) changes
  befores [] tells = tt
  befores (change ∷ changes) tells = (tells.0.was, befores changes tells.1)

  keyed : (table : TableDef) → slice_get db.schema.tables (table_of bound).0 ≡ Some table → (changes : List Change) → Each (λ change. change.name.table ≡ table_of bound) changes
      → Each (IsPutIn db.schema.tables) changes → AreKeyed (key_of table) changed_key row_after changes
  keyed table at [] of put = tt
  keyed table at (change ∷ changes) of put =
      let here : slice_get db.schema.tables change.name.table.0 ≡ Some table = ap (λ (number : TableNo). slice_get db.schema.tables number.0) of.0 ∙ at in
      (subst (λ (found : Option TableDef). IsSomeAnd found (λ t. IfSome change.after (λ row. key_of t row ≡ change.name.key))) here put.0, keyed table at changes of.1 put.1)

  -- so their net is those after which a row isn't as it was
  pub writes_read : net db (put db written.changes) ≡ filter differs written.changes
  writes_read =
      let there = at-place db.schema.tables (table_of bound).0 (write_there db.schema bound write) in
      write_net (table_of bound) written.changes writes.of db there.0 there.1 rising writes.rising (keyed there.0 there.1 written.changes writes.of writes_theirs) (befores written.changes writes.leads.each)

  -- and that is the net of the write
  pub writes_net : (changes : List Change) → changes ≡ net db (put db written.changes) → NetTo db (run_bound db bound) (Counted written.count) changes
  unfolding net
  writes_net changes is = record { told = writes.reply; schema = same; is_net = is ∙ rw (writes_made, same) refl }
