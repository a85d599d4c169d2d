-- The changes of a write tell what stands, and lead to what the write leaves.
use Rattle.std.proofs.Common.{◌≡◌, ◌∙◌, List, [], ◌∷◌, ap, subst, sym}
use Rattle.std.specs.Prelude.{Some, slice_get}
use Rattle.std.specs.List.{AllByRecursion as Each}
use Rattle.own_base.specs.declared.change.Change.{Change}
use Rattle.own_base.specs.declared.number.TableNo.{TableNo}
use Rattle.own_model.specs.declared.bound.Bound.{Bound}
use Rattle.own_model.specs.declared.bound.Bound.TheVariants.{Delete, Explain, Forget, Get, Insert, Select, Update}
use Rattle.own_model.specs.declared.schema.Schema.{Schema}
use Rattle.own_model.specs.declared.schema.TableDef.{TableDef}
use Rattle.own_model.specs.Db.{Db}
use Rattle.own_model.specs.Stored.{row_named}
use Rattle.ref_index.specs.Tells.{Tell}
use Rattle.ref_index.proofs.TellLemmas.{lead_tells}
use Rattle.run_model.specs.Run.{run_bound}
use Rattle.run_model.proofs.SameSchema.{same_schema-bound}
use Rattle.schema_model.proofs.Places.{at-place}
use Rattle.state_model.specs.ChangeOf.{TellsRows}
use Rattle.state_model.specs.MayBePut.{IsPutIn}
use Rattle.state_model.specs.Put.{put, put_rows}
use Rattle.state_model.specs.Sound.{IsWellFormed}
use Rattle.state_model.proofs.PutLeads.{put_leads}
use Rattle.state_model.proofs.PutRows.{put_in}
use Rattle.write_eval.specs.declared.written.Written.{Written}
use Rattle.write_eval.specs.Write.{IsThere, IsWrite, table_of}
use Rattle.write_eval.specs.Writes.{Writes}

-- the table of a write is there
there : (schema : Schema) (bound : Bound) → IsWrite schema bound → IsThere schema (table_of bound)
there schema (Insert table tuples) write = write
there schema (Update table sets cond) write = write.0
there schema (Delete table cond) write = write
there schema (Select query) write = absurd write
there schema (Get subject) write = absurd write
there schema (Forget subject) write = absurd write
there schema Explain write = absurd write

module _ (db : Db) (bound : Bound) (kept : IsWellFormed db) (write : IsWrite db.schema bound) (left_kept : IsWellFormed (run_bound db bound).db)
    (written : Written) (writes : Writes db (run_bound db bound) (table_of bound) written) where
  abbrev left : Db
  left = (run_bound db bound).db

  same : left.schema ≡ db.schema
  same = (same_schema-bound db bound).schema

  -- put into the rows they give those that are left
  made : put_rows db.schema.tables written.changes db.rows ≡ left.rows
  made = put_leads db left same written.changes kept.ordered left_kept.ordered writes.leads

  put-left : left ≡ put db written.changes
  put-left = λ i. record { creates = (same_schema-bound db bound).creates i; schema = same i; rows = sym made i }

  pub kept-put : IsWellFormed (put db written.changes)
  kept-put = subst IsWellFormed put-left left_kept

  -- each is of the table of the write, and puts no row but one of its key
  theirs : (table : TableDef) → slice_get db.schema.tables (table_of bound).0 ≡ Some table → (changes : List Change) → Each (λ change. change.name.table ≡ table_of bound) changes
      → Each (TellsRows db left) changes → Each (IsPutIn db.schema.tables) changes
  theirs table at [] of tells = tt
  theirs table at (change ∷ changes) of tells =
      let here : slice_get db.schema.tables change.name.table.0 ≡ Some table = ap (λ (number : TableNo). slice_get db.schema.tables number.0) of.0 ∙ at in (
        put_in db.schema left.rows table change here (tells.0.is ∙ ap (λ (schema : Schema). row_named schema left.rows change.name) same),
        theirs table at changes of.1 tells.1,
      )

  pub tells-written : Tell db written.changes
  tells-written =
      let at = at-place db.schema.tables (table_of bound).0 (there db.schema bound write) in
      lead_tells db left written.changes writes.leads (record { theirs = theirs at.0 at.1 written.changes writes.of writes.leads.each; once = writes.leads.once })
