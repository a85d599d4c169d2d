-- What a CREATE TABLE leaves is a database as statements leave it.
use Rattle.std.proofs.Common.{◌≡◌, ◌∙◌, ℕ, List, refl, subst, sym}
use Rattle.annot_schema.specs.declared.admitted.Admitted.{Admitted}
use Rattle.annot_schema.specs.Created.{IsAdmitted}
use Rattle.own_model.specs.declared.create.CreateTable.{CreateTable as TableCreate}
use Rattle.own_model.specs.declared.limit.TheConstants.{STATEMENT_BYTES}
use Rattle.own_model.specs.declared.statement.Statement.TheVariants.{CreateTable}
use Rattle.own_model.specs.Db.{Db}
use Rattle.own_model.specs.Stored.{holds_rows}
use Rattle.grammar_model.specs.Readable.{IsWritten}
use Rattle.schema_model.specs.WithTable.{with_table}
use Rattle.state_model.specs.Create.{create}
use Rattle.state_model.specs.Sound.{IsWellFormed}
use Rattle.state_model.proofs.WellFormedLemmas.{kept-create}
use Rattle.store_version.specs.Added.{db_with}
use Rattle.text_model.specs.Canonical.{canonical}

-- one that is admitted adds its table, its edges and its text
created : (db next : Db) (table : TableCreate) (admitted : Admitted) (text : List ℕ) → IsAdmitted db.schema (holds_rows db.rows) table admitted
    → text ≡ canonical (CreateTable table) → next ≡ db_with db admitted text → next ≡ create db table
unfolding create with_table
created db next table admitted text is text_is next_is = next_is ∙ (rw (is.table, is.edges, text_is) refl)

pub kept-next : (db next : Db) (table : TableCreate) (admitted : Admitted) (text : List ℕ) → IsWellFormed db → IsWritten STATEMENT_BYTES (CreateTable table)
    → IsAdmitted db.schema (holds_rows db.rows) table admitted → text ≡ canonical (CreateTable table) → next ≡ db_with db admitted text → IsWellFormed next
kept-next db next table admitted text kept written is text_is next_is =
    subst IsWellFormed (sym (created db next table admitted text is text_is next_is)) (kept-create db table kept written is.unrefused)
