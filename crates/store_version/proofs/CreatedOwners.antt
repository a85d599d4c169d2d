-- What is held for a database is so for it with a table or a view more, and nothing is held at first.
use Rattle.std.proofs.Common.{ℕ, List, [], ap, refl, sym}
use Rattle.own_model.specs.declared.schema.ViewDef.{ViewDef}
use Rattle.own_model.specs.declared.schema.Schema.{Schema}
use Rattle.own_model.specs.Db.{Db, IsOrdered, empty}
use Rattle.own_model.specs.Stored.{row_named}
use Rattle.schema_model.specs.OwnerSchema.{IsOwnerSchema}
use Rattle.schema_model.proofs.OwnerSchemaLemmas.{owner_schema-empty, owner_schema-with_table}
use Rattle.state_model.specs.Create.{create}
use Rattle.annot_schema.specs.Created.{IsAdmissible}
use Rattle.annot_schema.specs.declared.admitted.Admitted.{Admitted}
use Rattle.annot_schema.proofs.SoundSchemas.{schema_with-admitted}
use Rattle.owner_index.specs.Entry.{Entry}
use Rattle.owner_index.specs.Held.{StandsFor}
use Rattle.owner_index.proofs.CreateLemmas.{none_stands, stands-create}
use Rattle.store_version.specs.Added.{db_viewed, db_with}
use Rattle.store_version.proofs.SameOwners.{stands-bare}

-- nothing, for a database without tables
pub stands-empty : StandsFor empty []
unfolding row_named
stands-empty = none_stands empty (record { rising = tt }) owner_schema-empty (λ name. refl)

-- the same, with a table that was admitted
pub stands-with : (db : Db) (admitted : Admitted) (text : List ℕ) (entries : List Entry) → IsOrdered db → IsOwnerSchema db.schema → IsAdmissible db.schema admitted
    → StandsFor db entries → StandsFor (db_with db admitted text) entries
unfolding create
stands-with db admitted text entries ordered owner by stands =
    let schema = schema_with-admitted db.schema by.holds_rows by.create admitted by.by in
    stands-bare (create db by.create) (db_with db admitted text) entries (ap (λ (schema : Schema). schema.tables) (sym schema)) (ap (λ (schema : Schema). schema.edges) (sym schema)) refl
    (stands-create db by.create entries ordered owner (owner_schema-with_table db.schema by.holds_rows by.create owner by.by.unrefused) stands)

-- and with a view
pub stands-viewed : (db : Db) (view : ViewDef) (text : List ℕ) (entries : List Entry) → StandsFor db entries → StandsFor (db_viewed db view text) entries
stands-viewed db view text entries stands = stands-bare db (db_viewed db view text) entries refl refl refl stands
