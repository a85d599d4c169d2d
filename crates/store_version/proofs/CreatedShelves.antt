-- What is kept of each subject stands for a database with a table or a view more, and nothing is kept at first.
use Rattle.std.proofs.Common.{◌≡◌, ℕ, List, [], ap, refl, sym}
use Rattle.own_model.specs.declared.schema.Schema.{Schema}
use Rattle.own_model.specs.declared.schema.ViewDef.{ViewDef}
use Rattle.own_model.specs.Db.{Db, IsOrdered, empty}
use Rattle.own_model.specs.Stored.{row_named}
use Rattle.schema_model.specs.OwnerSchema.{IsOwnerSchema}
use Rattle.schema_model.proofs.OwnerSchemaLemmas.{owner_schema-with_table}
use Rattle.state_model.specs.Create.{create}
use Rattle.annot_schema.specs.Created.{IsAdmissible}
use Rattle.annot_schema.specs.declared.admitted.Admitted.{Admitted}
use Rattle.annot_schema.proofs.SoundSchemas.{schema_with-admitted}
use Rattle.micro_db.specs.declared.micro.MicroDb.{MicroDb}
use Rattle.micro_db.specs.Kept.{StandsFor}
use Rattle.micro_db.proofs.AlikeLemmas.{stands-create}
use Rattle.micro_db.proofs.BareLemmas.{stands-bare}
use Rattle.micro_db.proofs.CreateLemmas.{none-stands}
use Rattle.store_version.specs.Added.{db_viewed, db_with}

-- nothing, for a database without tables
pub kept-empty : (micro : MicroDb) → micro.shelves ≡ [] → micro.seen ≡ [] → StandsFor empty micro
unfolding row_named
kept-empty micro no_shelves no_seen = none-stands empty micro no_shelves no_seen (λ name. refl)

-- the same, with a table that was admitted
pub kept-with : (db : Db) (admitted : Admitted) (text : List ℕ) (micro : MicroDb) → IsOrdered db → IsOwnerSchema db.schema → IsAdmissible db.schema admitted
    → StandsFor db micro → StandsFor (db_with db admitted text) micro
unfolding create
kept-with db admitted text micro ordered owner by stands =
    let schema = schema_with-admitted db.schema by.holds_rows by.create admitted by.by in
    stands-bare (create db by.create) (db_with db admitted text) micro (ap (λ (schema : Schema). schema.tables) (sym schema)) (ap (λ (schema : Schema). schema.edges) (sym schema)) refl
    (stands-create db ordered owner by.create micro (owner_schema-with_table db.schema by.holds_rows by.create owner by.by.unrefused) stands)

-- and with a view
pub kept-viewed : (db : Db) (view : ViewDef) (text : List ℕ) (micro : MicroDb) → StandsFor db micro → StandsFor (db_viewed db view text) micro
kept-viewed db view text micro stands = stands-bare db (db_viewed db view text) micro refl refl refl stands
