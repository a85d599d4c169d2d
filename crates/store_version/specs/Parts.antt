-- What a version represents.
use Rattle.std.specs.Prelude.{◌≡◌, List, map}
use Rattle.annot_schema.specs.Created.{Created}
use Rattle.own_model.specs.declared.schema.TableDef.{TableDef}
use Rattle.own_model.specs.Db.{Db}
use Rattle.table_part.specs.Part.{Part, rows_of}

-- the database: the texts and the schema of the catalog, and the rows of each table
abbrev pub db_of : Created → List Part → Db
db_of catalog parts = record {
  creates = catalog.creates;
  schema = catalog.schema;
  rows = map rows_of parts;
}

-- the parts are those of the tables: as many, by the same keys
abbrev pub AreTheirParts : List TableDef → List Part → Type 0
AreTheirParts tables parts = map (λ part. part.key) parts ≡ map (λ table. table.key) tables
