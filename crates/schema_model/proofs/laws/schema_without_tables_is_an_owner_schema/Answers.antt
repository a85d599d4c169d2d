use Rattle.schema_model.proofs.OwnerSchemaLemmas.{owner_schema-empty}
use Rattle.schema_model.proofs.laws.schema_without_tables_is_an_owner_schema.Goals as goal

pub returns : goal.returns
returns c = owner_schema-empty
