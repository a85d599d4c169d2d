use Rattle.schema_model.proofs.OwnerSchemaLemmas.{owner_schema-with_table}
use Rattle.schema_model.proofs.laws.admitted_schema_is_an_owner_schema.Goals as goal

pub returns : goal.returns
returns c = owner_schema-with_table
