use Rattle.std.proofs.Common.{◌≡◌, ◌∷◌, [], ◌++◌, length, ap, sym, arith}
use Rattle.std.specs.Prelude.{Some, slice_get}
use Rattle.std.specs.Option.{option_map_or}
use Rattle.std.proofs.lemmas.Bool.{ltb-false}
use Rattle.own_model.specs.declared.schema.TableDef.{TableDef}
use Rattle.schema_model.specs.NewTable.{new_table}
use Rattle.schema_model.proofs.Places.{slice_get-push}
use Rattle.annot_schema.proofs.walks.name_of.Goals as goal

-- the table behind those of the schema is the new one
pub returns-in-None : goal.returns-in-None
unfolding new_table
returns-in-None c =
    let tables = c.args.schema.now.tables in
    let table = new_table c.args.schema.now c.args.create.now in
    let past = ltb-false c.args.table.0 (length c.items.result.now) (sym c.in-None.ensures.lookup.0) in
    let next : c.args.table.0 ≡ length tables = omega (arith, past, ap length c.items.ensures) in
    let there : slice_get (tables ++ table ∷ []) c.args.table.0 ≡ Some table = rw next (slice_get-push tables table) in
    sym (ap (λ o. option_map_or (λ (definition : TableDef). definition.name) o []) there)
