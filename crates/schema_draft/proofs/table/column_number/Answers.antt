use Rattle.std.proofs.Common.{◌≡◌, ap, ◌∙◌, rules, bytes_eq, tests}
use Rattle.std.specs.List.{position}
use Rattle.std.proofs.lemmas.Iterator.{YieldsList-from_slice}
use Rattle.std.proofs.lemmas.Iterator.Search.{position_from_yields_List}
use Rattle.schema_draft.proofs.Lookups.{position-map}
use Rattle.schema_draft.proofs.table.column_number.Goals as goal

pub returns-clause-number : goal.returns-clause-number
returns-clause-number c =
    let name = c.args.name.now in
    let columns = c.columns.result.now in
    let found : c.position.result ≡ position (λ column. bytes_eq column.now.name name) columns =
    position_from_yields_List (λ column. bytes_eq column.now.name name) _ _ c.position.result c.position.ensures.ran (YieldsList-from_slice columns cc) (λ x b q k. search (rules, tests)) in
    found ∙ position-map (λ column. bytes_eq column.name name) (λ column. column.now) columns
    ∙ ap (position (λ column. bytes_eq column.name name)) c.columns.ensures
