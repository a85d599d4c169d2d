use Rattle.std.proofs.Common.{◌≡◌, ◌∙◌, bytes_eq, rules, tests}
use Rattle.std.specs.List.{list_any}
use Rattle.std.proofs.lemmas.Iterator.{YieldsList-from_slice}
use Rattle.std.proofs.lemmas.Iterator.Search.{any_from_yields_List}
use Rattle.schema_draft.proofs.Lookups.{list_any-map}
use Rattle.schema_rules.proofs.columns.is_named.Goals as goal

pub returns : goal.returns
returns c =
    let columns = c.args.columns.now in
    let name = c.args.name.now in
    let found : c.any.result ≡ list_any (λ column. bytes_eq column.now.name name) columns =
    any_from_yields_List (λ column. bytes_eq column.now.name name) _ _ c.any.result c.any.ensures.ran (YieldsList-from_slice columns cc) (λ x b q k. search (rules, tests)) in
    found ∙ list_any-map (λ other. bytes_eq other name) (λ column. column.now.name) columns
