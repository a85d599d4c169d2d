use Rattle.std.proofs.Common.{◌≡◌, ap, ◌∙◌, rules, tests, bytes_eq}
use Rattle.std.specs.List.{find}
use Rattle.std.specs.Option.{option_copied, option_map}
use Rattle.std.proofs.lemmas.Iterator.{YieldsList-from_slice}
use Rattle.std.proofs.lemmas.Iterator.Search.{find_from_yields_List}
use Rattle.schema_draft.proofs.Lookups.{find-map}
use Rattle.schema_rules.proofs.references.column_named.Goals as goal

pub returns : goal.returns
returns c =
    let name = c.args.name.now in
    let columns = c.columns.result.now in
    let found : option_copied c.find.result ≡ find (λ column. bytes_eq column.now.name name) columns =
    find_from_yields_List (λ column. bytes_eq column.now.name name) _ _ c.find.result c.find.ensures.ran (YieldsList-from_slice columns cc) (λ x b q k. search (rules, tests)) in
    ap (option_map (λ column. column.now)) (c.copied.ensures ∙ found)
    ∙ find-map (λ column. bytes_eq column.name name) (λ column. column.now) columns
    ∙ ap (find (λ column. bytes_eq column.name name)) c.columns.ensures
