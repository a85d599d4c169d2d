use Rattle.std.proofs.Common.{◌≡◌, ◌∙◌, rules, bytes_eq, tests}
use Rattle.std.specs.List.{list_any}
use Rattle.std.proofs.lemmas.Iterator.{YieldsList-from_slice}
use Rattle.std.proofs.lemmas.Iterator.Search.{any_from_yields_List}
use Rattle.schema_draft.proofs.Lookups.{is_named-lent}
use Rattle.schema_draft.proofs.draft.Draft.has_column.Goals as goal

pub returns : goal.returns
returns c =
    let name = c.args.name.now in
    let columns = c.self.inside.columns.items in
    let found : c.any.result ≡ list_any (λ column. bytes_eq column.now.name name) columns =
    any_from_yields_List (λ column. bytes_eq column.now.name name) _ _ c.any.result c.any.ensures.ran (YieldsList-from_slice columns cc) (λ x b q k. search (rules, tests)) in
    found ∙ is_named-lent c.args.self.now columns (cc) name
