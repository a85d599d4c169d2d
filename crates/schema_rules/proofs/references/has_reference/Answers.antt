use Rattle.std.proofs.Common.{◌≡◌, ◌∙◌, bytes_eq, rules, tests}
use Rattle.std.specs.List.{list_any}
use Rattle.std.proofs.lemmas.Iterator.{YieldsList-from_slice}
use Rattle.std.proofs.lemmas.Iterator.Search.{any_from_yields_List}
use Rattle.schema_draft.proofs.Lookups.{list_any-map}
use Rattle.schema_rules.proofs.references.has_reference.Goals as goal

pub returns : goal.returns
returns c =
    let references = c.args.references.now in
    let column = c.args.column.now in
    let found : c.any.result ≡ list_any (λ reference. bytes_eq reference.column.now column) references =
    any_from_yields_List (λ reference. bytes_eq reference.column.now column) _ _ c.any.result c.any.ensures.ran (YieldsList-from_slice references cc) (λ x b q k. search (rules, tests)) in
    found ∙ list_any-map (λ other. bytes_eq other column) (λ reference. reference.column.now) references
