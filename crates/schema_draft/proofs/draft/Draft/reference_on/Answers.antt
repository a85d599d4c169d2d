use Rattle.std.proofs.Common.{◌≡◌, ap, ◌∙◌, rules, bytes_eq, tests}
use Rattle.std.specs.List.{find}
use Rattle.std.specs.Option.{option_map, option_copied}
use Rattle.std.proofs.lemmas.Iterator.{YieldsList-from_slice}
use Rattle.std.proofs.lemmas.Iterator.Search.{find_from_yields_List}
use Rattle.schema_draft.specs.Lent.{reference_seen}
use Rattle.schema_draft.proofs.Lookups.{reference_on-lent}
use Rattle.schema_draft.proofs.draft.Draft.reference_on.Goals as goal

pub returns : goal.returns
returns c =
    let column = c.args.column.now in
    let references = c.self.inside.references.items in
    let found : option_copied c.find.result ≡ find (λ reference. bytes_eq reference.column.now column) references =
    find_from_yields_List (λ reference. bytes_eq reference.column.now column) _ _ c.find.result c.find.ensures.ran (YieldsList-from_slice references cc) (λ x b q k. search (rules, tests)) in
    ap (option_map reference_seen) (c.copied.ensures ∙ found) ∙ reference_on-lent c.args.self.now references (cc) column
