use Rattle.std.proofs.Common.{◌≡◌, ap, sym, ◌∙◌, rules, tests, bytes_eq, map, filter}
use Rattle.std.specs.List.{find, slice_get}
use Rattle.std.specs.Option.{option_copied, option_map}
use Rattle.std.proofs.lemmas.Iterator.{YieldsList-from_slice}
use Rattle.std.proofs.lemmas.Iterator.Search.{find_from_yields_List}
use Rattle.schema_draft.specs.Lent.{reference_seen}
use Rattle.schema_model.specs.References.{references_of}
use Rattle.schema_model.specs.rules.PrimaryKeysThatRefer.{primary_keys_that_refer}
use Rattle.schema_rules.proofs.Firsts.{first-passing, filter-map}
use Rattle.schema_rules.proofs.keys.primary_keys_that_refer.Goals as goal

pub returns : goal.returns
unfolding primary_keys_that_refer
returns c =
    let key = c.key_bytes-key.result.now in
    let references = c.references.result.now in
    let all = references_of c.args.draft.now in
    let found : option_copied c.find.result ≡ find (λ reference. bytes_eq reference.column.now key) references =
    find_from_yields_List (λ reference. bytes_eq reference.column.now key) _ _ c.find.result c.find.ensures.ran (YieldsList-from_slice references cc) (λ x b q k. search (rules, tests)) in
    let named : option_copied c.map.result ≡ option_map (λ reference. reference.column.now) (option_copied c.find.result) = search rules in
    named ∙ ap (option_map (λ reference. reference.column.now)) found
    ∙ first-passing (λ reference. bytes_eq reference.column key) (λ reference. reference.column) reference_seen references all c.references.ensures
    ∙ sym (ap (λ columns. slice_get columns 0) (filter-map (λ column. bytes_eq column key) (λ reference. reference.column) all))
    ∙ ap (λ key. slice_get (filter (λ column. bytes_eq column key) (map (λ reference. reference.column) all)) 0) c.key_bytes-key.ensures
