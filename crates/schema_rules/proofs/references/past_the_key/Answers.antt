use Rattle.std.proofs.Common.{◌≡◌, not, ap, ◌∙◌, rules, tests}
use Rattle.std.specs.List.{find}
use Rattle.std.specs.Option.{option_copied, option_map}
use Rattle.std.proofs.lemmas.Iterator.{YieldsList-from_slice}
use Rattle.std.proofs.lemmas.Iterator.Search.{find_from_yields_List}
use Rattle.schema_draft.specs.Lent.{reference_seen}
use Rattle.schema_model.specs.References.{references_of}
use Rattle.schema_model.specs.rules.PastTheKey.{names_the_key, past_the_key}
use Rattle.schema_rules.proofs.Firsts.{first-passing}
use Rattle.schema_rules.proofs.references.past_the_key.Goals as goal

pub returns : goal.returns
unfolding past_the_key
returns c =
    let schema = c.args.scene.now.schema.now in
    let create = c.args.scene.now.draft.now in
    let references = c.references.result.now in
    let found : option_copied c.find.result ≡ find (λ reference. not (names_the_key schema create (reference_seen reference))) references =
    find_from_yields_List (λ reference. not (names_the_key schema create (reference_seen reference))) _ _ c.find.result c.find.ensures.ran (YieldsList-from_slice references cc) (λ x b q k. search (rules, tests)) in
    let named : option_copied c.map.result ≡ option_map (λ reference. reference.refers.now.column) (option_copied c.find.result) = search rules in
    named ∙ ap (option_map (λ reference. reference.refers.now.column)) found
    ∙ first-passing (λ reference. not (names_the_key schema create reference)) (λ reference. reference.refers.column) reference_seen references (references_of create) c.references.ensures
