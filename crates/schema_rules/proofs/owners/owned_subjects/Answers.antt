use Rattle.std.proofs.Common.{◌≡◌, ap, ◌∙◌, rules, tests}
use Rattle.std.specs.List.{find}
use Rattle.std.specs.Option.{option_copied, option_map}
use Rattle.std.proofs.lemmas.Iterator.{YieldsList-from_slice}
use Rattle.std.proofs.lemmas.Iterator.Search.{find_from_yields_List}
use Rattle.schema_draft.specs.Lent.{reference_seen}
use Rattle.schema_model.specs.References.{references_of}
use Rattle.schema_model.specs.rules.OwnedSubjects.{owned_subjects, owns_subjects}
use Rattle.schema_rules.proofs.Firsts.{first-passing}
use Rattle.schema_rules.proofs.owners.owned_subjects.Goals as goal

pub returns : goal.returns
unfolding owned_subjects
returns c =
    let schema = c.args.scene.now.schema.now in
    let create = c.args.scene.now.draft.now in
    let references = c.references.result.now in
    let found : option_copied c.find.result ≡ find (λ reference. owns_subjects schema create (reference_seen reference)) references =
    find_from_yields_List (λ reference. owns_subjects schema create (reference_seen reference)) _ _ c.find.result c.find.ensures.ran (YieldsList-from_slice references cc) (λ x b q k. search (rules, tests)) in
    let named : option_copied c.map.result ≡ option_map (λ reference. reference.column.now) (option_copied c.find.result) = search rules in
    named ∙ ap (option_map (λ reference. reference.column.now)) found
    ∙ first-passing (λ reference. owns_subjects schema create reference) (λ reference. reference.column) reference_seen references (references_of create) c.references.ensures
