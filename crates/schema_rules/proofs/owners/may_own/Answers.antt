use Rattle.std.proofs.Common.{◌≡◌, ◌||◌, ap, ◌∙◌, rules, sym, tests}
use Rattle.std.specs.List.{list_any}
use Rattle.std.proofs.lemmas.Iterator.{YieldsList-from_slice}
use Rattle.std.proofs.lemmas.Iterator.Search.{any_from_yields_List}
use Rattle.schema_draft.proofs.Lookups.{list_any-map}
use Rattle.schema_draft.specs.Lent.{reference_seen}
use Rattle.schema_model.specs.Kinds.{is_owned_by}
use Rattle.schema_model.specs.References.{references_of}
use Rattle.schema_rules.proofs.owners.may_own.Goals as goal

pub returns-else-create : goal.returns-else-create
returns-else-create c =
    let references = c.references.result.now in
    let found : c.any.result ≡ list_any (λ reference. is_owned_by reference.refers.now.kind) references =
    any_from_yields_List (λ reference. is_owned_by reference.refers.now.kind) _ _ c.any.result c.any.ensures.ran (YieldsList-from_slice references cc) (λ x b q k. search (rules, tests)) in
    let owned : list_any (λ reference. is_owned_by reference.refers.now.kind) references ≡ list_any (λ reference. is_owned_by reference.refers.kind) (references_of c.args.draft.now) =
    list_any-map (λ reference. is_owned_by reference.refers.kind) reference_seen references ∙ ap (list_any (λ reference. is_owned_by reference.refers.kind)) c.references.ensures in
    found ∙ owned ∙ sym (ap (λ subject. subject || list_any (λ reference. is_owned_by reference.refers.kind) (references_of c.args.draft.now)) (sym (ap (λ create. create.subject) c.create.ensures) ∙ c.if-create.false))
