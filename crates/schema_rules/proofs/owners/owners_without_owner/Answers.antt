use Rattle.std.proofs.Common.{◌≡◌, [], cond, filter, map, ap, sym, ◌∙◌, rules, tests}
use Rattle.std.specs.List.{find, slice_get}
use Rattle.std.specs.Option.{option_copied, option_map}
use Rattle.std.proofs.lemmas.Iterator.{YieldsList-from_slice}
use Rattle.std.proofs.lemmas.Iterator.Search.{find_from_yields_List}
use Rattle.schema_draft.specs.Lent.{reference_seen}
use Rattle.schema_model.specs.Kinds.{is_downward}
use Rattle.schema_model.specs.References.{references_of}
use Rattle.schema_model.specs.rules.OwnersWithoutOwner.{owners_without_owner}
use Rattle.schema_rules.proofs.Firsts.{first-passing}
use Rattle.schema_rules.proofs.owners.owners_without_owner.Goals as goal

pub returns-then-may_own : goal.returns-then-may_own
unfolding owners_without_owner
returns-then-may_own c = search rules

pub returns : goal.returns
unfolding owners_without_owner
returns c =
    let references = c.references.result.now in
    let found : option_copied c.find.result ≡ find (λ reference. is_downward reference.refers.now.kind) references =
    find_from_yields_List (λ reference. is_downward reference.refers.now.kind) _ _ c.find.result c.find.ensures.ran (YieldsList-from_slice references cc) (λ x b q k. search (rules, tests)) in
    let named : option_copied c.map.result ≡ option_map (λ reference. reference.column.now) (option_copied c.find.result) = search rules in
    let owners = map (λ reference. reference.column) (filter (λ reference. is_downward reference.refers.kind) (references_of c.args.draft.now)) in
    named ∙ ap (option_map (λ reference. reference.column.now)) found
    ∙ first-passing (λ reference. is_downward reference.refers.kind) (λ reference. reference.column) reference_seen references (references_of c.args.draft.now) c.references.ensures
    ∙ ap (λ may. slice_get (cond may [] owners) 0) (sym (sym c.may_own.ensures ∙ c.if-may_own.false))
