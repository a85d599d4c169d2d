use Rattle.std.proofs.Common.{◌∙◌, sym, ap, subst, bytes_eq, ◌∷◌, []}
use Rattle.indexmap.specs.IndexMap.{insert_entry}
use Rattle.schema_draft.specs.Names.{AddsNames, named_at}
use Rattle.schema_draft.proofs.NameLookups.{AddsNames-insert}
use Rattle.schema_draft.proofs.names.Names.add.Goals as goal

pub returns-in_ok-insert : goal.returns-in_ok-insert
returns-in_ok-insert c =
    let entries = c.in_ok-insert.ensures.entries ∙ ap (λ key. insert_entry bytes_eq c.self.inside.numbers.entries key c.args.named) c.in_ok-copy.ensures in
    let absent = sym c.is_taken.ensures ∙ c.if-not-is_taken.true in
    subst (λ names. AddsNames c.args.self.now names (named_at ((c.args.name.now, c.args.named) ∷ []))) (sym entries)
    (AddsNames-insert c.self.inside.numbers c.args.self.now c.args.name.now c.args.named c.self.view_is absent)
