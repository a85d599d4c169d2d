use Rattle.std.proofs.Common.{◌∙◌, ap}
use Rattle.schema_draft.specs.Names.{named_at}
use Rattle.schema_draft.proofs.NameLookups.{lookup-named_at}
use Rattle.schema_draft.proofs.names.Names.named.Goals as goal

pub returns : goal.returns
returns c =
    c.copied.ensures ∙ c.get.ensures.value ∙ lookup-named_at c.self.inside.numbers.entries c.args.name.now
    ∙ ap (λ names. named_at names c.args.name.now) c.self.view_is
