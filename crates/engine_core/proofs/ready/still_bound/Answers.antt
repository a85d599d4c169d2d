use Rattle.std.proofs.Common.{◌∙◌, ap, length, subst}
use Rattle.std.specs.Prelude.{IfSome}
use Rattle.serve_model.specs.Ahead.{IsBoundAhead}
use Rattle.engine_core.proofs.KeptSchemas.{still-meant}
use Rattle.engine_core.proofs.ready.still_bound.Goals as goal

-- as many creates as then: the schema is the same
pub returns : goal.returns
returns c =
    still-meant c.args.state.now c.args.history.now c.args.entry.now c.in-Some.field-0 c.requires.event
    (subst (λ ahead. IfSome ahead (IsBoundAhead c.args.state.now.opened c.args.history.now c.args.entry.now.request)) c.in-Some.is c.requires.ahead)
    (c.if-creates.false ∙ ap length (c.creates.ensures ∙ c.catalog.ensures.creates))
