use Rattle.std.proofs.Common.{ap, sym, ◌∙◌}
use Rattle.std.specs.Option.{option_copied}
use Rattle.owner_model.proofs.ColumnSetLemmas.{set_of-none}
use Rattle.schema_model.specs.NewEdges.{set_named}
use Rattle.schema_model.specs.OnRules.{ruled_by}
use Rattle.schema_draft.specs.Lent.{is_effect}
use Rattle.schema_draft.proofs.edges.ruled_below.Goals as goal

pub returns-in-None : goal.returns-in-None
returns-in-None c =
    set_of-none
    ∙ ap (λ below. set_named (option_copied below) (ruled_by (is_effect c.args.effect) c.args.draft.now c.args.column.now)) (sym c.in-None.is)
