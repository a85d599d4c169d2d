use Rattle.std.proofs.Common.{ap, ◌∙◌}
use Rattle.std.specs.Prelude.{unwrap_or}
use Rattle.query_model.specs.Truth.{cell}
use Rattle.commit_check.proofs.CountLemmas.{repeated}
use Rattle.commit_check.proofs.LentOrder.{looked_up}
use Rattle.commit_check.proofs.value_counts.is_repeated.Goals as goal

pub returns-in-Some : goal.returns-in-Some
returns-in-Some c = λ rows counts.
    repeated c.args.column.0 rows c.in-Some.value (cell c.args.row.now c.args.column.0) c.args.counts.now.entries c.unwrap_or.result counts c.in-Some.ensures
    (c.unwrap_or.ensures ∙ (ap (λ found. unwrap_or found 0) (c.copied.ensures ∙ c.get.ensures.value) ∙ looked_up c.in-Some.value c.args.counts.now.entries))
