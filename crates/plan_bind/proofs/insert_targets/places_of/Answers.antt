use Rattle.std.proofs.Common.{arith}
use Rattle.std.proofs.lemmas.Grind.{common_steps}
use Rattle.plan_bind.proofs.ColumnLists.{place_of-columns_meant}
use Rattle.plan_bind.proofs.insert_targets.places_of.Goals as goal

-- one place more
pub loop-column-preserved : goal.loop-column-preserved
loop-column-preserved c = grind (arith, common_steps, place_of-columns_meant c.args.columns.now c.column-item.result.number.0)
