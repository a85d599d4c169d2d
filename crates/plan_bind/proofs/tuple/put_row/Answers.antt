use Rattle.std.proofs.Common.{map, ap, sym, ◌∙◌, arith}
use Rattle.std.proofs.lemmas.List.{take_all}
use Rattle.std.proofs.lemmas.Result.{IfOk-weaker}
use Rattle.plan_bind.specs.InsertTargets.{value_at}
use Rattle.plan_bind.proofs.Given.{put_row_at}
use Rattle.plan_bind.proofs.tuple.put_row.Goals as goal

-- the values of all columns
pub returns : goal.returns
returns c = IfOk-weaker c.into_shared.result _ _ (λ row is. is ∙ c.from_values.ensures
    ∙ c.from_vec.ensures
    ∙ c.loop-place.invariant
    ∙ ap (λ places. map (value_at c.args.tuple.now) places) (take_all c.loop-place.place-index c.places-places.result.now (omega arith))
    ∙ ap (λ places. map (value_at c.args.tuple.now) places) c.places-places.ensures
    ∙ sym (put_row_at c.args.targets.now.table c.args.targets.now.names c.args.tuple.now)) c.into_shared.ensures
